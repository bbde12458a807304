-- Sets as the bits of a number.
use Rattle.std.specs.Prelude.{ℕ, Bool, ◌==◌, bit_and}

-- the first set has each bit of the second
unfoldable pub contains : ℕ → ℕ → Bool
contains a b = bit_and a b == b
