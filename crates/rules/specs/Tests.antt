-- Truth values.
use Rattle.std.specs.Prelude.{◌≡◌, Bool, true, false, ◌||◌, refl}
use Rattle.std.proofs.Common.{sym}

pub same : (a b : Bool) → (a ≡ true → b ≡ true) → (b ≡ true → a ≡ true) → a ≡ b
same true b to from = sym (to refl)
same false true to from = from refl
same false false to from = refl

pub or_implied : (a b : Bool) → (a ≡ true → b ≡ true) → (a || b) ≡ b
or_implied true b implies = sym (implies refl)
or_implied false b implies = refl
