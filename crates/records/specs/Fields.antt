-- The fields of a record: its octets, split at commas.
use Rattle.std.specs.Prelude.{ℕ, ◌+◌, Bool, cond, not, ◌||◌, List, [], ◌∷◌, length, take, drop, Some, None, Option, ◌==◌, nat_lt}
use Rattle.std.specs.List.{prefix_len}

abbrev pub no_comma : ℕ → Bool
no_comma c = not (c == 44)

-- the octets from a place up to the next comma, or to the end
abbrev pub up_to_comma : List ℕ → ℕ → List ℕ
up_to_comma xs from = take (prefix_len no_comma (drop from xs)) (drop from xs)

-- the field that begins at a place of the record
abbrev pub field_of : List ℕ → ℕ → Option (List ℕ)
field_of xs from = cond (nat_lt (length xs) from) None (Some (up_to_comma xs from))

-- an octet more in front of the first field
abbrev pub in_first : ℕ → List (List ℕ) → List (List ℕ)
in_first c [] = (c ∷ []) ∷ []
in_first c (f ∷ fs) = (c ∷ f) ∷ fs

-- all fields of a record: a comma ends one and begins the next
abbrev pub fields_of : List ℕ → List (List ℕ)
fields_of [] = [] ∷ []
fields_of (c ∷ cs) = cond (c == 44) ([] ∷ fields_of cs) (in_first c (fields_of cs))

-- a quote, or an octet that ends a line
abbrev pub stray : ℕ → Bool
stray c = c == 34 || (c == 13 || c == 10)

-- the first stray octet, by its place, where octets are read on from place i
abbrev pub stray_from : ℕ → List ℕ → Option ℕ
stray_from i [] = None
stray_from i (c ∷ cs) = cond (stray c) (Some i) (stray_from (i + 1) cs)
