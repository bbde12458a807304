-- The fields of a record, one after another.
use Rattle.std.proofs.Common.{◌≡◌, ℕ, suc, ◌+◌, ◌≤◌, false, cond, eqb, ltb, List, [], ◌∷◌, length, take, drop, Some, None, Option, sym, refl, ap, ◌∙◌, inl, inr, one-add, arith, length-drop}
use Rattle.std.specs.List.{prefix_len}
use Rattle.std.proofs.lemmas.List.{drop-drop, length-take-le}
use Rattle.std.proofs.lemmas.List.Sums.{prefix_len-le-length}
use Rattle.std.proofs.lemmas.Bool.{cases_Bool, le-ltb, lt-ltb, cases_lt}
use Rattle.std.proofs.lemmas.Bool.Decides.{nat_tests}
use Rattle.records.specs.Fields.{no_comma, up_to_comma, field_of, fields_of}

-- the fields from a place on
abbrev pub rest_from : List ℕ → ℕ → List (List ℕ)
rest_from xs from = cond (ltb (length xs) from) [] (fields_of (drop from xs))

rest_suc : (c : ℕ) (cs : List ℕ) (m : ℕ) → rest_from (c ∷ cs) (suc m) ≡ rest_from cs m
rest_suc c cs m =
    let same : ltb (suc (length cs)) (suc m) ≡ ltb (length cs) m = grind (arith, nat_tests) in
    rw same

-- the first field, and the rest
fields_step : (xs : List ℕ) → fields_of xs ≡ take (prefix_len no_comma xs) xs ∷ rest_from xs (prefix_len no_comma xs + 1)
fields_step [] = refl
fields_step (c ∷ cs) =
    elim (cases_Bool (eqb c 44)) [
      | inl e ↦
          let some : ltb (length (c ∷ cs)) 1 ≡ false = le-ltb _ _ (omega arith) in
          rw (e, some)
      | inr e ↦
          let next : 1 + prefix_len no_comma cs + 1 ≡ suc (prefix_len no_comma cs + 1) = omega arith in
          rw (e, fields_step cs, next, one-add) (ap (λ (fs : List (List ℕ)). (c ∷ take (prefix_len no_comma cs) cs) ∷ fs) (sym (rest_suc c cs (prefix_len no_comma cs + 1))))
    ]

pub rest_all : (xs : List ℕ) → fields_of xs ≡ rest_from xs 0
rest_all xs = let some : ltb (length xs) 0 ≡ false = le-ltb _ _ (omega arith) in rw some

-- the rest of a rest
rest_same : (xs : List ℕ) (from k next : ℕ) → from ≤ length xs → next ≡ from + k → rest_from (drop from xs) k ≡ rest_from xs next
rest_same xs from k next low at =
    let whole = length-drop from xs in
    let far : drop k (drop from xs) ≡ drop next xs = drop-drop k from xs ∙ ap (λ (n : ℕ). drop n xs) (sym at) in
    elim (cases_lt (length xs) next) [
      | inl h ↦ rw (lt-ltb (length xs) next h, lt-ltb (length (drop from xs)) k (omega arith))
      | inr h ↦ rw (le-ltb (length xs) next h, le-ltb (length (drop from xs)) k (omega arith), far)
    ]

-- the rest, by the field that is found at its place: none past the end, and else one and then the rest
abbrev pub onwards : List ℕ → ℕ → Option (List ℕ) → List (List ℕ)
onwards xs from None = []
onwards xs from (Some f) = f ∷ rest_from xs (from + length f + 1)

pub rest_by_field : (xs : List ℕ) (from : ℕ) → rest_from xs from ≡ onwards xs from (field_of xs from)
rest_by_field xs from =
    elim (cases_lt (length xs) from) [
      | inl h ↦ rw (lt-ltb (length xs) from h)
      | inr h ↦
          let most = prefix_len-le-length no_comma (drop from xs) in
          let long : length (up_to_comma xs from) ≡ prefix_len no_comma (drop from xs) = length-take-le (prefix_len no_comma (drop from xs)) (drop from xs) most in
          let rest = rest_same xs from (prefix_len no_comma (drop from xs) + 1) (from + length (up_to_comma xs from) + 1) h (omega arith) in
          rw (le-ltb (length xs) from h, fields_step (drop from xs), rest)
    ]

pub fields_by_field : (xs : List ℕ) → fields_of xs ≡ onwards xs 0 (field_of xs 0)
fields_by_field xs = rest_all xs ∙ rest_by_field xs 0
