-- A table of which the first k are in use, and one more.
use Rattle.std.proofs.Common.{◌≡◌, ℕ, ◌+◌, ◌-◌, ◌<◌, min, List, [], ◌∷◌, reverse, length, take, drop, set, Ok, sym, ap, ◌∙◌, add-one, arith}
use borrow.Rule.Slice.PartMut.{put_mid}
use Rattle.std.proofs.Math.Nat.{min_comm}
use Rattle.std.proofs.lemmas.List.{take_min, length-take, length-drop, length-reverse, reverse-append, take_more_set, set_split, take_rest, drop_more, drop_all, append-nil, drop-set-lt, drop-drop}
use Rattle.std.proofs.lemmas.Bool.Decides.{nat_tests}
use Rattle.reference.specs.Results.{free}
use Rattle.reference.specs.declared.refusals.Refusal.{Refusal}

module _ {X : Type 0} (xs : List X) (k : ℕ) where
  -- one more is free, by the lengths of the parts in use and not
  pub place_free : (e : Refusal) → k < length xs → free (length (reverse (take k xs))) (length (reverse (take k xs)) + length (drop k xs)) e ≡ Ok tt
  place_free e h = grind (arith, nat_tests, length-take k xs, length-drop k xs, length-reverse (take k xs))

-- what is left of a table after a write to its first free place
pub rest_more : {X : Type 0} (xs : List X) (k : ℕ) (x : X) → drop (k + 1) (set xs k x) ≡ drop 1 (drop k xs)
rest_more xs k x = drop-set-lt (k + 1) xs k x (omega arith) ∙ sym (drop-drop 1 k xs)

-- a table after a write through its free part
module _ {X : Type 0} (xs ys : List X) (k : ℕ) (x : X) (h : k < length xs) (e : ys ≡ set (take (length xs - k) (drop k xs)) 0 x) where
  written : put_mid k (length xs - k) xs ys ≡ set xs k x
  written =
      let rest : take (length xs - k) (drop k xs) ≡ drop k xs = take_rest xs k in
      let part : ys ≡ x ∷ drop (k + 1) xs = rw (rest, drop_more xs k x h) at e in
      let none : drop (length xs - k) (drop k xs) ≡ [] = drop_all (length xs - k) (drop k xs) (omega (arith, length-drop k xs)) in
      rw (part, none, append-nil (drop (k + 1) xs), set_split xs k x h, add-one)

  pub back_written : reverse (take (k + 1) (put_mid k (length xs - k) xs ys)) ≡ x ∷ reverse (take k xs)
  back_written = ap (λ (l : List X). reverse (take (k + 1) l)) written ∙ rw (take_more_set xs k x h, reverse-append)

  pub rest_written : drop (k + 1) (put_mid k (length xs - k) xs ys) ≡ drop 1 (drop k xs)
  rest_written = ap (λ (l : List X). drop (k + 1) l) written ∙ rest_more xs k x

-- the part up to the table's end, or up to a limit
pub take_at_most : {X : Type 0} (n m : ℕ) (xs : List X) → n ≡ min (length xs) m → take n xs ≡ take m xs
take_at_most n m xs e = ap (λ k. take k xs) (e ∙ min_comm (length xs) m) ∙ take_min m xs
