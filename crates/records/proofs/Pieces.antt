-- The field at a place of a record, as the first piece of a split at commas.
use Rattle.std.proofs.Common.{◌≡◌, ℕ, ◌≤◌, Bool, true, false, eqb, ltb, List, ◌∷◌, ◌++◌, length, take, drop, Some, None, Option, MatchBool, sym, ap, ◌∙◌, arith, length-append}
use denote.Param.Members.{Mut}
use denote.Ref.{Bor}
use Rattle.std.specs.Fn.{ComputesKey}
use Rattle.std.specs.List.{prefix_len, IsFirstMatchOrLen}
use Rattle.std.specs.Option.{option_map}
use Rattle.std.specs.Slice.Iter.{split_rest, split_done, split_callee, split_steps}
use Rattle.std.specs.declared.slice.Split.{Split}
use Rattle.std.proofs.lemmas.Bool.{le-ltb}
use Rattle.std.proofs.lemmas.List.{take-append-le, take_all}
use Rattle.std.proofs.lemmas.List.Sums.{position_or_len_is}
use Rattle.records.specs.Fields.{no_comma, field_of}

front : (xs ys rest : List ℕ) (last : Bool) → MatchBool last (xs ≡ ys) ((y : ℕ) × (xs ≡ ys ++ (y ∷ rest))) → (length ys ≤ length xs) × (take (length ys) xs ≡ ys)
front xs ys rest true e = rw e (omega arith, take_all (length ys) ys (omega arith))
front xs ys rest false e = rw e.1 (omega (arith, length-append ys (e.0 ∷ rest)), take-append-le (length ys) ys (e.0 ∷ rest) (omega arith) ∙ take_all (length ys) ys (omega arith))

first_piece : (xs ys rest : List ℕ) (last : Bool) → MatchBool last (xs ≡ ys) ((y : ℕ) × (xs ≡ ys ++ (y ∷ rest)))
    → IsFirstMatchOrLen (λ c. eqb c 44) xs (length ys) → ys ≡ take (prefix_len no_comma xs) xs
first_piece xs ys rest last e f =
    let p = front xs ys rest last e in
    let n : prefix_len no_comma xs ≡ length ys = position_or_len_is (λ c. eqb c 44) xs (length ys) 0 p.0 (λ k h. f.0 k 0 (omega arith) h) (λ h. f.1 h 0) in
    rw n (sym p.1)

pub split_field : {F : Type 0} (g : Mut F (Bor ℕ × Unit {0}) Bool) (s t : Split ℕ F) (r : Option (Bor (List ℕ))) (line : List ℕ) (from : ℕ)
    → from ≤ length line → split_rest s ≡ drop from line → split_done s ≡ false → ComputesKey g (λ c. eqb c 44) (split_callee s) → split_steps g s r t
    → option_map (λ x. x.now) r ≡ field_of line from
split_field g s t None line from low is more calls step = let z : true ≡ false = sym step.0 ∙ more in cc
split_field g s t (Some x) line from low is more calls step =
    let far : ltb (length line) from ≡ false = le-ltb _ _ low in
    let piece = first_piece (split_rest s) x.now (split_rest t) (split_done t) step.1 (step.2 (λ c. eqb c 44) calls).1 in
    rw (far, sym is) (ap (λ (ys : List ℕ). Some ys) piece)
