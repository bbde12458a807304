-- The first line, and those after it.
use Rattle.std.proofs.Common.{◌≡◌, ℕ, zero, suc, ◌+◌, ◌<◌, true, false, eqb, List, [], ◌∷◌, ◌++◌, length, take, drop, append_assoc, suc-add, arith, refl}
use Rattle.std.proofs.lemmas.List.{append-nil}
use Rattle.std.proofs.lemmas.Bool.{ne_eqb}
use Rattle.std.proofs.lemmas.Bool.Decides.{nat_tests}
use Rattle.batch.specs.Lines.{breaks, breaks_at, FirstBreak, NoBreak, lines_of}

-- a CR LF after the first octet stands one place nearer in the others
nearer : (x : ℕ) (xs : List ℕ) (k : ℕ) → breaks_at (x ∷ xs) (suc k) ≡ breaks_at xs k
nearer x xs k = grind (arith, nat_tests)

-- it ends at the first CR LF
pub lines_at_break : (line xs : List ℕ) (end : ℕ) → FirstBreak xs end
    → lines_of line xs ≡ (line ++ take end xs) ∷ lines_of [] (drop (end + 2) xs)
lines_at_break line [] end first = grind (arith, nat_tests)
lines_at_break line (x ∷ []) end first = grind (arith, nat_tests)
lines_at_break line (x ∷ (y ∷ rest)) zero first =
    let here : breaks x y ≡ true = grind (arith, nat_tests) in rw (here, append-nil line) refl
lines_at_break line (x ∷ (y ∷ rest)) (suc k) first =
    let none : breaks x y ≡ false = grind (arith, nat_tests, first.1 0) in
    let after = lines_at_break (line ++ (x ∷ [])) (y ∷ rest) k (rw (← nearer x (y ∷ rest) k) first.0, λ j h. rw (← nearer x (y ∷ rest) j) (first.1 (suc j) (omega arith))) in
    rw (none, after) (simp (append_assoc, suc-add))

-- and where there is none, it is the last
pub lines_at_end : (line xs : List ℕ) → 0 < length line + length xs → NoBreak xs → lines_of line xs ≡ (line ++ xs) ∷ []
lines_at_end line [] some none =
    let more : eqb (length line) 0 ≡ false = ne_eqb (length line) 0 (omega arith) in
    rw (more, append-nil line) refl
lines_at_end line (x ∷ []) some none = refl
lines_at_end line (x ∷ (y ∷ rest)) some none =
    let no : breaks x y ≡ false = grind (arith, nat_tests, none 0) in
    let after = lines_at_end (line ++ (x ∷ [])) (y ∷ rest) (omega arith) (λ k. rw (← nearer x (y ∷ rest) k) (none (suc k))) in
    rw (no, after) (simp append_assoc)
