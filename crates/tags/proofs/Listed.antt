-- The categories of a list that is read.
use Rattle.std.proofs.Common.{◌≡◌, ℕ, ◌+◌, ◌*◌, ◌/◌, ◌%◌, ◌^◌, ◌<◌, Bool, true, false, cond, ◌||◌, eqb, ltb, List, [], ◌∷◌, length, get_or, Ok, Result, refl, sym, ap, ◌∙◌, inl, inr, arith, length-set}
use lib.Bits.{bit_or}
use Rattle.std.proofs.Math.Bool.{or_assoc, or_comm, or-false}
use Rattle.std.proofs.lemmas.List.{get_or-set_same, get_or-set_other, get_or_past, set_past, get_or-replicate}
use Rattle.std.proofs.lemmas.Nat.{or_lt, shr_le}
use Rattle.std.proofs.lemmas.Bool.{cases_eq, cases_lt}
use Rattle.std.proofs.lemmas.Bool.Decides.{nat_tests}
use Rattle.labels.specs.Map.{label_of, has, in_map}
use Rattle.tags.specs.Tag.{marked, list_of, listed, empty, fault, ListReads, MapReads}
use Rattle.labels.specs.declared.grades.GradeLabel.{GradeLabel}
use Rattle.tags.specs.declared.faults.TagFault.{TagFault}
use Rattle.labels.proofs.Categories.{has_label_of}
use Rattle.tags.proofs.Marks.{in_map_marked}

-- a map into which a category was put holds octets
mask_octet : (i : ℕ) → 128 / 2 ^ i < 256
mask_octet i = omega (arith, shr_le 128 i)

pub marked_octets : (m : List ℕ) (c : ℕ) → ((k : ℕ) → get_or m k 0 < 256) → (k : ℕ) → get_or (marked m c) k 0 < 256
marked_octets m c h k =
    let v : ℕ = bit_or (get_or m (c / 8) 0) (128 / 2 ^ (c % 8)) in
    elim (cases_eq k (c / 8)) [
      | inl e ↦ elim (cases_lt (c / 8) (length m)) [
        | inl here ↦ rw (e, get_or-set_same m (c / 8) (bit_or (get_or m (c / 8) 0) (128 / 2 ^ (c % 8))) 0 here)
            (or_lt 8 (get_or m (c / 8) 0) (128 / 2 ^ (c % 8)) (h (c / 8)) (mask_octet (c % 8)))
        | inr past ↦ rw (set_past m (c / 8) (bit_or (get_or m (c / 8) 0) (128 / 2 ^ (c % 8))) past) (h k)
      ]
      | inr d ↦ rw (get_or-set_other m (c / 8) k (bit_or (get_or m (c / 8) 0) (128 / 2 ^ (c % 8))) 0 d) (h k)
    ]

went_on : (b : Bool) (at : ℕ) (r : Result GradeLabel TagFault) (l : GradeLabel) → cond b (fault at) r ≡ Ok l → (b ≡ false) × (r ≡ Ok l)
went_on true at r l e = let z : ◌≡◌ {A = ℕ} 0 1 = cc in absurd (omega arith)
went_on false at r l e = (refl, e)

ended : (g : ℕ) (m : List ℕ) (l : GradeLabel) → ((k : ℕ) → get_or m k 0 < 256) → ◌≡◌ {A = Result GradeLabel TagFault} (Ok (label_of g m)) (Ok l)
    → (l.grade ≡ g) × ((n : ℕ) → n < 240 → has l n ≡ (in_map m n || false))
ended g m l h e =
    let same : label_of g m ≡ l = cc in
    rw (← same) (refl, λ n hn. has_label_of g m h n hn ∙ sym (or-false (in_map m n)))

reads : (g : ℕ) (m : List ℕ) (least at : ℕ) (xs : List ℕ) (l : GradeLabel) → length m ≡ 30 → ((k : ℕ) → get_or m k 0 < 256)
    → list_of g m least at xs ≡ Ok l → (l.grade ≡ g) × ((n : ℕ) → n < 240 → has l n ≡ (in_map m n || listed xs n))
reads g m least at [] l long h e = ended g m l h e
reads g m least at (a ∷ []) l long h e = ended g m l h e
reads g m least at (a ∷ (b ∷ xs)) l long h e =
    let on = went_on (ltb (a * 256 + b) least || ltb 239 (a * 256 + b)) at (list_of g (marked m (a * 256 + b)) (a * 256 + b + 1) (at + 2) xs) l e in
    let small : a * 256 + b < 240 = grind (arith, nat_tests, on.0) in
    let rest = reads g (marked m (a * 256 + b)) (a * 256 + b + 1) (at + 2) xs l (length-set m _ _ ∙ long) (marked_octets m (a * 256 + b) h) on.1 in (
      rest.0,
      λ n hn. rest.1 n hn ∙ ap (λ (x : Bool). x || listed xs n) (in_map_marked m (a * 256 + b) n long small hn)
          ∙ ap (λ (x : Bool). x || listed xs n) (or_comm (eqb n (a * 256 + b)) (in_map m n))
          ∙ or_assoc (in_map m n) (eqb n (a * 256 + b)) (listed xs n),
    )

pub empty_octets : (k : ℕ) → get_or empty k 0 ≡ 0
empty_octets k = elim (cases_lt k 30) [ inl h ↦ get_or-replicate 30 k 0 0 h | inr h ↦ get_or_past empty k 0 h ]

none : (n : ℕ) → in_map empty n ≡ false
none n = rw (empty_octets (n / 8)) (grind (arith, nat_tests))

pub list_reads : ListReads
list_reads g xs l e =
    let r = reads g empty 0 4 xs l refl (λ k. omega (arith, empty_octets k)) e in
    (r.0, λ n hn. r.1 n hn ∙ ap (λ (x : Bool). x || listed xs n) (none n))

pub map_reads : MapReads
map_reads g xs h = (refl, has_label_of g xs h)
