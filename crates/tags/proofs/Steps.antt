-- The steps of the readers, over lists.
use Rattle.std.proofs.Common.{◌≡◌, ℕ, suc, ◌+◌, ◌-◌, ◌*◌, ◌/◌, ◌<◌, ◌≤◌, cond, ◌||◌, ltb, false, List, [], ◌∷◌, length, get_or, take, drop, Ok, Result, refl, arith}
use Rattle.std.proofs.lemmas.List.{take_rest, drop_more}
use Rattle.std.specs.Simd.{first_chunks}
use Rattle.std.proofs.lemmas.Bool.Decides.{nat_tests}
use Rattle.labels.specs.Map.{label_of}
use Rattle.labels.specs.declared.grades.GradeLabel.{GradeLabel}
use Rattle.tags.specs.declared.faults.TagFault.{TagFault}
use Rattle.tags.specs.Tag.{tag_of, list_of, marked, fault, type_of, octet_of, length_of, wrong_length, body_of}
use Rattle.tags.specs.declared.reader.TagType.{TagType}
use Rattle.tags.specs.declared.reader.TagType.TheVariants.{Map, List as Listing}

-- the label of a list, pair of octets by pair
abbrev category : List ℕ → ℕ
category pair = get_or pair 0 0 * 256 + get_or pair 1 0

abbrev pub pairs_of : ℕ → List ℕ → ℕ → ℕ → List (List ℕ) → Result GradeLabel TagFault
pairs_of g m least at [] = Ok (label_of g m)
pairs_of g m least at (pair ∷ pairs) =
    cond (ltb (category pair) least || ltb 239 (category pair)) (fault at)
    (pairs_of g (marked m (category pair)) (category pair + 1) (at + 2) pairs)

pub pairs_are : (g : ℕ) (m : List ℕ) (least at : ℕ) (xs : List ℕ) → pairs_of g m least at (first_chunks 2 (length xs / 2) xs) ≡ list_of g m least at xs
pairs_are g m least at [] = refl
pairs_are g m least at (a ∷ []) = refl
pairs_are g m least at (a ∷ (b ∷ xs)) =
    let half : length (a ∷ (b ∷ xs)) / 2 ≡ suc (length xs / 2) = omega arith in
    rw (half, pairs_are g (marked m (a * 256 + b)) (a * 256 + b + 1) (at + 2) xs)

-- one pair of a list
pub pairs_step : (g : ℕ) (m : List ℕ) (least : ℕ) (pairs : List (List ℕ)) (i c : ℕ) → i < length pairs → c ≡ category (get_or pairs i [])
    → pairs_of g m least (4 + 2 * i) (drop i pairs)
    ≡ cond (ltb c least || ltb 239 c) (fault (4 + 2 * i)) (pairs_of g (marked m c) (c + 1) (4 + 2 * (i + 1)) (drop (i + 1) pairs))
pairs_step g m least pairs i c within is =
    let next : 4 + 2 * (i + 1) ≡ 4 + 2 * i + 2 = omega arith in
    rw (drop_more pairs i [] within, is, next)

-- a slice pattern's tail, cut from its start
pub cut : (xs : List ℕ) (k n : ℕ) → take n (take (length xs - k) (drop k xs)) ≡ take n (drop k xs)
cut xs k n = simp (take_rest)

typed : (n : ℕ) (t : TagType) → type_of n ≡ Ok t → n ≡ octet_of t
typed n Map e = grind (arith, nat_tests)
typed n Listing e = grind (arith, nat_tests)

measured : (t : TagType) (w n whole : ℕ) → length_of t w n ≡ Ok whole → (w ≡ whole) × (wrong_length (octet_of t) w n ≡ false)
measured t w n whole e = grind (arith, nat_tests)

-- a tag whose head is right
pub tag_read : (xs : List ℕ) (t : TagType) (whole : ℕ) → 4 ≤ length xs → type_of (get_or xs 0 0) ≡ Ok t
    → length_of t (get_or xs 1 0) (length xs) ≡ Ok whole → get_or xs 2 0 ≡ 0
    → tag_of xs ≡ body_of (octet_of t) (get_or xs 3 0) whole (take (whole - 4) (take (length xs - 4) (drop 4 xs)))
tag_read xs Map whole long kind length_is zero_is =
    let known = typed (get_or xs 0 0) Map kind in
    let (is, right) = measured Map (get_or xs 1 0) (length xs) whole length_is in
    rw (cut xs 4 (whole - 4)) (grind (arith, nat_tests))
tag_read xs Listing whole long kind length_is zero_is =
    let known = typed (get_or xs 0 0) Listing kind in
    let (is, right) = measured Listing (get_or xs 1 0) (length xs) whole length_is in
    rw (cut xs 4 (whole - 4)) (grind (arith, nat_tests))
