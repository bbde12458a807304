-- The categories of a label, bit by bit.
use Rattle.std.proofs.Common.{◌≡◌, ℕ, zero, suc, ◌+◌, ◌-◌, ◌*◌, ◌/◌, ◌%◌, ◌^◌, ◌<◌, Bool, true, not, ◌&&◌, eqb, List, ◌∷◌, ◌++◌, get_or, sym, refl, ap, ◌∙◌, inl, inr, one-mul, zero-mul, arith}
use native.Mathlib.Nat.{div-div-eq-div-mul}
use lib.Bits.{bit_and, and_high}
use Rattle.std.proofs.lemmas.List.FromFn.{get_or-map-range_with_len}
use Rattle.std.proofs.lemmas.List.{get_or_past}
use Rattle.std.proofs.lemmas.Nat.{div-add-mod', pow_pos}
use Rattle.std.proofs.lemmas.Bool.{and_parts, cases_eq, cases_lt, eqb-true}
use Rattle.std.proofs.lemmas.Bool.Decides.{nat_tests}
use Rattle.labels.specs.Map.{map_of, label_of, has, in_map, eight, four, two}
use Rattle.labels.specs.Grade.{Proper}
use Rattle.labels.specs.declared.grades.GradeLabel.{GradeLabel}
use Rattle.labels.proofs.Octets.{Octets, none, one_more, label_map, label_of_same, map_label, length_map}

-- what a test passes at each number below n
abbrev pub below : ℕ → (ℕ → Bool) → Bool
below zero p = true
below (suc n) p = p n && below n p

pub from_below : (n : ℕ) (p : ℕ → Bool) → below n p ≡ true → (k : ℕ) → k < n → p k ≡ true
from_below zero p t k h = absurd (omega arith)
from_below (suc n) p t k h =
    let q = and_parts (p n) (below n p) t in
    elim (cases_eq k n) [ inl e ↦ rw e q.0 | inr d ↦ from_below n p q.1 k (omega arith) ]

-- the categories of a map's label are those of the map
pub has_label_of : (g : ℕ) (m : List ℕ) → ((k : ℕ) → get_or m k 0 < 256) → (n : ℕ) → n < 240 → has (label_of g m) n ≡ in_map m n
has_label_of g m bytes n h =
    let below30 : n / 8 < 30 = omega arith in
    ap (λ (xs : List ℕ). in_map xs n) (map_label g m bytes)
    ∙ ap (λ (b : ℕ). eqb (b / 2 ^ (7 - n % 8) % 2) 1) (get_or-map-range_with_len (λ k. get_or m k 0) 0 30 (n / 8) (n / 8) 0 below30 (omega arith))

sum_bits : (b q1 q2 q3 q4 q5 q6 q7 r0 r1 r2 r3 r4 r5 r6 : ℕ) → q1 * 2 + r0 ≡ b → q2 * 2 + r1 ≡ q1 → q3 * 2 + r2 ≡ q2 → q4 * 2 + r3 ≡ q3
    → q5 * 2 + r4 ≡ q4 → q6 * 2 + r5 ≡ q5 → q7 * 2 + r6 ≡ q6
    → q7 * 128 + r6 * 64 + r5 * 32 + r4 * 16 + r3 * 8 + r2 * 4 + r1 * 2 + r0 ≡ b
sum_bits b q1 q2 q3 q4 q5 q6 q7 r0 r1 r2 r3 r4 r5 r6 x0 x1 x2 x3 x4 x5 x6 = omega arith

half : (w n : ℕ) → w / (n * 2) * 2 + w / n % 2 ≡ w / n
half w n = rw (← div-div-eq-div-mul w n 2) (div-add-mod' (w / n) 2)

octet_bits : (b : ℕ) → b < 256
    → (b / 128 % 2) * 128 + (b / 64 % 2) * 64 + (b / 32 % 2) * 32 + (b / 16 % 2) * 16 + (b / 8 % 2) * 8 + (b / 4 % 2) * 4 + (b / 2 % 2) * 2 + b / 1 % 2 ≡ b
octet_bits b h =
    let top : b / 128 % 2 ≡ b / 128 = omega arith in
    let one : b / 1 ≡ b = omega arith in
    rw (top, one)
    (sum_bits b _ _ _ _ _ _ _ _ _ _ _ _ _ _ (div-add-mod' b 2) (half b 2) (half b 4) (half b 8) (half b 16) (half b 32) (half b 64))

same_bit : (x y : ℕ) → x < 2 → y < 2 → eqb x 1 ≡ eqb y 1 → x ≡ y
same_bit x y hx hy e = grind (arith, nat_tests)

same_octet : (b c : ℕ) → b < 256 → c < 256 → ((j : ℕ) → j < 8 → eqb (b / 2 ^ (7 - j) % 2) 1 ≡ eqb (c / 2 ^ (7 - j) % 2) 1) → b ≡ c
same_octet b c hb hc h =
    let bit : (j : ℕ) → j < 8 → b / 2 ^ (7 - j) % 2 ≡ c / 2 ^ (7 - j) % 2 = λ j hj. same_bit _ _ (omega arith) (omega arith) (h j hj) in
    let x0 : b / 128 % 2 ≡ c / 128 % 2 = bit 0 (omega arith) in
    let x1 : b / 64 % 2 ≡ c / 64 % 2 = bit 1 (omega arith) in
    let x2 : b / 32 % 2 ≡ c / 32 % 2 = bit 2 (omega arith) in
    let x3 : b / 16 % 2 ≡ c / 16 % 2 = bit 3 (omega arith) in
    let x4 : b / 8 % 2 ≡ c / 8 % 2 = bit 4 (omega arith) in
    let x5 : b / 4 % 2 ≡ c / 4 % 2 = bit 5 (omega arith) in
    let x6 : b / 2 % 2 ≡ c / 2 % 2 = bit 6 (omega arith) in
    let x7 : b / 1 % 2 ≡ c / 1 % 2 = bit 7 (omega arith) in
    sym (octet_bits b hb) ∙ rw (x0, x1, x2, x3, x4, x5, x6, x7) (octet_bits c hc)

more : {xs : List ℕ} (w : ℕ) → Octets xs → Octets (w % 256 ∷ xs)
more w o = one_more (w % 256) (omega arith) o

two_octets : (w : ℕ) {xs : List ℕ} → Octets xs → Octets (two w ++ xs)
two_octets w o = more (w / 256) (more w o)

four_octets : (w : ℕ) {xs : List ℕ} → Octets xs → Octets (four w ++ xs)
four_octets w o = more (w / 16777216) (more (w / 65536) (two_octets w o))

eight_octets : (w : ℕ) {xs : List ℕ} → Octets xs → Octets (eight w ++ xs)
eight_octets w o =
    more (w / 72057594037927936) (more (w / 281474976710656) (more (w / 1099511627776) (more (w / 4294967296) (four_octets w o))))

map_all : (l : GradeLabel) → Octets (map_of l)
unfolding map_of
map_all l =
    eight_octets l.map0 (eight_octets l.map8 (eight_octets l.map16 (four_octets l.map24 (two_octets l.map28 none))))

pub map_octets : (l : GradeLabel) (k : ℕ) → get_or (map_of l) k 0 < 256
map_octets l = (map_all l).at

-- bit j of octet k is category k * 8 + j
same_place : (a b : GradeLabel) → ((n : ℕ) → n < 240 → has a n ≡ has b n) → (k : ℕ) → k < 30 → get_or (map_of a) k 0 ≡ get_or (map_of b) k 0
same_place a b h k hk =
    same_octet _ _ (map_octets a k) (map_octets b k) (λ j hj.
    let q : (k * 8 + j) / 8 ≡ k = omega arith in
    let r : (k * 8 + j) % 8 ≡ j = omega arith in
    rw (q, r) at (h (k * 8 + j) (omega arith)))

-- labels with the same grade and the same categories are one label
pub extensional : (a b : GradeLabel) → Proper a → Proper b → a.grade ≡ b.grade → ((n : ℕ) → n < 240 → has a n ≡ has b n) → a ≡ b
extensional a b fa fb g h =
    sym (label_map a fa)
    ∙ label_of_same a.grade (map_of a) (map_of b) (λ k. elim (cases_lt k 30) [
      | inl hk ↦ same_place a b h k hk
      | inr hk ↦ get_or_past (map_of a) k 0 (omega (arith, length_map a)) ∙ sym (get_or_past (map_of b) k 0 (omega (arith, length_map b)))
    ])
    ∙ ap (λ (x : ℕ). label_of x (map_of b)) g
    ∙ label_map b fb

mask_is : (i : ℕ) → i < 8 → 128 / 2 ^ i ≡ 2 ^ (1 + (7 - i)) - 2 ^ (7 - i)
mask_is i h = eqb-true _ _ (from_below 8 (λ x. eqb (128 / 2 ^ x) (2 ^ (1 + (7 - x)) - 2 ^ (7 - x))) refl i h)

tested : (x p : ℕ) → x < 2 → 0 < p → not (eqb (x * p) 0) ≡ eqb x 1
tested zero p h hp = rw (zero-mul p)
tested (suc zero) p h hp = rw (one-mul p) (grind (arith, nat_tests))
tested (suc (suc x)) p h hp = absurd (omega arith)

pub bit_of : (b n : ℕ) → not (eqb (bit_and b (128 / 2 ^ (n % 8))) 0) ≡ eqb (b / 2 ^ (7 - n % 8) % 2) 1
bit_of b n =
    rw (mask_is (n % 8) (omega arith), and_high b 1 (7 - n % 8))
    (tested (b / 2 ^ (7 - n % 8) % 2) (2 ^ (7 - n % 8)) (omega arith) (pow_pos (7 - n % 8)))
