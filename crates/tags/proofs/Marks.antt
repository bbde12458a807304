-- The categories of a map into which one was put.
use Rattle.std.proofs.Common.{◌≡◌, ℕ, zero, suc, ◌-◌, ◌/◌, ◌%◌, ◌^◌, ◌<◌, false, cond, ◌||◌, eqb, List, length, get_or, refl, ap, ◌∙◌, inl, inr, arith}
use lib.Bits.{bit_or}
use Rattle.std.proofs.lemmas.List.{get_or-set_same, get_or-set_other}
use Rattle.std.proofs.lemmas.Nat.{or_shr, or_mod}
use Rattle.std.proofs.lemmas.Bool.{cases_eq, eqb-true}
use Rattle.std.proofs.lemmas.Bool.Decides.{nat_tests}
use Rattle.labels.specs.Map.{in_map}
use Rattle.labels.proofs.Categories.{below, from_below}
use Rattle.tags.specs.Tag.{marked}

-- the mask of a category, bit by bit
mask_bits : (i j : ℕ) → i < 8 → j < 8 → 128 / 2 ^ i / 2 ^ (7 - j) % 2 ≡ cond (eqb i j) 1 0
mask_bits i j hi hj =
    eqb-true _ _
    (from_below 8 (λ y. eqb (128 / 2 ^ i / 2 ^ (7 - y) % 2) (cond (eqb i y) 1 0))
    (from_below 8 (λ x. below 8 (λ y. eqb (128 / 2 ^ x / 2 ^ (7 - y) % 2) (cond (eqb x y) 1 0))) refl i hi) j hj)

or_bit : (x i j : ℕ) → x < 2 → eqb (bit_or x (cond (eqb i j) 1 0)) 1 ≡ (eqb j i || eqb x 1)
or_bit zero i j h = grind (arith, nat_tests)
or_bit (suc zero) i j h = grind (arith, nat_tests)
or_bit (suc (suc x)) i j h = absurd (omega arith)

-- a bit of an octet into which a category was put
pub bit_marked : (b i j : ℕ) → i < 8 → j < 8
    → eqb (bit_or b (128 / 2 ^ i) / 2 ^ (7 - j) % 2) 1 ≡ (eqb j i || eqb (b / 2 ^ (7 - j) % 2) 1)
bit_marked b i j hi hj =
    let low : b / 2 ^ (7 - j) % 2 < 2 = omega arith in
    ap (λ (x : ℕ). eqb (x % 2) 1) (or_shr b (128 / 2 ^ i) (7 - j))
    ∙ ap (λ (x : ℕ). eqb x 1) (or_mod (b / 2 ^ (7 - j)) (128 / 2 ^ i / 2 ^ (7 - j)) 1)
    ∙ ap (λ (x : ℕ). eqb (bit_or (b / 2 ^ (7 - j) % 2) x) 1) (mask_bits i j hi hj)
    ∙ or_bit (b / 2 ^ (7 - j) % 2) i j low

-- a map into which category c was put has c and what it had
pub in_map_marked : (m : List ℕ) (c n : ℕ) → length m ≡ 30 → c < 240 → n < 240 → in_map (marked m c) n ≡ (eqb n c || in_map m n)
in_map_marked m c n long hc hn =
    elim (cases_eq (n / 8) (c / 8)) [
      | inl e ↦
          let here : c / 8 < length m = omega arith in
          let same : eqb n c ≡ eqb (n % 8) (c % 8) = grind (arith, nat_tests) in
          ap (λ (k : ℕ). eqb (get_or (marked m c) k 0 / 2 ^ (7 - n % 8) % 2) 1) e
          ∙ ap (λ (b : ℕ). eqb (b / 2 ^ (7 - n % 8) % 2) 1) (get_or-set_same m (c / 8) _ 0 here)
          ∙ bit_marked (get_or m (c / 8) 0) (c % 8) (n % 8) (omega arith) (omega arith)
          ∙ rw (same, e)
      | inr d ↦
          let no_c : eqb n c ≡ false = grind (arith, nat_tests) in
          rw (no_c, get_or-set_other m (c / 8) (n / 8) (bit_or (get_or m (c / 8) 0) (128 / 2 ^ (c % 8))) 0 d)
    ]
