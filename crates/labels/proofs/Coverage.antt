-- A label dominates another exactly where its grade is at least as large and it has each of the other's categories.
use Rattle.std.proofs.Common.{◌≡◌, ℕ, zero, suc, ◌-◌, ◌/◌, ◌%◌, ◌^◌, ◌<◌, Bool, true, false, ◌&&◌, eqb, List, [], ◌∷◌, length, get_or, Decides, sym, refl, ap, ◌∙◌, arith}
use lib.Bits.{bit_and, and_le_r}
use Rattle.std.proofs.lemmas.Nat.{and_shr, and_mod}
use Rattle.std.proofs.lemmas.Bool.{and_parts, and_from, leb-true, le-leb}
use Rattle.labels.specs.Map.{map_of, has, eight, four, two}
use Rattle.labels.specs.Grade.{Proper, Covers, grade_dominance, worded}
use Rattle.labels.specs.declared.grades.GradeLabel.{GradeLabel}
use Rattle.labels.proofs.Categories.{extensional}
use Rattle.labels.proofs.Octets.{joined5, length_map}
use Rattle.labels.specs.SetLattice.{into, out}

-- what is done to the words of two labels is done to their octets, and so to their categories
module _ (f : ℕ → ℕ → ℕ) (shr : (a b k : ℕ) → f a b / 2 ^ k ≡ f (a / 2 ^ k) (b / 2 ^ k)) (low : (a b k : ℕ) → f a b % 2 ^ k ≡ f (a % 2 ^ k) (b % 2 ^ k)) where
  abbrev zip : List ℕ → List ℕ → List ℕ
  zip [] ys = []
  zip (x ∷ xs) [] = []
  zip (x ∷ xs) (y ∷ ys) = f x y ∷ zip xs ys

  get_or_zip : (xs ys : List ℕ) → length xs ≡ length ys → (k : ℕ) → k < length xs → get_or (zip xs ys) k 0 ≡ f (get_or xs k 0) (get_or ys k 0)
  get_or_zip [] ys e k h = absurd (omega arith)
  get_or_zip (x ∷ xs) [] e k h = absurd (omega arith)
  get_or_zip (x ∷ xs) (y ∷ ys) e zero h = refl
  get_or_zip (x ∷ xs) (y ∷ ys) e (suc k) h = get_or_zip xs ys (omega arith) k (omega arith)

  field : (v w k : ℕ) → f v w / 2 ^ k % 256 ≡ f (v / 2 ^ k % 256) (w / 2 ^ k % 256)
  field v w k = ap (λ (x : ℕ). x % 256) (shr v w k) ∙ low (v / 2 ^ k) (w / 2 ^ k) 8

  two_zip : (v w : ℕ) → two (f v w) ≡ zip (two v) (two w)
  two_zip v w = let a = field v w 8 in let b = low v w 8 in cc

  four_zip : (v w : ℕ) → four (f v w) ≡ zip (four v) (four w)
  four_zip v w = let a = field v w 24 in let b = field v w 16 in let c = field v w 8 in let d = low v w 8 in cc

  eight_zip : (v w : ℕ) → eight (f v w) ≡ zip (eight v) (eight w)
  eight_zip v w =
      let a = field v w 56 in let b = field v w 48 in let c = field v w 40 in let d = field v w 32 in
      let e = field v w 24 in let g = field v w 16 in let h = field v w 8 in let i = low v w 8 in cc

  map_worded : (g : ℕ) (a b : GradeLabel) → map_of (worded f g a b) ≡ zip (map_of a) (map_of b)
  unfolding map_of
  map_worded g a b =
      joined5 (eight_zip a.map0 b.map0) (eight_zip a.map8 b.map8) (eight_zip a.map16 b.map16)
      (four_zip a.map24 b.map24) (two_zip a.map28 b.map28)

  has_worded : (op : Bool → Bool → Bool) → ((x y : ℕ) → x < 2 → y < 2 → eqb (f x y) 1 ≡ op (eqb x 1) (eqb y 1))
      → (g : ℕ) (a b : GradeLabel) (n : ℕ) → n < 240 → has (worded f g a b) n ≡ op (has a n) (has b n)
  has_worded op bit g a b n h =
      let j : ℕ = 7 - n % 8 in
      let x : ℕ = get_or (map_of a) (n / 8) 0 in
      let y : ℕ = get_or (map_of b) (n / 8) 0 in
      ap (λ (m : List ℕ). eqb (get_or m (n / 8) 0 / 2 ^ j % 2) 1) (map_worded g a b)
      ∙ ap (λ (o : ℕ). eqb (o / 2 ^ j % 2) 1) (get_or_zip (map_of a) (map_of b) (length_map a ∙ sym (length_map b)) (n / 8) (omega (arith, length_map a)))
      ∙ ap (λ (o : ℕ). eqb (o % 2) 1) (shr x y j)
      ∙ ap (λ (o : ℕ). eqb o 1) (low (x / 2 ^ j) (y / 2 ^ j) 1)
      ∙ bit (x / 2 ^ j % 2) (y / 2 ^ j % 2) (omega arith) (omega arith)

and_bits : (x y : ℕ) → x < 2 → y < 2 → eqb (bit_and x y) 1 ≡ (eqb x 1 && eqb y 1)
and_bits zero zero hx hy = refl
and_bits zero (suc zero) hx hy = refl
and_bits (suc zero) zero hx hy = refl
and_bits (suc zero) (suc zero) hx hy = refl
and_bits (suc (suc x)) y hx hy = absurd (omega arith)
and_bits zero (suc (suc y)) hx hy = absurd (omega arith)
and_bits (suc zero) (suc (suc y)) hx hy = absurd (omega arith)

-- the words that two labels share have the categories that both have
has_shared : (g : ℕ) (a b : GradeLabel) (n : ℕ) → n < 240 → has (worded bit_and g a b) n ≡ (has a n && has b n)
has_shared = has_worded bit_and and_shr and_mod ◌&&◌ and_bits

absorbed : (x y : Bool) → (y ≡ true → x ≡ true) → (x && y) ≡ y
absorbed true y h = refl
absorbed false true h = h refl
absorbed false false h = refl

abbrev with_words : ℕ → ℕ → ℕ → ℕ → ℕ → ℕ → GradeLabel
with_words g a b c d e = record { map0 = a; map8 = b; map16 = c; map24 = d; map28 = e; grade = g }

same_words : {g a a' b b' c c' d d' e e' : ℕ} → a ≡ a' → b ≡ b' → c ≡ c' → d ≡ d' → e ≡ e' → with_words g a b c d e ≡ with_words g a' b' c' d' e'
same_words p q r s t = cc

pub covers : (x y : GradeLabel) → Proper y → Decides (grade_dominance x y) (Covers x y)
covers x y small = (to, from)
  where
    to : grade_dominance x y ≡ true → Covers x y
    to h =
        let (h4, c28) = and_parts _ _ h in
        let (h3, c24) = and_parts _ _ h4 in
        let (h2, c16) = and_parts _ _ h3 in
        let (h1, c8) = and_parts _ _ h2 in
        let (g, c0) = and_parts _ _ h1 in
        let same : worded bit_and y.grade x y ≡ y =
        same_words (out _ _ c0) (out _ _ c8) (out _ _ c16) (out _ _ c24) (out _ _ c28) in
        (leb-true _ _ g, λ n hn hy. (and_parts (has x n) (has y n) (sym (has_shared y.grade x y n hn) ∙ ap (λ (l : GradeLabel). has l n) same ∙ hy)).0)

    from : Covers x y → grade_dominance x y ≡ true
    from h =
        let fits : Proper (worded bit_and y.grade x y) = record {
          map0 = omega (arith, and_le_r x.map0 y.map0, small.map0);
          map8 = omega (arith, and_le_r x.map8 y.map8, small.map8);
          map16 = omega (arith, and_le_r x.map16 y.map16, small.map16);
          map24 = omega (arith, and_le_r x.map24 y.map24, small.map24);
          map28 = omega (arith, and_le_r x.map28 y.map28, small.map28);
          grade = small.grade;
        } in
        let same : worded bit_and y.grade x y ≡ y =
        extensional (worded bit_and y.grade x y) y fits small refl (λ n hn. has_shared y.grade x y n hn ∙ absorbed (has x n) (has y n) (h.1 n hn)) in
        and_from _ _ (and_from _ _ (and_from _ _ (and_from _ _ (and_from _ _ (le-leb _ _ h.0)
        (into _ _ (ap (λ (l : GradeLabel). l.map0) same)))
        (into _ _ (ap (λ (l : GradeLabel). l.map8) same)))
        (into _ _ (ap (λ (l : GradeLabel). l.map16) same)))
        (into _ _ (ap (λ (l : GradeLabel). l.map24) same)))
        (into _ _ (ap (λ (l : GradeLabel). l.map28) same))
