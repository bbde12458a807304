-- A word is the value of its octets, and octets are the octets of their value.
use Rattle.std.proofs.Common.{◌≡◌, ℕ, zero, suc, ◌+◌, ◌<◌, List, [], ◌∷◌, ◌++◌, map, length, get_or, refl, arith}
use Rattle.std.specs.List.{range_with_len}
use Rattle.std.proofs.lemmas.Nat.{from_be_bytes-to_be_bytes_2, from_be_bytes-to_be_bytes_4, from_be_bytes-to_be_bytes_8, be_bytes_2, be_bytes_4, be_bytes_8}
use Rattle.labels.specs.Map.{eight, four, two, be8, be4, be2, map_of, label_of}
use Rattle.labels.specs.Grade.{Proper}
use Rattle.labels.specs.declared.grades.GradeLabel.{GradeLabel}

pub be2_two : (w : ℕ) → w < 65536 → be2 (two w) 0 ≡ w
be2_two w h = from_be_bytes-to_be_bytes_2 w h

pub be4_four : (w : ℕ) → w < 4294967296 → be4 (four w) 0 ≡ w
be4_four w h = from_be_bytes-to_be_bytes_4 w h

pub be8_eight : (w : ℕ) → w < 18446744073709551616 → be8 (eight w) 0 ≡ w
be8_eight w h = from_be_bytes-to_be_bytes_8 w h

-- each octet of a list is one
pub record Octets (xs : List ℕ) : Type 0 where
  pub at : (k : ℕ) → get_or xs k 0 < 256

pub none : Octets []
none = record { at = λ k. omega arith }

more_at : (x : ℕ) (xs : List ℕ) → x < 256 → ((k : ℕ) → get_or xs k 0 < 256) → (k : ℕ) → get_or (x ∷ xs) k 0 < 256
more_at x xs h hs zero = h
more_at x xs h hs (suc k) = hs k

pub one_more : {xs : List ℕ} (x : ℕ) → x < 256 → Octets xs → Octets (x ∷ xs)
one_more {xs} x h o = record { at = more_at x xs h o.at }

pub two_be2 : (m : List ℕ) (i : ℕ) → ((k : ℕ) → get_or m k 0 < 256) → two (be2 m i) ≡ get_or m i 0 ∷ get_or m (i + 1) 0 ∷ []
two_be2 m i h = be_bytes_2 (get_or m i 0 ∷ get_or m (i + 1) 0 ∷ []) (be2 m i) refl (one_more (get_or m i 0) (h i) (one_more (get_or m (i + 1) 0) (h (i + 1)) none)).at refl

pub four_be4 : (m : List ℕ) (i : ℕ) → ((k : ℕ) → get_or m k 0 < 256) → four (be4 m i) ≡ get_or m i 0 ∷ get_or m (i + 1) 0 ∷ get_or m (i + 2) 0 ∷ get_or m (i + 3) 0 ∷ []
four_be4 m i h = be_bytes_4 (get_or m i 0 ∷ get_or m (i + 1) 0 ∷ get_or m (i + 2) 0 ∷ get_or m (i + 3) 0 ∷ []) (be4 m i) refl (one_more (get_or m i 0) (h i) (one_more (get_or m (i + 1) 0) (h (i + 1)) (one_more (get_or m (i + 2) 0) (h (i + 2)) (one_more (get_or m (i + 3) 0) (h (i + 3)) none)))).at refl

pub eight_be8 : (m : List ℕ) (i : ℕ) → ((k : ℕ) → get_or m k 0 < 256) → eight (be8 m i) ≡ get_or m i 0 ∷ get_or m (i + 1) 0 ∷ get_or m (i + 2) 0 ∷ get_or m (i + 3) 0 ∷ get_or m (i + 4) 0 ∷ get_or m (i + 5) 0 ∷ get_or m (i + 6) 0 ∷ get_or m (i + 7) 0 ∷ []
eight_be8 m i h = be_bytes_8 (get_or m i 0 ∷ get_or m (i + 1) 0 ∷ get_or m (i + 2) 0 ∷ get_or m (i + 3) 0 ∷ get_or m (i + 4) 0 ∷ get_or m (i + 5) 0 ∷ get_or m (i + 6) 0 ∷ get_or m (i + 7) 0 ∷ []) (be8 m i) refl (one_more (get_or m i 0) (h i) (one_more (get_or m (i + 1) 0) (h (i + 1)) (one_more (get_or m (i + 2) 0) (h (i + 2)) (one_more (get_or m (i + 3) 0) (h (i + 3)) (one_more (get_or m (i + 4) 0) (h (i + 4)) (one_more (get_or m (i + 5) 0) (h (i + 5)) (one_more (get_or m (i + 6) 0) (h (i + 6)) (one_more (get_or m (i + 7) 0) (h (i + 7)) none)))))))).at refl

-- the label of a label's own map
pub label_map : (l : GradeLabel) → Proper l → label_of l.grade (map_of l) ≡ l
unfolding map_of
label_map l f =
    let a : be8 (map_of l) 0 ≡ l.map0 = be8_eight l.map0 f.map0 in
    let b : be8 (map_of l) 8 ≡ l.map8 = be8_eight l.map8 f.map8 in
    let c : be8 (map_of l) 16 ≡ l.map16 = be8_eight l.map16 f.map16 in
    let d : be4 (map_of l) 24 ≡ l.map24 = be4_four l.map24 f.map24 in
    let e : be2 (map_of l) 28 ≡ l.map28 = be2_two l.map28 f.map28 in
    simp (a, b, c, d, e)

-- a label depends on its map's octets alone
be8_same : (m n : List ℕ) (i : ℕ) → ((k : ℕ) → get_or m k 0 ≡ get_or n k 0) → be8 m i ≡ be8 n i
be8_same m n i h = omega (arith, h i, h (i + 1), h (i + 2), h (i + 3), h (i + 4), h (i + 5), h (i + 6), h (i + 7))

be4_same : (m n : List ℕ) (i : ℕ) → ((k : ℕ) → get_or m k 0 ≡ get_or n k 0) → be4 m i ≡ be4 n i
be4_same m n i h = omega (arith, h i, h (i + 1), h (i + 2), h (i + 3))

be2_same : (m n : List ℕ) (i : ℕ) → ((k : ℕ) → get_or m k 0 ≡ get_or n k 0) → be2 m i ≡ be2 n i
be2_same m n i h = omega (arith, h i, h (i + 1))

pub label_of_same : (g : ℕ) (m n : List ℕ) → ((k : ℕ) → get_or m k 0 ≡ get_or n k 0) → label_of g m ≡ label_of g n
label_of_same g m n h =
    let a = be8_same m n 0 h in let b = be8_same m n 8 h in let c = be8_same m n 16 h in
    let d = be4_same m n 24 h in let e = be2_same m n 28 h in
    cc

pub joined5 : {a a' b b' c c' d d' e e' : List ℕ} → a ≡ a' → b ≡ b' → c ≡ c' → d ≡ d' → e ≡ e'
    → a ++ (b ++ (c ++ (d ++ e))) ≡ a' ++ (b' ++ (c' ++ (d' ++ e')))
joined5 p q r s t = cc

-- the map of a map's label: its first thirty octets, with empty octets past its end
pub map_label : (g : ℕ) (m : List ℕ) → ((k : ℕ) → get_or m k 0 < 256) → map_of (label_of g m) ≡ map (λ k. get_or m k 0) (range_with_len 0 30)
unfolding map_of
map_label g m h =
    joined5 (eight_be8 m 0 h) (eight_be8 m 8 h) (eight_be8 m 16 h) (four_be4 m 24 h) (two_be2 m 28 h)

pub length_map : (l : GradeLabel) → length (map_of l) ≡ 30
unfolding map_of
length_map l = refl
