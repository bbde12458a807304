-- The grade order.
use Rattle.std.specs.Prelude.{◌≡◌, ℕ, ◌^◌, ◌<◌, ◌≤◌, min, max, Bool, true, ◌&&◌, bit_and, bit_or, nat_le}
use Rattle.orders.specs.Order.{Order}
use Rattle.labels.specs.Sets.{contains}
use Rattle.labels.specs.Map.{has}
use Rattle.labels.specs.declared.grades.GradeLabel.{GradeLabel}

-- each number of the label fits its field
pub record Proper (l : GradeLabel) : Type 0 where
  pub map0 : l.map0 < 2 ^ 64
  pub map8 : l.map8 < 2 ^ 64
  pub map16 : l.map16 < 2 ^ 64
  pub map24 : l.map24 < 2 ^ 32
  pub map28 : l.map28 < 2 ^ 16
  pub grade : l.grade < 2 ^ 8

-- what dominance means: the grade is at least as large, and the set contains the other's
abbrev pub Covers : GradeLabel → GradeLabel → Type 0
Covers x y = (y.grade ≤ x.grade) × ((n : ℕ) → n < 240 → has y n ≡ true → has x n ≡ true)

-- the same by the labels' words
abbrev pub grade_dominance : GradeLabel → GradeLabel → Bool
grade_dominance x y =
    nat_le y.grade x.grade && contains x.map0 y.map0 && contains x.map8 y.map8 && contains x.map16 y.map16
    && contains x.map24 y.map24 && contains x.map28 y.map28

-- the label with the grade, whose words are made of two labels' words
abbrev pub worded : (ℕ → ℕ → ℕ) → ℕ → GradeLabel → GradeLabel → GradeLabel
worded f grade x y = record {
  map0 = f x.map0 y.map0;
  map8 = f x.map8 y.map8;
  map16 = f x.map16 y.map16;
  map24 = f x.map24 y.map24;
  map28 = f x.map28 y.map28;
  grade = grade;
}

abbrev pub grade_order : Order GradeLabel
grade_order = record {
  proper = Proper;
  dominance = grade_dominance;
  join = λ x y. worded bit_or (max x.grade y.grade) x y;
  meet = λ x y. worded bit_and (min x.grade y.grade) x y;
  low = record { map0 = 0; map8 = 0; map16 = 0; map24 = 0; map28 = 0; grade = 0 };
  high = record {
    map0 = 0xffff_ffff_ffff_ffff;
    map8 = 0xffff_ffff_ffff_ffff;
    map16 = 0xffff_ffff_ffff_ffff;
    map24 = 0xffff_ffff;
    map28 = 0xffff;
    grade = 255;
  };
}
