-- The grade order is a lattice: that of the grades beside that of each word's bits.
use Rattle.std.specs.Prelude.{ℕ, refl}
use Rattle.orders.specs.Order.{Lattice}
use Rattle.labels.specs.Grade.{Proper, grade_order}
use Rattle.labels.specs.declared.grades.GradeLabel.{GradeLabel}
use Rattle.labels.specs.LevelLattice.{levels}
use Rattle.labels.specs.SetLattice.{sets}
use Rattle.orders.specs.Products.{both, through}

abbrev View : Type 0
View = ((((ℕ × ℕ) × ℕ) × ℕ) × ℕ) × ℕ

abbrev view : GradeLabel → View
view x = (((((x.grade, x.map0), x.map8), x.map16), x.map24), x.map28)

abbrev make : View → GradeLabel
make v = record {
  map0 = v.0.0.0.0.1;
  map8 = v.0.0.0.1;
  map16 = v.0.0.1;
  map24 = v.0.1;
  map28 = v.1;
  grade = v.0.0.0.0.0;
}

pub grades : Lattice grade_order
grades =
    through view make (λ x. refl) (λ v. refl)
    (both (both (both (both (both levels (sets 64)) (sets 64)) (sets 64)) (sets 32)) (sets 16))
    Proper
    (λ x h. record { map0 = h.0.0.0.0.1; map8 = h.0.0.0.1; map16 = h.0.0.1; map24 = h.0.1; map28 = h.1; grade = h.0.0.0.0.0 })
    (λ x h. (((((h.grade, h.map0), h.map8), h.map16), h.map24), h.map28))
