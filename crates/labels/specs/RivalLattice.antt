-- The rival order is a lattice: that of one class, eight times.
use Rattle.std.specs.Prelude.{ℕ, refl}
use Rattle.orders.specs.Order.{Lattice}
use Rattle.labels.specs.Rival.{Proper, rival_order}
use Rattle.labels.specs.declared.rivals.RivalLabel.{RivalLabel}
use Rattle.labels.specs.ClassLattice.{classes}
use Rattle.orders.specs.Products.{both, through}

abbrev View : Type 0
View = ((((((ℕ × ℕ) × ℕ) × ℕ) × ℕ) × ℕ) × ℕ) × ℕ

abbrev view : RivalLabel → View
view x = (((((((x.class0, x.class1), x.class2), x.class3), x.class4), x.class5), x.class6), x.class7)

abbrev make : View → RivalLabel
make v = record {
  class0 = v.0.0.0.0.0.0.0;
  class1 = v.0.0.0.0.0.0.1;
  class2 = v.0.0.0.0.0.1;
  class3 = v.0.0.0.0.1;
  class4 = v.0.0.0.1;
  class5 = v.0.0.1;
  class6 = v.0.1;
  class7 = v.1;
}

pub rivals : Lattice rival_order
rivals =
    through view make (λ x. refl) (λ v. refl)
    (both (both (both (both (both (both (both classes classes) classes) classes) classes) classes) classes) classes)
    Proper
    (λ x h. record { class0 = h.0.0.0.0.0.0.0; class1 = h.0.0.0.0.0.0.1; class2 = h.0.0.0.0.0.1; class3 = h.0.0.0.0.1; class4 = h.0.0.0.1; class5 = h.0.0.1; class6 = h.0.1; class7 = h.1 })
    (λ x h. (((((((h.class0, h.class1), h.class2), h.class3), h.class4), h.class5), h.class6), h.class7))
