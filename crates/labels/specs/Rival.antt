-- The rival order: that of one class, in each of eight.
use Rattle.std.specs.Prelude.{ℕ, ◌^◌, ◌<◌, Bool, ◌&&◌, List, Some, None, Ok, Err, Option, Result, nat_lt, position, slice_index}
use Rattle.orders.specs.Order.{Order}
use Rattle.labels.specs.Classes.{none, conflict, class_dominance, class_join, class_meet}
use Rattle.labels.specs.declared.rivals.RivalLabel.{RivalLabel}
use Rattle.labels.specs.declared.rivals.UnknownBroker.{UnknownBroker}

-- each number of the label fits its field
pub record Proper (l : RivalLabel) : Type 0 where
  pub class0 : l.class0 < 2 ^ 8
  pub class1 : l.class1 < 2 ^ 8
  pub class2 : l.class2 < 2 ^ 8
  pub class3 : l.class3 < 2 ^ 8
  pub class4 : l.class4 < 2 ^ 8
  pub class5 : l.class5 < 2 ^ 8
  pub class6 : l.class6 < 2 ^ 8
  pub class7 : l.class7 < 2 ^ 8

-- the test holds in each class
abbrev pub in_each : (ℕ → ℕ → Bool) → RivalLabel → RivalLabel → Bool
in_each test x y =
    test x.class0 y.class0 && test x.class1 y.class1 && test x.class2 y.class2 && test x.class3 y.class3
    && test x.class4 y.class4 && test x.class5 y.class5 && test x.class6 y.class6 && test x.class7 y.class7

-- the label made of two, class by class
abbrev pub by_class : (ℕ → ℕ → ℕ) → RivalLabel → RivalLabel → RivalLabel
by_class f x y = record {
  class0 = f x.class0 y.class0;
  class1 = f x.class1 y.class1;
  class2 = f x.class2 y.class2;
  class3 = f x.class3 y.class3;
  class4 = f x.class4 y.class4;
  class5 = f x.class5 y.class5;
  class6 = f x.class6 y.class6;
  class7 = f x.class7 y.class7;
}

-- the label is one that may be made of two, class by class
pub record ByClass (made : ℕ → ℕ → ℕ → Type 0) (x y z : RivalLabel) : Type 0 where
  pub class0 : made x.class0 y.class0 z.class0
  pub class1 : made x.class1 y.class1 z.class1
  pub class2 : made x.class2 y.class2 z.class2
  pub class3 : made x.class3 y.class3 z.class3
  pub class4 : made x.class4 y.class4 z.class4
  pub class5 : made x.class5 y.class5 z.class5
  pub class6 : made x.class6 y.class6 z.class6
  pub class7 : made x.class7 y.class7 z.class7

-- the same number in each class
abbrev pub uniform : ℕ → RivalLabel
uniform n = record { class0 = n; class1 = n; class2 = n; class3 = n; class4 = n; class5 = n; class6 = n; class7 = n }

abbrev pub rival_order : Order RivalLabel
rival_order = record {
  proper = Proper;
  dominance = in_each class_dominance;
  join = by_class class_join;
  meet = by_class class_meet;
  low = uniform none;
  high = uniform conflict;
}

-- the label with these numbers in its classes
abbrev pub with_classes : List ℕ → RivalLabel
with_classes ns = record {
  class0 = slice_index ns 0;
  class1 = slice_index ns 1;
  class2 = slice_index ns 2;
  class3 = slice_index ns 3;
  class4 = slice_index ns 4;
  class5 = slice_index ns 5;
  class6 = slice_index ns 6;
  class7 = slice_index ns 7;
}

-- the first class whose number is above conflict
abbrev pub unknown_class : List ℕ → Option ℕ
unknown_class ns = position (λ n. nat_lt conflict n) ns

abbrev pub rival_unless : Option ℕ → List ℕ → Result RivalLabel UnknownBroker
rival_unless (Some class) ns = Err (record { class = class })
rival_unless None ns = Ok (with_classes ns)

-- shut, since callers only pass it on
unfoldable pub rival_of : List ℕ → Result RivalLabel UnknownBroker
rival_of ns = rival_unless (unknown_class ns) ns
