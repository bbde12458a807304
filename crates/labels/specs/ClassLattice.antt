-- The numbers of one class are a flat lattice: none, the brokers side by side, conflict.
use Rattle.std.proofs.Common.{arith}
use Rattle.std.proofs.lemmas.Bool.Decides.{nat_tests}
use Rattle.orders.specs.Order.{Lattice}
use Rattle.labels.specs.Classes.{class_dominance, class_order}

pub classes : Lattice class_order
unfolding class_dominance
classes = record {
  reflexive = λ x. grind (arith, nat_tests);
  transitive = λ x y z h k. grind (arith, nat_tests);
  antisymmetric = λ x y h k. grind (arith, nat_tests);
  join_left = λ x y. grind (arith, nat_tests);
  join_right = λ x y. grind (arith, nat_tests);
  join_lowest = λ x y z h k. grind (arith, nat_tests);
  meet_left = λ x y. grind (arith, nat_tests);
  meet_right = λ x y. grind (arith, nat_tests);
  meet_highest = λ x y z h k. grind (arith, nat_tests);
  above_low = λ x. grind (arith, nat_tests);
  below_high = λ x h. grind (arith, nat_tests);
  join_proper = λ x y h k. grind (arith, nat_tests);
  meet_proper = λ x y h k. grind (arith, nat_tests);
  low_proper = omega arith;
  high_proper = omega arith;
}
