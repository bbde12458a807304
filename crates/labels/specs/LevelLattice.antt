-- The numbers of one octet are a lattice under `≥`.
use Rattle.std.specs.Prelude.{ℕ, ◌^◌, ◌<◌, min, max, nat_le}
use Rattle.std.proofs.Common.{arith}
use Rattle.std.proofs.lemmas.Bool.Decides.{nat_tests}
use Rattle.orders.specs.Order.{Order, Lattice}

abbrev pub level_order : Order ℕ
level_order = record { proper = λ n. n < 2 ^ 8; dominance = λ x y. nat_le y x; join = max; meet = min; low = 0; high = 255 }

pub levels : Lattice level_order
levels = record {
  reflexive = λ x. grind (arith, nat_tests);
  transitive = λ x y z h k. grind (arith, nat_tests);
  antisymmetric = λ x y h k. grind (arith, nat_tests);
  join_left = λ x y. grind (arith, nat_tests);
  join_right = λ x y. grind (arith, nat_tests);
  join_lowest = λ x y z h k. grind (arith, nat_tests);
  meet_left = λ x y. grind (arith, nat_tests);
  meet_right = λ x y. grind (arith, nat_tests);
  meet_highest = λ x y z h k. grind (arith, nat_tests);
  above_low = λ x. grind (arith, nat_tests);
  below_high = λ x h. grind (arith, nat_tests);
  join_proper = λ x y h k. omega arith;
  meet_proper = λ x y h k. omega arith;
  low_proper = omega arith;
  high_proper = omega arith;
}
