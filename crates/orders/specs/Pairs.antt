-- Pairs, and two orders side by side.
use Rattle.std.specs.Prelude.{◌&&◌}
use Rattle.orders.specs.Order.{Order}
use Rattle.orders.specs.declared.pairs.Pair.{Pair}

abbrev pub pair : {A B : Type 0} → A → B → Pair A B
pair x y = record { first = x; second = y }

-- the order of pairs, part by part
abbrev pub pair_order : {A B : Type 0} → Order A → Order B → Order (Pair A B)
pair_order a b = record {
  proper = λ x. a.proper x.first × b.proper x.second;
  dominance = λ x y. a.dominance x.first y.first && b.dominance x.second y.second;
  join = λ x y. pair (a.join x.first y.first) (b.join x.second y.second);
  meet = λ x y. pair (a.meet x.first y.first) (b.meet x.second y.second);
  low = pair a.low b.low;
  high = pair a.high b.high;
}
