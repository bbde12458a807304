-- Two lattices make one, part by part; and a lattice on a view of a type is one on the type.
use Rattle.std.specs.Prelude.{◌≡◌, ◌&&◌, refl}
use Rattle.std.proofs.Common.{sym, ap, ◌∙◌}
use Rattle.std.proofs.lemmas.Bool.{and_parts, and_from}
use Rattle.orders.specs.Order.{Order, Lattice}
use Rattle.orders.specs.Pairs.{pair, pair_order}
use Rattle.orders.specs.declared.pairs.Pair.{Pair}

abbrev pub product : {A B : Type 0} → Order A → Order B → Order (A × B)
product a b = record {
  proper = λ x. a.proper x.0 × b.proper x.1;
  dominance = λ x y. a.dominance x.0 y.0 && b.dominance x.1 y.1;
  join = λ x y. (a.join x.0 y.0, b.join x.1 y.1);
  meet = λ x y. (a.meet x.0 y.0, b.meet x.1 y.1);
  low = (a.low, b.low);
  high = (a.high, b.high);
}

pub both : {A B : Type 0} {a : Order A} {b : Order B} → Lattice a → Lattice b → Lattice (product a b)
both p q = record {
  reflexive = λ x. and_from _ _ (p.reflexive x.0) (q.reflexive x.1);
  transitive = λ x y z h k.
      let (h0, h1) = and_parts _ _ h in
      let (k0, k1) = and_parts _ _ k in
      and_from _ _ (p.transitive x.0 y.0 z.0 h0 k0) (q.transitive x.1 y.1 z.1 h1 k1);
  antisymmetric = λ x y h k.
      let (h0, h1) = and_parts _ _ h in
      let (k0, k1) = and_parts _ _ k in
      let e0 = p.antisymmetric x.0 y.0 h0 k0 in
      let e1 = q.antisymmetric x.1 y.1 h1 k1 in
      λ i. (e0 i, e1 i);
  join_left = λ x y. and_from _ _ (p.join_left x.0 y.0) (q.join_left x.1 y.1);
  join_right = λ x y. and_from _ _ (p.join_right x.0 y.0) (q.join_right x.1 y.1);
  join_lowest = λ x y z h k.
      let (h0, h1) = and_parts _ _ h in
      let (k0, k1) = and_parts _ _ k in
      and_from _ _ (p.join_lowest x.0 y.0 z.0 h0 k0) (q.join_lowest x.1 y.1 z.1 h1 k1);
  meet_left = λ x y. and_from _ _ (p.meet_left x.0 y.0) (q.meet_left x.1 y.1);
  meet_right = λ x y. and_from _ _ (p.meet_right x.0 y.0) (q.meet_right x.1 y.1);
  meet_highest = λ x y z h k.
      let (h0, h1) = and_parts _ _ h in
      let (k0, k1) = and_parts _ _ k in
      and_from _ _ (p.meet_highest x.0 y.0 z.0 h0 k0) (q.meet_highest x.1 y.1 z.1 h1 k1);
  above_low = λ x. and_from _ _ (p.above_low x.0) (q.above_low x.1);
  below_high = λ x h. and_from _ _ (p.below_high x.0 h.0) (q.below_high x.1 h.1);
  join_proper = λ x y h k. (p.join_proper x.0 y.0 h.0 k.0, q.join_proper x.1 y.1 h.1 k.1);
  meet_proper = λ x y h k. (p.meet_proper x.0 y.0 h.0 k.0, q.meet_proper x.1 y.1 h.1 k.1);
  low_proper = (p.low_proper, q.low_proper);
  high_proper = (p.high_proper, q.high_proper);
}

abbrev pub viewed : {L M : Type 0} → (L → M) → (M → L) → (L → Type 0) → Order M → Order L
viewed view make proper order = record {
  proper = proper;
  dominance = λ x y. order.dominance (view x) (view y);
  join = λ x y. make (order.join (view x) (view y));
  meet = λ x y. make (order.meet (view x) (view y));
  low = make order.low;
  high = make order.high;
}

-- `view` and `make` are inverse to each other, and `proper` says of a value what the order says of its view
module _ {L M : Type 0} (view : L → M) (make : M → L) (made : (x : L) → make (view x) ≡ x) (seen : (m : M) → view (make m) ≡ m)
    {order : Order M} (lattice : Lattice order)
    (proper : L → Type 0) (into : (x : L) → order.proper (view x) → proper x) (out : (x : L) → proper x → order.proper (view x)) where
  pub through : Lattice (viewed view make proper order)
  through = record {
    reflexive = λ x. lattice.reflexive (view x);
    transitive = λ x y z. lattice.transitive (view x) (view y) (view z);
    antisymmetric = λ x y u v. sym (made x) ∙ ap make (lattice.antisymmetric (view x) (view y) u v) ∙ made y;
    join_left = λ x y. rw seen (lattice.join_left (view x) (view y));
    join_right = λ x y. rw seen (lattice.join_right (view x) (view y));
    join_lowest = λ x y z u v. rw seen (lattice.join_lowest (view x) (view y) (view z) u v);
    meet_left = λ x y. rw seen (lattice.meet_left (view x) (view y));
    meet_right = λ x y. rw seen (lattice.meet_right (view x) (view y));
    meet_highest = λ x y z u v. rw seen (lattice.meet_highest (view x) (view y) (view z) u v);
    above_low = λ x. rw seen (lattice.above_low (view x));
    below_high = λ x u. rw seen (lattice.below_high (view x) (out x u));
    join_proper = λ x y u v. into _ (rw seen (lattice.join_proper (view x) (view y) (out x u) (out y v)));
    meet_proper = λ x y u v. into _ (rw seen (lattice.meet_proper (view x) (view y) (out x u) (out y v)));
    low_proper = into _ (rw seen lattice.low_proper);
    high_proper = into _ (rw seen lattice.high_proper);
  }

-- the pairs of two lattices are seen as that product
pub paired : {A B : Type 0} {a : Order A} {b : Order B} → Lattice a → Lattice b → Lattice (pair_order a b)
paired {A = A} {B = B} {a = a} {b = b} p q =
    through {L = Pair A B} (λ x. (x.first, x.second)) (λ v. pair v.0 v.1) (λ x. refl) (λ v. refl)
    (both p q) (pair_order a b).proper (λ x h. h) (λ x h. h)
