-- What the shared rules mean, from the laws of the order.
use Rattle.std.specs.Prelude.{◌≡◌, Bool, true, cond, ◌&&◌, Ok, refl}
use Rattle.std.proofs.Common.{sym, ap, ◌∙◌, subst}
use Rattle.std.proofs.Math.Bool.{and_assoc}
use Rattle.std.proofs.lemmas.Bool.{and_parts, and_from, cond-true, cond-false}
use Rattle.orders.specs.Order.{Order, Lattice}
use Rattle.policies.specs.Kinds.{needed}
use Rattle.policies.specs.Model.{ruled, Starts, Moves, Decides, Meaning}
use Rattle.rules.specs.Range.{ordered, permits, cleared, moved, range_model}
use Rattle.policies.specs.declared.verdicts.Kind.{Kind}
use Rattle.policies.specs.declared.verdicts.Kind.TheVariants.{Read, Write, Both}
use Rattle.rules.specs.declared.ranges.LabelRange.{LabelRange}
use Rattle.rules.specs.Tests.{same, or_implied}

module _ {L : Type 0} {order : Order L} (lattice : Lattice order) where
  abbrev dom : L → L → Bool
  dom = order.dominance

  -- what the meet dominates, and what dominates the join
  below_both : (x y l : L) → dom (order.meet x y) l ≡ (dom x l && dom y l)
  below_both x y l =
      same (dom (order.meet x y) l) (dom x l && dom y l)
      (λ h. and_from _ _ (lattice.transitive x (order.meet x y) l (lattice.meet_left x y) h) (lattice.transitive y (order.meet x y) l (lattice.meet_right x y) h))
      (λ h. let (p, q) = and_parts _ _ h in lattice.meet_highest x y l p q)

  above_both : (x y l : L) → dom l (order.join x y) ≡ (dom l x && dom l y)
  above_both x y l =
      same (dom l (order.join x y)) (dom l x && dom l y)
      (λ h. and_from _ _ (lattice.transitive l (order.join x y) x h (lattice.join_left x y)) (lattice.transitive l (order.join x y) y h (lattice.join_right x y)))
      (λ h. let (p, q) = and_parts _ _ h in lattice.join_lowest x y l p q)

  module _ (w : LabelRange L) (o : L) where
    -- marks in order, part by part
    parts : ordered order w ≡ true → (dom w.clearance w.current ≡ true) × (dom w.ceiling w.current ≡ true) × (dom w.current w.floor ≡ true)
    parts h =
        let (front, last) = and_parts _ _ h in
        let (first, second) = and_parts _ _ front in
        (first, second, last)

    -- the tests of the rules, without those of the current label
    abbrev within : Kind → Bool
    within k = needed k (dom w.clearance o && dom w.ceiling o) (dom o w.floor)

    -- at marks in order the rules permit what is readable and writable
    permits_is : (k : Kind) → ordered order w ≡ true → permits order w o k ≡ within k
    permits_is Read h =
        let (a, b, c) = parts h in
        or_implied (dom w.current o) (dom w.clearance o && dom w.ceiling o)
        (λ e. and_from _ _ (lattice.transitive w.clearance w.current o a e) (lattice.transitive w.ceiling w.current o b e))
    permits_is Write h =
        let (a, b, c) = parts h in
        or_implied (dom o w.current) (dom o w.floor) (λ e. lattice.transitive o w.current w.floor e c)
    permits_is Both h =
        let (a, b, c) = parts h in
        or_implied (dom w.current o && dom o w.current) (dom w.clearance o && dom w.ceiling o && dom o w.floor)
        (λ e. let (p, q) = and_parts _ _ e in
        and_from _ _
        (and_from _ _ (lattice.transitive w.clearance w.current o a p) (lattice.transitive w.ceiling w.current o b p))
        (lattice.transitive o w.current w.floor q c))

    stays_ordered : (k : Kind) → ordered order w ≡ true → within k ≡ true → ordered order (moved order w o k) ≡ true
    stays_ordered Read h e =
        let (a, b, c) = parts h in
        let (p, q) = and_parts _ _ e in
        let up = order.join w.current o in
        and_from _ _
        (and_from _ _ (lattice.join_lowest w.current o w.clearance a p) (lattice.join_lowest w.current o w.ceiling b q))
        (lattice.join_lowest w.floor o up (lattice.transitive up w.current w.floor (lattice.join_left w.current o) c) (lattice.join_right w.current o))
    stays_ordered Write h e =
        let (a, b, c) = parts h in
        let down = order.meet w.current o in
        and_from _ _
        (and_from _ _
        (lattice.transitive w.clearance w.current down a (lattice.meet_left w.current o))
        (lattice.meet_highest w.ceiling o down (lattice.transitive w.ceiling w.current down b (lattice.meet_left w.current o)) (lattice.meet_right w.current o)))
        (lattice.meet_highest w.current o w.floor c e)
    stays_ordered Both h e =
        let (r, f) = and_parts _ _ e in
        let (p, q) = and_parts _ _ r in
        and_from _ _
        (and_from _ _ p (lattice.meet_highest w.ceiling o o q (lattice.reflexive o)))
        (lattice.join_lowest w.floor o o f (lattice.reflexive o))

    lowered : (l : L) → (dom w.clearance l && dom (order.meet w.ceiling o) l) ≡ ((dom w.clearance l && dom w.ceiling l) && dom o l)
    lowered l = ap (λ t. dom w.clearance l && t) (below_both w.ceiling o l) ∙ sym (and_assoc (dom w.clearance l) (dom w.ceiling l) (dom o l))

    moves : (k : Kind) → ordered order w ≡ true → within k ≡ true → Moves (range_model order) w o k (moved order w o k)
    moves Read h e = record {
      ordered = stays_ordered Read h e;
      cleared = refl;
      readable = λ l. refl;
      writable = λ l. above_both w.floor o l;
    }
    moves Write h e = record { ordered = stays_ordered Write h e; cleared = refl; readable = lowered; writable = λ l. refl }
    moves Both h e = record { ordered = stays_ordered Both h e; cleared = refl; readable = lowered; writable = λ l. above_both w.floor o l }

    decides : (k : Kind) → ordered order w ≡ true → Decides (range_model order) w o k
    decides k h =
        let is : permits order w o k ≡ within k = permits_is k h in
        record {
          next = cond (permits order w o k) (moved order w o k) w;
          answer =
              cond-true (ordered order w) _ _ h
              ∙ ap (λ (t : Bool). Ok (record { verdict = ruled t (cleared order w o k); marks = cond (permits order w o k) (moved order w o k) w })) is;
          denied = λ e. cond-false (permits order w o k) _ _ (is ∙ e);
          granted = λ e. subst (λ (v : LabelRange L). Moves (range_model order) w o k v) (sym (cond-true (permits order w o k) _ _ (is ∙ e))) (moves k h e);
        }

  starts : (c s : L) → order.proper c → dom c s ≡ true
      → Starts (range_model order) c (record { clearance = c; current = s; ceiling = order.high; floor = order.low })
  starts c s p h =
      let top = lattice.below_high c p in
      record {
        ordered = and_from _ _ (and_from _ _ h (lattice.transitive order.high c s top h)) (lattice.above_low s);
        cleared = refl;
        readable = λ l. same (dom c l && dom order.high l) (dom c l) (λ e. (and_parts _ _ e).0) (λ e. and_from _ _ e (lattice.transitive order.high c l top e));
        writable = λ l. lattice.above_low l;
      }

  pub range_meaning : Meaning order (range_model order)
  range_meaning = record {
    flow_reflexive = lattice.reflexive;
    flow_transitive = λ x y z p q. lattice.transitive z y x q p;
    read_admitted = λ w l h e. (and_parts _ _ e).0;
    write_admitted = λ w l h e. refl;
    starts = λ c s p h. (record { clearance = c; current = s; ceiling = order.high; floor = order.low }, cond-true (dom c s) _ _ h, starts c s p h);
    not_started = λ c s h. cond-false (dom c s) _ _ h;
    decides = λ w o k h. decides w o k h;
    not_decided = λ w o k h. cond-false (ordered order w) _ _ h;
  }
