-- The product of two policies is a policy.
use Rattle.std.specs.Prelude.{◌≡◌, Bool, true, false, cond, ◌&&◌, Ok, Err, Result, refl}
use Rattle.std.proofs.Common.{sym, ap, ap₂, ◌∙◌, subst, ⊎_elim}
use Rattle.std.proofs.lemmas.Bool.{and_parts, and_from, and_cases, cond-true, cond-false}
use Rattle.orders.specs.Order.{Order}
use Rattle.orders.specs.Pairs.{pair, pair_order}
use Rattle.orders.specs.declared.pairs.Pair.{Pair}
use Rattle.policies.specs.Kinds.{reads, writes, needed}
use Rattle.policies.specs.Model.{Model, ruled, permitted, admitted, Moves, Decides, Meaning}
use Rattle.policies.specs.Product.{combined, marks_after, both_decide, both_ok, product_model}
use Rattle.policies.specs.declared.verdicts.Kind.{Kind}
use Rattle.policies.specs.declared.verdicts.Kind.TheVariants.{Read, Write, Both}
use Rattle.policies.specs.declared.verdicts.StartRefusal.{StartRefusal}
use Rattle.policies.specs.declared.verdicts.StartRefusal.TheVariants.{NotDominated}
use Rattle.policies.specs.declared.verdicts.DecideRefusal.{DecideRefusal}
use Rattle.policies.specs.declared.verdicts.DecideRefusal.TheVariants.{OutOfOrder}

and_swap : (a b c d : Bool) → ((a && b) && (c && d)) ≡ ((a && c) && (b && d))
and_swap true true c d = refl
and_swap true false true d = refl
and_swap true false false d = refl
and_swap false b c d = refl

needed_both : (k : Kind) (a b c d : Bool) → needed k (a && b) (c && d) ≡ (needed k a c && needed k b d)
needed_both Read a b c d = refl
needed_both Write a b c d = refl
needed_both Both a b c d = and_swap a b c d

-- what both sets have lost, and what the set of pairs has
lost_both : (loses a b f g : Bool) → (cond loses (a && f) a && cond loses (b && g) b) ≡ cond loses ((a && b) && (f && g)) (a && b)
lost_both true a b f g = and_swap a f b g
lost_both false a b f g = refl

-- the verdict of two, where what is permitted is admitted
combined_ruled : (p q a b : Bool) → (p ≡ true → a ≡ true) → (q ≡ true → b ≡ true) → combined (ruled p a) (ruled q b) ≡ ruled (p && q) (a && b)
combined_ruled true q a b ha hb = ap (λ (t : Bool). ruled q (t && b)) (sym (ha refl))
combined_ruled false true true b ha hb = ap (λ (t : Bool). ruled false t) (sym (hb refl))
combined_ruled false false true true ha hb = refl
combined_ruled false false true false ha hb = refl
combined_ruled false q false b ha hb = refl

marks_ruled : {M : Type 0} (p a : Bool) (moved kept : M) → marks_after (ruled p a) moved kept ≡ cond p moved kept
marks_ruled true a moved kept = refl
marks_ruled false true moved kept = refl
marks_ruled false false moved kept = refl

-- what is permitted is admitted
permitted_admitted : {L M : Type 0} {order : Order L} {model : Model L M} → Meaning order model
    → (m : M) (o : L) (k : Kind) → model.in_order m ≡ true → permitted model m o k ≡ true → admitted model (model.clearance m) o k ≡ true
permitted_admitted meaning m o Read h e = meaning.read_admitted m o h e
permitted_admitted meaning m o Write h e = meaning.write_admitted m o h e
permitted_admitted meaning m o Both h e =
    let (r, w) = and_parts _ _ e in
    and_from _ _ (meaning.read_admitted m o h r) (meaning.write_admitted m o h w)

-- where the second refuses, both do, since a policy refuses in one way only
refused_by_second : {A B C E : Type 0} (f : A → B → C) {e : E} → ((x : E) → x ≡ e) → (r : Result A E) (s : Result B E) → s ≡ Err e → both_ok f r s ≡ Err e
refused_by_second f only (Ok a) s is = ap (both_ok f (Ok a)) is
refused_by_second f only (Err x) s is = ap Err (only x)

only_start : (x : StartRefusal) → x ≡ NotDominated
only_start NotDominated = refl

only_decide : (x : DecideRefusal) → x ≡ OutOfOrder
only_decide OutOfOrder = refl

module _ {A B M N : Type 0} {a : Order A} {b : Order B} {p : Model A M} {q : Model B N} (first : Meaning a p) (second : Meaning b q) where
  abbrev model : Model (Pair A B) (Pair M N)
  model = product_model p q

  module _ (m : Pair M N) (o : Pair A B) (k : Kind) where
    permitted_both : permitted model m o k ≡ (permitted p m.first o.first k && permitted q m.second o.second k)
    permitted_both =
        needed_both k (p.readable m.first o.first) (q.readable m.second o.second) (p.writable m.first o.first) (q.writable m.second o.second)

    admitted_both : admitted model (model.clearance m) o k
        ≡ (admitted p (p.clearance m.first) o.first k && admitted q (q.clearance m.second) o.second k)
    admitted_both =
        let c = p.clearance m.first in
        let d = q.clearance m.second in
        needed_both k (p.read_admits c o.first) (q.read_admits d o.second) (p.write_admits c o.first) (q.write_admits d o.second)

    moves : {x : M} {y : N} → Moves p m.first o.first k x → Moves q m.second o.second k y → Moves model m o k (pair x y)
    moves u v = record {
      ordered = and_from _ _ u.ordered v.ordered;
      cleared = ap₂ pair u.cleared v.cleared;
      readable = λ l.
          ap₂ ◌&&◌ (u.readable l.first) (v.readable l.second)
          ∙ lost_both (writes k) (p.readable m.first l.first) (q.readable m.second l.second) (p.flow l.first o.first) (q.flow l.second o.second);
      writable = λ l.
          ap₂ ◌&&◌ (u.writable l.first) (v.writable l.second)
          ∙ lost_both (reads k) (p.writable m.first l.first) (q.writable m.second l.second) (p.flow o.first l.first) (q.flow o.second l.second);
    }

    decides : model.in_order m ≡ true → Decides model m o k
    decides h =
        let (h0, h1) = and_parts _ _ h in
        let d = first.decides m.first o.first k h0 in
        let e = second.decides m.second o.second k h1 in
        let moved : Pair M N = pair d.next e.next in
        let may : Bool = permitted model m o k in
        let clear : Bool = admitted model (model.clearance m) o k in
        let verdict =
        combined_ruled (permitted p m.first o.first k) (permitted q m.second o.second k)
        (admitted p (p.clearance m.first) o.first k) (admitted q (q.clearance m.second) o.second k)
        (permitted_admitted first m.first o.first k h0) (permitted_admitted second m.second o.second k h1)
        ∙ ap₂ ruled (sym permitted_both) (sym admitted_both) in
        record {
          next = cond may moved m;
          answer =
              ap₂ (both_ok (both_decide m)) d.answer e.answer
              ∙ ap (λ v. Ok (record { verdict = v; marks = marks_after v moved m })) verdict
              ∙ ap (λ (n : Pair M N). Ok (record { verdict = ruled may clear; marks = n })) (marks_ruled may clear moved m);
          denied = λ no_grant. cond-false may _ _ no_grant;
          granted = λ grant.
              let (g0, g1) = and_parts _ _ (sym permitted_both ∙ grant) in
              subst (λ (n : Pair M N). Moves model m o k n) (sym (cond-true may _ _ grant)) (moves (d.granted g0) (e.granted g1));
        }

  pub product_meaning : Meaning (pair_order a b) model
  product_meaning = record {
    flow_reflexive = λ x. and_from _ _ (first.flow_reflexive x.first) (second.flow_reflexive x.second);
    flow_transitive = λ x y z h k.
        let (h0, h1) = and_parts _ _ h in
        let (k0, k1) = and_parts _ _ k in
        and_from _ _ (first.flow_transitive x.first y.first z.first h0 k0) (second.flow_transitive x.second y.second z.second h1 k1);
    read_admitted = λ m l h e.
        let (h0, h1) = and_parts _ _ h in
        let (e0, e1) = and_parts _ _ e in
        and_from _ _ (first.read_admitted m.first l.first h0 e0) (second.read_admitted m.second l.second h1 e1);
    write_admitted = λ m l h e.
        let (h0, h1) = and_parts _ _ h in
        let (e0, e1) = and_parts _ _ e in
        and_from _ _ (first.write_admitted m.first l.first h0 e0) (second.write_admitted m.second l.second h1 e1);
    starts = λ c s proper h.
        let (h0, h1) = and_parts _ _ h in
        let (m, is, u) = first.starts c.first s.first proper.0 h0 in
        let (n, js, v) = second.starts c.second s.second proper.1 h1 in (
          pair m n,
          ap₂ (both_ok pair) is js,
          record {
            ordered = and_from _ _ u.ordered v.ordered;
            cleared = ap₂ pair u.cleared v.cleared;
            readable = λ l. ap₂ ◌&&◌ (u.readable l.first) (v.readable l.second);
            writable = λ l. ap₂ ◌&&◌ (u.writable l.first) (v.writable l.second);
          },
        );
    not_started = λ c s h.
        ⊎_elim
        (λ t. ap (λ r. both_ok pair r (q.start c.second s.second)) (first.not_started c.first s.first t))
        (λ t. refused_by_second pair only_start (p.start c.first s.first) _ (second.not_started c.second s.second t))
        (and_cases _ _ h);
    decides = decides;
    not_decided = λ m o k h.
        ⊎_elim
        (λ t. ap (λ r. both_ok (both_decide m) r (q.decide m.second o.second k)) (first.not_decided m.first o.first k t))
        (λ t. refused_by_second (both_decide m) only_decide (p.decide m.first o.first k) _ (second.not_decided m.second o.second k t))
        (and_cases _ _ h);
  }
