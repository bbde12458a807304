-- The reverse of a policy is a policy, and so is one that keeps its marks in another form.
use Rattle.std.proofs.Common.{◌≡◌, Bool, true, cond, ◌&&◌, Ok, refl, ap, ◌∙◌}
use mathlib.Core.Bool.{and_comm}
use Rattle.orders.specs.Order.{Order}
use Rattle.policies.specs.Kinds.{reads, writes, needed, reversed}
use Rattle.policies.specs.Model.{Model, ruled, permitted, admitted, Decides, Meaning}
use Rattle.policies.specs.Views.{reversed_model, map_ok, map_marks, kept_model}
use Rattle.policies.specs.declared.verdicts.Kind.{Kind}
use Rattle.policies.specs.declared.verdicts.Kind.TheVariants.{Read, Write, Both}

needed_reversed : (k : Kind) (r w : Bool) → needed (reversed k) r w ≡ needed k w r
needed_reversed Read r w = refl
needed_reversed Write r w = refl
needed_reversed Both r w = and_comm r w

writes_reversed : (k : Kind) → writes (reversed k) ≡ reads k
writes_reversed Read = refl
writes_reversed Write = refl
writes_reversed Both = refl

reads_reversed : (k : Kind) → reads (reversed k) ≡ writes k
reads_reversed Read = refl
reads_reversed Write = refl
reads_reversed Both = refl

module _ {L M : Type 0} {order : Order L} {model : Model L M} (meaning : Meaning order model) where
  reversed_decides : (m : M) (o : L) (k : Kind) → model.in_order m ≡ true → Decides (reversed_model model) m o k
  reversed_decides m o k h =
      let d = meaning.decides m o (reversed k) h in
      let may = needed_reversed k (model.readable m o) (model.writable m o) in
      let clear = needed_reversed k (model.read_admits (model.clearance m) o) (model.write_admits (model.clearance m) o) in
      record {
        next = d.next;
        answer =
            d.answer
            ∙ ap (λ (t : Bool). Ok (record { verdict = ruled t (admitted model (model.clearance m) o (reversed k)); marks = d.next })) may
            ∙ ap (λ (t : Bool). Ok (record { verdict = ruled (permitted (reversed_model model) m o k) t; marks = d.next })) clear;
        denied = λ e. d.denied (may ∙ e);
        granted = λ e.
            let n = d.granted (may ∙ e) in
            record {
              ordered = n.ordered;
              cleared = n.cleared;
              readable = λ l. n.writable l ∙ ap (λ (t : Bool). cond t (model.writable m l && model.flow o l) (model.writable m l)) (reads_reversed k);
              writable = λ l. n.readable l ∙ ap (λ (t : Bool). cond t (model.readable m l && model.flow l o) (model.readable m l)) (writes_reversed k);
            };
      }

  pub reversed_meaning : Meaning order (reversed_model model)
  reversed_meaning = record {
    flow_reflexive = meaning.flow_reflexive;
    flow_transitive = λ x y z p q. meaning.flow_transitive z y x q p;
    read_admitted = meaning.write_admitted;
    write_admitted = meaning.read_admitted;
    starts = λ c s p h.
        let (m, is, f) = meaning.starts c s p h in
        (m, is, record { ordered = f.ordered; cleared = f.cleared; readable = f.writable; writable = f.readable });
    not_started = meaning.not_started;
    decides = reversed_decides;
    not_decided = λ m o k h. meaning.not_decided m o (reversed k) h;
  }

  module _ {H : Type 0} (view : H → M) (put : H → M → H) (begin : M → H)
      (seen : (m : H) (w : M) → view (put m w) ≡ w) (kept : (m : H) → put m (view m) ≡ m) (begun : (w : M) → view (begin w) ≡ w) where
    kept_decides : (m : H) (o : L) (k : Kind) → model.in_order (view m) ≡ true → Decides (kept_model model view put begin) m o k
    kept_decides m o k h =
        let d = meaning.decides (view m) o k h in
        record {
          next = put m d.next;
          answer = ap (map_ok (map_marks (put m))) d.answer;
          denied = λ e. ap (put m) (d.denied e) ∙ kept m;
          granted = λ e.
              let n = d.granted e in
              record {
                ordered = ap model.in_order (seen m d.next) ∙ n.ordered;
                cleared = ap model.clearance (seen m d.next) ∙ n.cleared;
                readable = λ l. ap (λ (w : M). model.readable w l) (seen m d.next) ∙ n.readable l;
                writable = λ l. ap (λ (w : M). model.writable w l) (seen m d.next) ∙ n.writable l;
              };
        }

    pub kept_meaning : Meaning order (kept_model model view put begin)
    kept_meaning = record {
      flow_reflexive = meaning.flow_reflexive;
      flow_transitive = meaning.flow_transitive;
      read_admitted = λ m l. meaning.read_admitted (view m) l;
      write_admitted = λ m l. meaning.write_admitted (view m) l;
      starts = λ c s p h.
          let (w, is, f) = meaning.starts c s p h in (
            begin w,
            ap (map_ok begin) is,
            record {
              ordered = ap model.in_order (begun w) ∙ f.ordered;
              cleared = ap model.clearance (begun w) ∙ f.cleared;
              readable = λ l. ap (λ (v : M). model.readable v l) (begun w) ∙ f.readable l;
              writable = λ l. ap (λ (v : M). model.writable v l) (begun w) ∙ f.writable l;
            },
          );
      not_started = λ c s h. ap (map_ok begin) (meaning.not_started c s h);
      decides = kept_decides;
      not_decided = λ m o k h. ap (map_ok (map_marks (put m))) (meaning.not_decided (view m) o k h);
    }
