-- The rules that secrecy and integrity share, as secrecy reads them.
use Rattle.std.specs.Prelude.{Bool, true, cond, ◌&&◌, ◌||◌, Ok, Err, Result}
use Rattle.orders.specs.Order.{Order}
use Rattle.policies.specs.Kinds.{needed}
use Rattle.policies.specs.Model.{Model, ruled}
use Rattle.policies.specs.declared.verdicts.Kind.{Kind}
use Rattle.policies.specs.declared.verdicts.Kind.TheVariants.{Read, Write, Both}
use Rattle.policies.specs.declared.verdicts.Decision.{Decision}
use Rattle.policies.specs.declared.verdicts.StartRefusal.{StartRefusal}
use Rattle.policies.specs.declared.verdicts.StartRefusal.TheVariants.{NotDominated}
use Rattle.policies.specs.declared.verdicts.DecideRefusal.{DecideRefusal}
use Rattle.policies.specs.declared.verdicts.DecideRefusal.TheVariants.{OutOfOrder}
use Rattle.rules.specs.declared.ranges.LabelRange.{LabelRange}

module _ {L : Type 0} (order : Order L) where
  abbrev pub ordered : LabelRange L → Bool
  ordered w = order.dominance w.clearance w.current && order.dominance w.ceiling w.current && order.dominance w.current w.floor

  -- when a request is granted. Labels that dominate each other are one label, so `both` is granted at the current label
  abbrev pub permits : LabelRange L → L → Kind → Bool
  permits w o Read = order.dominance w.current o || order.dominance w.clearance o && order.dominance w.ceiling o
  permits w o Write = order.dominance o w.current || order.dominance o w.floor
  permits w o Both =
      order.dominance w.current o && order.dominance o w.current
      || order.dominance w.clearance o && order.dominance w.ceiling o && order.dominance o w.floor

  -- the read clearance admits what the clearance dominates, and the write clearance all
  abbrev pub cleared : LabelRange L → L → Kind → Bool
  cleared w o k = needed k (order.dominance w.clearance o) true

  -- the labels after a grant
  abbrev pub moved : LabelRange L → L → Kind → LabelRange L
  moved w o Read = record { clearance = w.clearance; current = order.join w.current o; ceiling = w.ceiling; floor = order.join w.floor o }
  moved w o Write = record { clearance = w.clearance; current = order.meet w.current o; ceiling = order.meet w.ceiling o; floor = w.floor }
  moved w o Both = record { clearance = w.clearance; current = o; ceiling = order.meet w.ceiling o; floor = order.join w.floor o }

  abbrev pub range_decide : LabelRange L → L → Kind → Result (Decision (LabelRange L)) DecideRefusal
  range_decide w o k =
      cond (ordered w)
      (Ok (record { verdict = ruled (permits w o k) (cleared w o k); marks = cond (permits w o k) (moved w o k) w }))
      (Err OutOfOrder)

  abbrev pub range_start : L → L → Result (LabelRange L) StartRefusal
  range_start c s =
      cond (order.dominance c s) (Ok (record { clearance = c; current = s; ceiling = order.high; floor = order.low })) (Err NotDominated)

  -- information flows up: what the clearance and the ceiling dominate is readable, and what dominates the floor writable
  abbrev pub range_model : Model L (LabelRange L)
  range_model = record {
    flow = λ a b. order.dominance b a;
    read_admits = λ c l. order.dominance c l;
    write_admits = λ c l. true;
    clearance = λ w. w.clearance;
    in_order = ordered;
    readable = λ w l. order.dominance w.clearance l && order.dominance w.ceiling l;
    writable = λ w l. order.dominance l w.floor;
    start = range_start;
    decide = range_decide;
  }
