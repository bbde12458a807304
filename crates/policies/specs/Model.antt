-- What a policy decides by, and what that means for what a session may read and write from then on.
use Rattle.std.specs.Prelude.{◌≡◌, Bool, true, false, cond, ◌&&◌, Ok, Err, Result}
use Rattle.orders.specs.Order.{Order}
use Rattle.policies.specs.Kinds.{reads, writes, needed}
use Rattle.policies.specs.declared.verdicts.Kind.{Kind}
use Rattle.policies.specs.declared.verdicts.Verdict.{Verdict}
use Rattle.policies.specs.declared.verdicts.Verdict.TheVariants.{Granted, Clearance, History}
use Rattle.policies.specs.declared.verdicts.Decision.{Decision}
use Rattle.policies.specs.declared.verdicts.StartRefusal.{StartRefusal}
use Rattle.policies.specs.declared.verdicts.StartRefusal.TheVariants.{NotDominated}
use Rattle.policies.specs.declared.verdicts.DecideRefusal.{DecideRefusal}
use Rattle.policies.specs.declared.verdicts.DecideRefusal.TheVariants.{OutOfOrder}

-- the functions of a policy
pub record Model (Label Marks : Type 0) : Type 0 where
  -- the three relations: information may flow from the first label to the second; the clearance admits the label
  pub flow : Label → Label → Bool
  pub read_admits : Label → Label → Bool
  pub write_admits : Label → Label → Bool
  -- what marks mean: a clearance, and when they are in order the labels still readable and those still writable
  pub clearance : Marks → Label
  pub in_order : Marks → Bool
  pub readable : Marks → Label → Bool
  pub writable : Marks → Label → Bool
  -- how the policy starts and decides
  pub start : Label → Label → Result Marks StartRefusal
  pub decide : Marks → Label → Kind → Result (Decision Marks) DecideRefusal

-- the verdict, by whether the request is permitted and whether the clearances that it needs admit the label
abbrev pub ruled : (permitted admitted : Bool) → Verdict
ruled permitted admitted = cond permitted Granted (cond admitted History Clearance)

module _ {Label Marks : Type 0} (model : Model Label Marks) where
  -- the label is readable for a read, writable for a write, and each for both
  abbrev pub permitted : Marks → Label → Kind → Bool
  permitted m o k = needed k (model.readable m o) (model.writable m o)

  -- the clearances that the kind needs admit the label
  abbrev pub admitted : Label → Label → Kind → Bool
  admitted c o k = needed k (model.read_admits c o) (model.write_admits c o)

  -- marks that a session of this clearance starts with: it may read and write just what its clearances admit
  pub record Starts (clearance : Label) (m : Marks) : Type 0 where
    pub ordered : model.in_order m ≡ true
    pub cleared : model.clearance m ≡ clearance
    pub readable : (l : Label) → model.readable m l ≡ model.read_admits clearance l
    pub writable : (l : Label) → model.writable m l ≡ model.write_admits clearance l

  -- marks after a request of this kind to an object of this label was granted: after a write the readable labels have
  -- lost those that may not flow to it, after a read the writable ones those that it may not flow to, and no others
  pub record Moves (m : Marks) (o : Label) (k : Kind) (next : Marks) : Type 0 where
    pub ordered : model.in_order next ≡ true
    pub cleared : model.clearance next ≡ model.clearance m
    pub readable : (l : Label) → model.readable next l ≡ cond (writes k) (model.readable m l && model.flow l o) (model.readable m l)
    pub writable : (l : Label) → model.writable next l ≡ cond (reads k) (model.writable m l && model.flow o l) (model.writable m l)

  -- the decision on a request at marks in order: a denial keeps the marks
  pub record Decides (m : Marks) (o : Label) (k : Kind) : Type 0 where
    pub next : Marks
    pub answer : model.decide m o k ≡ Ok (record { verdict = ruled (permitted m o k) (admitted (model.clearance m) o k); marks = next })
    pub denied : permitted m o k ≡ false → next ≡ m
    pub granted : permitted m o k ≡ true → Moves m o k next

-- what the functions of a policy over an order mean
pub record Meaning {Label Marks : Type 0} (order : Order Label) (model : Model Label Marks) : Type 0 where
  pub flow_reflexive : (x : Label) → model.flow x x ≡ true
  pub flow_transitive : (x y z : Label) → model.flow x y ≡ true → model.flow y z ≡ true → model.flow x z ≡ true
  -- what is readable or writable is admitted by the clearance
  pub read_admitted : (m : Marks) (l : Label) → model.in_order m ≡ true → model.readable m l ≡ true → model.read_admits (model.clearance m) l ≡ true
  pub write_admitted : (m : Marks) (l : Label) → model.in_order m ≡ true → model.writable m l ≡ true → model.write_admits (model.clearance m) l ≡ true
  -- a start is refused exactly where the clearance does not dominate the start label
  pub starts : (c s : Label) → order.proper c → order.dominance c s ≡ true → (m : Marks) × (model.start c s ≡ Ok m) × Starts model c m
  pub not_started : (c s : Label) → order.dominance c s ≡ false → model.start c s ≡ Err NotDominated
  -- a request is not decided exactly where the marks are out of order
  pub decides : (m : Marks) (o : Label) (k : Kind) → model.in_order m ≡ true → Decides model m o k
  pub not_decided : (m : Marks) (o : Label) (k : Kind) → model.in_order m ≡ false → model.decide m o k ≡ Err OutOfOrder
