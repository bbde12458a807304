-- The numbers of the refusals.
use Rattle.std.specs.Prelude.{ℕ}
use Rattle.policies.specs.declared.verdicts.StartRefusal.{StartRefusal}
use Rattle.policies.specs.declared.verdicts.StartRefusal.TheVariants as start
use Rattle.policies.specs.declared.verdicts.DecideRefusal.{DecideRefusal}
use Rattle.policies.specs.declared.verdicts.DecideRefusal.TheVariants as decide
use Rattle.reference.specs.declared.refusals.Refusal.{Refusal}
use Rattle.reference.specs.declared.refusals.Refusal.TheVariants.{NotEnrolled, Closed, UnknownObject, NotDominated, NoFreeRow, NoFreePlace, OutOfOrder}

abbrev pub number : Refusal → ℕ
number NotEnrolled = 1
number Closed = 2
number UnknownObject = 3
number NotDominated = 4
number NoFreeRow = 5
number NoFreePlace = 6
number OutOfOrder = 7

-- a policy's refusal as the monitor passes it on
abbrev pub from_start : StartRefusal → Refusal
from_start start.NotDominated = NotDominated

abbrev pub from_decide : DecideRefusal → Refusal
from_decide decide.OutOfOrder = OutOfOrder
