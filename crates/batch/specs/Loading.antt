-- Records that come before the first session.
use Rattle.std.specs.Prelude.{ℕ, ◌+◌, List, [], ◌∷◌, ◌++◌, length, Some, None, Ok, Err, Option, Result}
use Rattle.labels.specs.declared.grades.GradeLabel.{GradeLabel}
use Rattle.policies.specs.Model.{Model}
use Rattle.reference.specs.Results.{and_then, refused_as, free, answer, after}
use Rattle.reference.specs.Refusals.{from_start}
use Rattle.reference.specs.declared.refusals.Refusal.TheVariants.{NotEnrolled}
use Rattle.reference.specs.declared.entries.Entry.{Entry}
use Rattle.monitor.specs.View.{made_over}
use Rattle.monitor.specs.declared.tables.SessionRow.{SessionRow}
use Rattle.faults.specs.declared.layers.FieldFault.{FieldFault}
use Rattle.faults.specs.declared.layers.RecordCause.{RecordCause}
use Rattle.records.specs.declared.values.Record.{Record}
use Rattle.records.specs.declared.values.Record.TheVariants.{Policy, Object, Session, Request, Close}
use Rattle.records.specs.Lines.{record_of}
use Rattle.answers.specs.Answers.{Outcome, output_of}
use Rattle.batch.specs.Serving.{label_in, serving}
use Rattle.answers.specs.declared.outcomes.Answer.TheVariants as answered
use Rattle.answers.specs.declared.outcomes.BatchRefusal.{BatchRefusal}
use Rattle.answers.specs.declared.outcomes.BatchRefusal.TheVariants as refused

-- how many objects there may be
abbrev pub object_places : ℕ
object_places = 256

-- there is a place for one more object
abbrev pub object_free : List GradeLabel → Result (Unit {0}) BatchRefusal
object_free objects = free (length objects) object_places refused.NoObjectPlace

abbrev pub object_answer : List GradeLabel → Result GradeLabel FieldFault → Outcome
object_answer objects label = and_then (label_in label) (λ _. answer (λ _. answered.Object (length objects)) (object_free objects))

abbrev pub object_after : List GradeLabel → Result GradeLabel FieldFault → List GradeLabel
object_after objects (Ok label) = after (λ _. objects ++ label ∷ []) objects (object_free objects)
object_after objects (Err f) = objects

-- whether a record starts a session, or why it is refused: there is no session yet, and so no request and no closing
abbrev pub start_answer : {M : Type 0} → Model GradeLabel M → Result Record RecordCause → Result (Unit {0}) BatchRefusal
start_answer model (Err cause) = Err (refused.Record cause)
start_answer model (Ok (Policy p)) = Err refused.OutOfPlace
start_answer model (Ok (Object l)) = Err refused.OutOfPlace
start_answer model (Ok (Session c s)) =
    and_then (label_in c) (λ c. and_then (label_in s) (λ s. answer {A = Unit {0}} (λ _. tt) (refused_as (λ f. refused.Call (from_start f)) (model.start c s))))
start_answer model (Ok (Request r)) = Err (refused.Call NotEnrolled)
start_answer model (Ok (Close s)) = Err (refused.Call NotEnrolled)

-- what a line comes to: nothing yet, where it starts the first session
abbrev pub by_start : Result (Unit {0}) BatchRefusal → Option Outcome
by_start (Ok x) = None
by_start (Err f) = Some (Err f)

abbrev pub loaded_of : {M : Type 0} → Model GradeLabel M → List GradeLabel → Result Record RecordCause → Option Outcome
loaded_of model objects (Ok (Object label)) = Some (object_answer objects label)
loaded_of model objects r = by_start (start_answer model r)

-- and the objects after it
abbrev pub load_after : List GradeLabel → Result Record RecordCause → List GradeLabel
load_after objects (Ok (Object label)) = object_after objects label
load_after objects r = objects

-- what is written from a line on: the serving, where it starts the first session, or its own record and the rest
abbrev pub from_loaded : Option Outcome → ℕ → List ℕ → List ℕ → List ℕ
from_loaded None place served rest = served
from_loaded (Some outcome) place served rest = output_of place outcome ++ rest

-- the records written for lines, the first of which stands at a place
abbrev pub loading : {M : Type 0} → Model GradeLabel M → List (SessionRow M) → List Entry → List GradeLabel → ℕ → List (List ℕ) → List ℕ
loading model rows places objects place [] = []
loading model rows places objects place (line ∷ lines) =
    from_loaded (loaded_of model objects (record_of line)) place
    (serving model (made_over objects rows places) place (line ∷ lines))
    (loading model rows places (load_after objects (record_of line)) (place + 1) lines)
