-- Records that are put to a monitor.
use Rattle.std.specs.Prelude.{ℕ, ◌+◌, List, [], ◌∷◌, ◌++◌, Ok, Err, Result}
use Rattle.labels.specs.declared.grades.GradeLabel.{GradeLabel}
use Rattle.policies.specs.Model.{Model}
use Rattle.reference.specs.Results.{and_then, refused_as, answer}
use Rattle.monitor.specs.View.{View, enrol_answer, enrol_after, request_answer, request_after, close_answer, close_after}
use Rattle.faults.specs.declared.layers.FieldFault.{FieldFault}
use Rattle.faults.specs.declared.layers.RecordCause.{RecordCause}
use Rattle.faults.specs.declared.layers.RecordCause.TheVariants.{Field}
use Rattle.records.specs.declared.values.Record.{Record}
use Rattle.records.specs.declared.values.Record.TheVariants.{Policy, Object, Session, Request, Close}
use Rattle.records.specs.Lines.{record_of}
use Rattle.answers.specs.Answers.{Outcome, output_of}
use Rattle.answers.specs.declared.outcomes.Answer.{Answer}
use Rattle.answers.specs.declared.outcomes.Answer.TheVariants as answered
use Rattle.answers.specs.declared.outcomes.BatchRefusal.{BatchRefusal}
use Rattle.answers.specs.declared.outcomes.BatchRefusal.TheVariants as refused

-- a label, unless its tag is wrong
abbrev pub label_in : Result GradeLabel FieldFault → Result GradeLabel BatchRefusal
label_in l = refused_as (λ f. refused.Record (Field f)) l

-- what a call answers, unless it is refused
abbrev pub by_call : {X E : Type 0} → (X → Answer) → (E → BatchRefusal) → Result X E → Outcome
by_call f g r = answer f (refused_as g r)

-- what follows from two labels, if no tag is wrong
abbrev pub with_labels : {X : Type 0} → Result GradeLabel FieldFault → Result GradeLabel FieldFault → (GradeLabel → GradeLabel → X) → X → X
with_labels (Err f) s k x = x
with_labels (Ok c) (Err f) k x = x
with_labels (Ok c) (Ok s) k x = k c s

module _ {M : Type 0} (model : Model GradeLabel M) (v : View GradeLabel M) where
  -- what a record comes to: the policy is chosen, and no object comes after the first session
  abbrev pub serve_answer : Record → Outcome
  serve_answer (Policy p) = Err refused.OutOfPlace
  serve_answer (Object l) = Err refused.OutOfPlace
  serve_answer (Session c s) = and_then (label_in c) (λ c. and_then (label_in s) (λ s. by_call answered.Session refused.Call (enrol_answer model v c s)))
  serve_answer (Request r) = by_call (λ d. answered.Decided d.0 d.1) refused.Call (request_answer model v r)
  serve_answer (Close s) = by_call (λ _. answered.Closed s) refused.Call (close_answer model v s)

  -- and the monitor after it
  abbrev pub serve_after : Record → View GradeLabel M
  serve_after (Policy p) = v
  serve_after (Object l) = v
  serve_after (Session c s) = with_labels c s (enrol_after model v) v
  serve_after (Request r) = request_after model v r
  serve_after (Close s) = close_after model v s

  -- the same of a line, which may be no record
  abbrev pub line_answer : Result Record RecordCause → Outcome
  line_answer (Ok r) = serve_answer r
  line_answer (Err cause) = Err (refused.Record cause)

  abbrev pub line_after : Result Record RecordCause → View GradeLabel M
  line_after (Ok r) = serve_after r
  line_after (Err cause) = v

-- the records written for lines, the first of which stands at a place
abbrev pub serving : {M : Type 0} → Model GradeLabel M → View GradeLabel M → ℕ → List (List ℕ) → List ℕ
serving model v place [] = []
serving model v place (line ∷ lines) =
    output_of place (line_answer model v (record_of line)) ++ serving model (line_after model v (record_of line)) (place + 1) lines
