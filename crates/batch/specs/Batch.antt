-- A whole batch: the octets that are written for an input.
use Rattle.std.specs.Prelude.{ℕ, ◌+◌, List, [], ◌∷◌, ◌++◌, replicate, Ok, Err, Result}
use Rattle.labels.specs.Grade.{grade_order}
use Rattle.labels.specs.declared.grades.GradeLabel.{GradeLabel}
use Rattle.rules.specs.SixLabels.{secrecy_model, integrity_model}
use Rattle.rules.specs.declared.marks.SixLabels.{SixLabels}
use Rattle.policies.specs.declared.verdicts.Kind.TheVariants as kind
use Rattle.policies.specs.declared.verdicts.Verdict.TheVariants as verdict
use Rattle.reference.specs.declared.entries.Entry.{Entry}
use Rattle.reference.specs.declared.sessions.SessionState.TheVariants as state
use Rattle.monitor.specs.declared.tables.SessionRow.{SessionRow}
use Rattle.faults.specs.declared.layers.RecordCause.{RecordCause}
use Rattle.records.specs.declared.values.PolicyName.{PolicyName}
use Rattle.records.specs.declared.values.PolicyName.TheVariants.{Confidentiality, Integrity}
use Rattle.records.specs.declared.values.Record.{Record}
use Rattle.records.specs.declared.values.Record.TheVariants.{Policy}
use Rattle.records.specs.Lines.{record_of}
use Rattle.answers.specs.Answers.{output_of}
use Rattle.batch.specs.Lines.{lines_of}
use Rattle.batch.specs.Loading.{loading}
use Rattle.answers.specs.declared.outcomes.Answer.TheVariants as answered
use Rattle.answers.specs.declared.outcomes.BatchRefusal.{BatchRefusal}
use Rattle.answers.specs.declared.outcomes.BatchRefusal.TheVariants as refused

-- what the rows and places hold before anything is put there
abbrev pub blank_row : SessionRow (SixLabels GradeLabel)
blank_row = record {
  marks = record {
    clearance = grade_order.low;
    current = grade_order.low;
    in_low = grade_order.low;
    in_high = grade_order.low;
    out_low = grade_order.low;
    out_high = grade_order.low;
  };
  state = state.Closed;
}

abbrev pub blank_entry : Entry
blank_entry = record { session = 0; object = 0; kind = kind.Read; verdict = verdict.History }

-- rows for 64 sessions, and 1,024 places in the log; shut, since they would be written out in every goal
unfoldable pub blank_rows : List (SessionRow (SixLabels GradeLabel))
blank_rows = replicate 64 blank_row

unfoldable pub blank_places : List Entry
blank_places = replicate 1024 blank_entry

-- the policy that a record chooses, or why it is refused: any other record is out of place
abbrev pub choice : Result Record RecordCause → Result PolicyName BatchRefusal
choice (Err cause) = Err (refused.Record cause)
choice (Ok (Policy name)) = Ok name
choice (Ok r) = Err refused.OutOfPlace

-- the records written once the policy is chosen
abbrev pub under : PolicyName → ℕ → List (List ℕ) → List ℕ
under Confidentiality place lines = loading (secrecy_model grade_order) blank_rows blank_places [] place lines
under Integrity place lines = loading (integrity_model grade_order) blank_rows blank_places [] place lines

-- what is written from a line on: its own record, and then the rest under the policy, or the rest before one
abbrev pub from_choice : Result PolicyName BatchRefusal → ℕ → List (List ℕ) → List ℕ → List ℕ
from_choice (Ok name) place lines rest = output_of place (Ok answered.Policy) ++ under name (place + 1) lines
from_choice (Err f) place lines rest = output_of place (Err f) ++ rest

abbrev pub waiting : ℕ → List (List ℕ) → List ℕ
waiting place [] = []
waiting place (line ∷ lines) = from_choice (choice (record_of line)) place lines (waiting (place + 1) lines)

-- the octets that are written for an input
unfoldable pub batch_of : List ℕ → List ℕ
batch_of input = waiting 1 (lines_of [] input)
