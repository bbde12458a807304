-- What is written, a record at a time.
use Rattle.std.proofs.Common.{◌≡◌, ℕ, ◌+◌, List, ◌∷◌, ◌++◌, None, Option, ap, append_assoc}
use Rattle.labels.specs.declared.grades.GradeLabel.{GradeLabel}
use Rattle.policies.specs.Model.{Model}
use Rattle.reference.specs.declared.entries.Entry.{Entry}
use Rattle.monitor.specs.View.{View, made_over}
use Rattle.monitor.specs.declared.tables.SessionRow.{SessionRow}
use Rattle.records.specs.Lines.{record_of}
use Rattle.answers.specs.Answers.{Outcome, output_of}
use Rattle.batch.specs.declared.lines.Line.{Line}
use Rattle.batch.specs.declared.lines.Lines.{Lines}
use Rattle.batch.specs.declared.run.Run.{Run}
use Rattle.batch.specs.Lines.{lines_left}
use Rattle.batch.specs.Loading.{loaded_of, load_after, from_loaded, loading}
use Rattle.batch.specs.Run.{finished}
use Rattle.batch.specs.Serving.{line_answer, line_after, serving}

module _ {M : Type 0} (model : Model GradeLabel M) (rows : List (SessionRow M)) (places : List Entry) (objects : List GradeLabel)
    (v next : View GradeLabel M) where
  -- the line that starts the first session, and those after it
  started : (place : ℕ) (line : List ℕ) (left : List (List ℕ))
      → None ≡ loaded_of model objects (record_of line) → v ≡ made_over objects rows places
      → next ≡ line_after model v (record_of line)
      → output_of place (line_answer model v (record_of line)) ++ serving model next (place + 1) left ≡ loading model rows places objects place (line ∷ left)
  started place line left starts made en =
      let rest = loading model rows places (load_after objects (record_of line)) (place + 1) left in
      let served = ap (λ (w : View GradeLabel M). serving model w place (line ∷ left)) made in
      let loaded = ap (λ (o : Option Outcome). from_loaded o place (serving model (made_over objects rows places) place (line ∷ left)) rest) starts in
      cc

  -- the same of a run that stands at the line, of the lines after it, and of the run once the line's record is written
  pub run_starts : (run after : Run) (lines : Lines) (line : Line)
      → line.place ≡ run.lines.taken + 1 → lines.taken ≡ run.lines.taken + 1 → lines_left run.lines ≡ line.octets.now ∷ lines_left lines
      → after.out.items ≡ run.out.items ++ output_of line.place (line_answer model v (record_of line.octets.now)) → after.lines ≡ lines
      → None ≡ loaded_of model objects (record_of line.octets.now) → v ≡ made_over objects rows places
      → next ≡ line_after model v (record_of line.octets.now)
      → finished (serving model next) after ≡ finished (loading model rows places objects) run
  run_starts run after lines line place taken left written same starts made en =
      let first = started (run.lines.taken + 1) line.octets.now (lines_left lines) starts made en in
      let joined = append_assoc run.out.items (output_of (run.lines.taken + 1) (line_answer model v (record_of line.octets.now))) (serving model next (run.lines.taken + 1 + 1) (lines_left lines)) in
      let kept = ap (λ (l : Lines). l.taken) same in
      let others = ap lines_left same in
      cc
