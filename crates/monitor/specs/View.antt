-- A monitor as plain lists, and what each call finds, answers and leaves.
use Rattle.std.specs.Prelude.{◌≡◌, ℕ, ◌+◌, ◌^◌, ◌<◌, List, [], ◌∷◌, ◌++◌, length, take, drop, Ok, Result, slice_set}
use Rattle.std.specs.List.{slice_get}
use Rattle.std.specs.Option.{ok_or}
use Rattle.policies.specs.Model.{Model}
use Rattle.policies.specs.declared.verdicts.Verdict.{Verdict}
use Rattle.policies.specs.declared.verdicts.Decision.{Decision}
use Rattle.reference.specs.Entries.{entry}
use Rattle.reference.specs.Refusals.{from_start, from_decide}
use Rattle.reference.specs.Results.{and_then, refused_as, free, answer, after}
use Rattle.reference.specs.declared.entries.Entry.{Entry}
use Rattle.reference.specs.declared.entries.Request.{Request}
use Rattle.reference.specs.declared.refusals.Refusal.{Refusal}
use Rattle.reference.specs.declared.refusals.Refusal.TheVariants.{NotEnrolled, UnknownObject, NoFreeRow, NoFreePlace}
use Rattle.reference.specs.declared.sessions.SessionState.TheVariants.{Open, Closed}
use Rattle.monitor.specs.Rows.{row, open_marks}
use Rattle.monitor.specs.declared.tables.SessionRow.{SessionRow}

-- the whole of a monitor: the objects' labels, and how many session rows and log places there are; the sessions' rows,
-- by their numbers, and the entries, the newest first; then the rows and places that are not in use
pub record View (L M : Type 0) : Type 0 where
  pub labels : List L
  pub rows : ℕ
  pub places : ℕ
  pub sessions : List (SessionRow M)
  pub history : List Entry
  pub spare : List (SessionRow M)
  pub blank : List Entry

-- what every monitor's view has: each row is a session's or spare, each place an entry's or blank, and no more labels
-- than a program can count
pub record Counted {L M : Type 0} (v : View L M) : Type 0 where
  pub rows : length v.sessions + length v.spare ≡ v.rows
  pub places : length v.history + length v.blank ≡ v.places
  pub labels : length v.labels < 2 ^ 64

-- no session and no entry
abbrev pub fresh : {L M : Type 0} → List L → List (SessionRow M) → List Entry → View L M
fresh labels rows places = record {
  labels = labels;
  rows = length rows;
  places = length places;
  sessions = [];
  history = [];
  spare = rows;
  blank = places;
}

-- how much of what a caller lends a monitor uses
abbrev pub object_limit : ℕ
object_limit = 4096

abbrev pub row_limit : ℕ
row_limit = 1024

abbrev pub place_limit : ℕ
place_limit = 65536

-- a monitor over what a caller lends, as it is made
abbrev pub made_over : {L M : Type 0} → List L → List (SessionRow M) → List Entry → View L M
made_over labels rows places = fresh (take object_limit labels) (take row_limit rows) (take place_limit places)

module _ {L M : Type 0} (model : Model L M) (v : View L M) where
  -- an enrolment finds a free row, and the marks that the session starts with
  abbrev pub enrolling : L → L → Result M Refusal
  enrolling c s = and_then (free (length v.sessions) v.rows NoFreeRow) (λ _. refused_as from_start (model.start c s))

  -- a request finds its session open, its object known and the policy's decision
  abbrev pub judging : Request → Result (Decision M) Refusal
  judging r =
      and_then (open_marks v.sessions r.session) (λ m.
      and_then (ok_or (slice_get v.labels r.object) UnknownObject) (λ l.
      refused_as from_decide (model.decide m l r.kind)))

  -- and then a free place
  abbrev pub requesting : Request → Result (Decision M) Refusal
  requesting r = and_then (judging r) (λ d. and_then (free (length v.history) v.places NoFreePlace) (λ _. Ok d))

  abbrev pub with_session : M → View L M
  with_session m = record {
    labels = v.labels;
    rows = v.rows;
    places = v.places;
    sessions = v.sessions ++ row m Open ∷ [];
    history = v.history;
    spare = drop 1 v.spare;
    blank = v.blank;
  }

  abbrev pub with_entry : Request → Decision M → View L M
  with_entry r d = record {
    labels = v.labels;
    rows = v.rows;
    places = v.places;
    sessions = slice_set v.sessions r.session (row d.marks Open);
    history = entry r d.verdict ∷ v.history;
    spare = v.spare;
    blank = drop 1 v.blank;
  }

  abbrev pub with_closed : ℕ → M → View L M
  with_closed k m = record {
    labels = v.labels;
    rows = v.rows;
    places = v.places;
    sessions = slice_set v.sessions k (row m Closed);
    history = v.history;
    spare = v.spare;
    blank = v.blank;
  }

  -- the answer of each call, and the monitor after it
  abbrev pub enrol_answer : L → L → Result ℕ Refusal
  enrol_answer c s = answer (λ _. length v.sessions) (enrolling c s)

  abbrev pub enrol_after : L → L → View L M
  enrol_after c s = after with_session v (enrolling c s)

  abbrev pub request_answer : Request → Result (Verdict × ℕ) Refusal
  request_answer r = answer {A = Verdict × ℕ} (λ d. (d.verdict, length v.history)) (requesting r)

  abbrev pub request_after : Request → View L M
  request_after r = after (with_entry r) v (requesting r)

  abbrev pub close_answer : ℕ → Result (Unit {0}) Refusal
  close_answer k = answer {A = Unit {0}} (λ _. tt) (open_marks v.sessions k)

  abbrev pub close_after : ℕ → View L M
  close_after k = after (with_closed k) v (open_marks v.sessions k)

  abbrev pub row_answer : ℕ → Result M Refusal
  row_answer k = answer (λ (s : SessionRow M). s.marks) (ok_or (slice_get v.sessions k) NotEnrolled)
