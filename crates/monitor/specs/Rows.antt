-- The session table as plain lists.
use Rattle.std.specs.Prelude.{ℕ, ◌+◌, List, length, Ok, Err, Result}
use Rattle.std.specs.List.{slice_get}
use Rattle.std.specs.Option.{ok_or}
use Rattle.reference.specs.Results.{and_then}
use Rattle.reference.specs.declared.sessions.SessionState.{SessionState}
use Rattle.reference.specs.declared.sessions.SessionState.TheVariants.{Open, Closed}
use Rattle.reference.specs.declared.refusals.Refusal.{Refusal}
use Rattle.reference.specs.declared.refusals.Refusal.TheVariants as refusal
use Rattle.monitor.specs.declared.tables.SessionRow.{SessionRow}

abbrev pub row : {M : Type 0} → M → SessionState → SessionRow M
row m s = record { marks = m; state = s }

-- the rows of the sessions, by their numbers, and the rows that are not in use
pub record Rows (M : Type 0) : Type 0 where
  pub sessions : List (SessionRow M)
  pub spare : List (SessionRow M)

-- how many rows there are
abbrev pub row_count : {M : Type 0} → Rows M → ℕ
row_count t = length t.sessions + length t.spare

abbrev pub open_row : {M : Type 0} → SessionRow M → Result M Refusal
open_row r = elim r.state [ Open ↦ Ok r.marks | Closed ↦ Err refusal.Closed ]

-- the marks of a session that is open
abbrev pub open_marks : {M : Type 0} → List (SessionRow M) → ℕ → Result M Refusal
open_marks ss k = and_then (ok_or (slice_get ss k) refusal.NotEnrolled) open_row
