-- The lists that a session table stands for.
use Rattle.std.specs.Prelude.{◌≤◌, length, take, drop}
use Rattle.monitor.specs.Rows.{Rows}
use Rattle.monitor.specs.declared.tables.SessionTable.TheInside.{Inside}

abbrev pub rows_of : {M : Type 0} → Inside M → Rows M
rows_of t = record { sessions = take t.enrolled t.rows.now; spare = drop t.enrolled t.rows.now }

-- no more rows are in use than there are
abbrev pub Within : {M : Type 0} → Inside M → Type 0
Within t = t.enrolled ≤ length t.rows.now
