-- A batch on its way.
use Rattle.std.specs.Prelude.{ℕ, ◌+◌, List, ◌++◌}
use Rattle.batch.specs.declared.run.Run.{Run}
use Rattle.batch.specs.Lines.{lines_left}

-- the octets of a batch that goes on with a stage: those that were written, and those of the stage for the lines that are left
abbrev pub finished : (ℕ → List (List ℕ) → List ℕ) → Run → List ℕ
finished stage run = run.out.items ++ stage (run.lines.taken + 1) (lines_left run.lines)
