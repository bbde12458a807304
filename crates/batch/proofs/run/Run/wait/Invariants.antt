use Rattle.std.proofs.Common.{◌≡◌, length}
use Rattle.batch.specs.Lines.{lines_left}
use Rattle.batch.specs.Batch.{waiting}
use Rattle.batch.specs.Run.{finished}
use Rattle.batch.proofs.run.Run.wait.Given as goal

abbrev pub invariant-loop-line : goal.invariant-loop-line
invariant-loop-line l = finished waiting l.self ≡ finished waiting l.initial.self

abbrev pub decreases-loop-line : goal.decreases-loop-line
decreases-loop-line l = length (lines_left l.self.lines)
