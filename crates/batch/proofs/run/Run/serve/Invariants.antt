use Rattle.std.proofs.Common.{◌≡◌, length}
use Rattle.batch.specs.Lines.{lines_left}
use Rattle.batch.specs.Serving.{serving}
use Rattle.batch.specs.Run.{finished}
use Rattle.batch.proofs.run.Run.serve.Given as goal

abbrev pub invariant-loop-line : goal.invariant-loop-line
invariant-loop-line g l =
    finished (serving g.P.Policy.model l.monitor) l.self ≡ finished (serving g.P.Policy.model l.initial.monitor) l.initial.self

abbrev pub decreases-loop-line : goal.decreases-loop-line
decreases-loop-line g l = length (lines_left l.self.lines)
