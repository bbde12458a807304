use Rattle.std.proofs.Common.{◌≡◌, [], length}
use Rattle.batch.specs.Lines.{lines_left}
use Rattle.batch.specs.Batch.{blank_rows, blank_places}
use Rattle.batch.specs.Loading.{loading}
use Rattle.batch.specs.Run.{finished}
use Rattle.batch.proofs.run.Run.load.Given as goal

abbrev pub invariant-loop-line : goal.invariant-loop-line
invariant-loop-line g l =
    finished (loading g.P.Policy.model blank_rows blank_places l.objects.items) l.self
    ≡ finished (loading g.P.Policy.model blank_rows blank_places []) l.initial.self

abbrev pub decreases-loop-line : goal.decreases-loop-line
decreases-loop-line g l = length (lines_left l.self.lines)
