use lib.Seq.{take-set-lt}
use Rattle.std.proofs.Common.{◌<◌, arith, length, take}
use Rattle.std.proofs.lemmas.List.{length-take}
use Rattle.monitor.proofs.tables.SessionTable.put.Goals as goal

pub returns-clause-sessions : goal.returns-clause-sessions
returns-clause-sessions g c =
    let rows = c.self.inside.rows.now in
    let enrolled = c.self.inside.enrolled in
    let within : c.args.session < length (take enrolled rows) = rw (← c.self.view_is) at c.requires in
    rw (← c.self.view_is, c.put_row.ensures) (take-set-lt enrolled rows c.args.session _ (omega (arith, within, length-take enrolled rows)))
