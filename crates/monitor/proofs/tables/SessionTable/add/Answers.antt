use Rattle.access_log.proofs.Prefixes.{rest_more}
use Rattle.monitor.proofs.tables.SessionTable.add.Goals as goal

pub returns-clause-spare : goal.returns-clause-spare
returns-clause-spare g c = rw (← c.self.view_is, c.put_row.ensures) (rest_more c.self.inside.rows.now c.self.inside.enrolled _)
