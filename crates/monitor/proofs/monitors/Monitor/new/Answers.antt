use Rattle.std.proofs.Common.{arith}
use Rattle.access_log.proofs.Prefixes.{take_at_most}
use Rattle.monitor.proofs.Views.{fresh_from}
use Rattle.monitor.proofs.monitors.Monitor.new.Goals as goal

-- the check alone leaves this goal open
pub returns-clause-made : goal.returns-clause-made
returns-clause-made g c =
    fresh_from
    (take_at_most c.min-object_count.result 4096 c.args.objects.now (omega (arith, c.min-object_count.ensures)))
    (take_at_most c.min-row_count.result 1024 c.args.rows.now (omega (arith, c.min-row_count.ensures)))
    (take_at_most c.min-place_count.result 65536 c.args.places.now (omega (arith, c.min-place_count.ensures)))
    c.new-sessions.ensures.rows c.new-log.ensures.places c.new-sessions.ensures.sessions c.new-log.ensures.history
    c.new-sessions.ensures.spare c.new-log.ensures.blank
