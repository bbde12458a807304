use Rattle.std.proofs.Common.{[], arith}
use Rattle.std.proofs.lemmas.Grind.{common_steps}
use Rattle.batch.proofs.Splits.{lines_at_break, lines_at_end}
use Rattle.batch.proofs.breaks.split_line.Goals as goal

pub returns-in-Some-clause-lines : goal.returns-in-Some-clause-lines
returns-in-Some-clause-lines c =
    let e = lines_at_break [] c.args.input.now c.in-Some.end c.in-Some.ensures in
    grind (arith, common_steps, e)

pub returns-in-None-clause-lines : goal.returns-in-None-clause-lines
returns-in-None-clause-lines c = grind (arith, lines_at_end)
