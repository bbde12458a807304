use Rattle.std.proofs.Common.{◌≡◌, arith, sym, subst}
use Rattle.std.proofs.lemmas.Grind.{common_steps}
use Rattle.orders.specs.Bounds.{gathered, LowestBound}
use Rattle.orders.proofs.Gathered.{gathered_lowest}
use Rattle.orders.proofs.gathering.gather.Goals as goal

pub returns-clause-lowest : goal.returns-clause-lowest
returns-clause-lowest g c =
    let order = g.L.LabelOrder.order in
    let labels = c.args.labels.now in
    let joins : c.fold.result ≡ gathered order labels = grind (arith, common_steps) in
    subst (LowestBound order labels) (sym joins) (gathered_lowest g.met.L.LabelOrder.lattice labels)
