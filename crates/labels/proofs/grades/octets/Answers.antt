use Rattle.std.proofs.Common.{◌+◌, rules, arith}
use Rattle.std.specs.List.{slice_index}
use Rattle.labels.proofs.Filled.{filled}
use Rattle.labels.proofs.grades.octets.Goals as goal

pub returns : goal.returns
returns g c = λ k h.
    filled _ (λ i. slice_index c.args.map.now (c.args.from + i)) _ _ (λ i y f' called. search rules) _ 0 c.from_fn.ensures.items.each k k 0 (omega arith) h
