use Rattle.std.proofs.Common.{◌≡◌, ◌+◌, ◌*◌, length, drop}
use Rattle.tags.specs.Tag.{list_of, empty}
use Rattle.tags.proofs.Steps.{pairs_of}
use Rattle.tags.proofs.reader.read_list.Given as goal

abbrev pub invariant-loop-place : goal.invariant-loop-place
invariant-loop-place l = (length l.map ≡ 30) × (pairs_of l.grade l.map l.least (4 + 2 * l.place) (drop l.place l.pairs) ≡ list_of l.grade empty 0 4 l.list)
