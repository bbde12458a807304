use Rattle.std.proofs.Common.{◌≡◌, ◌^◌, ◌<◌, ◌≤◌, drop}
use Rattle.records.specs.Texts.{digits_from, number_of}
use Rattle.records.proofs.numbers.read_number.Given as goal

abbrev pub invariant-loop-i : goal.invariant-loop-i
invariant-loop-i l = (l.i ≤ 5) × (l.value < 10 ^ l.i) × (number_of l.text ≡ digits_from l.value l.i (drop l.i l.text))
