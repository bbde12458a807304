use Rattle.std.proofs.Common.{◌≡◌, ◌*◌, [], length, drop}
use Rattle.records.specs.Texts.{base16}
use Rattle.records.proofs.base16.decode.Given as goal

abbrev pub invariant-loop-i : goal.invariant-loop-i
invariant-loop-i l = (length l.octets.items ≡ l.i) × (base16 0 [] l.text ≡ base16 (2 * l.i) l.octets.items (drop (2 * l.i) l.text))
