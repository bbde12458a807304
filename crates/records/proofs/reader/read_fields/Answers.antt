use Rattle.std.proofs.Common.{sym, ◌∙◌, zero-add}
use Rattle.records.proofs.Steps.{ok_from_map_err}
use Rattle.records.proofs.Splits.{fields_by_field, rest_by_field}
use Rattle.records.proofs.reader.read_fields.Goals as goal

-- the check alone leaves this goal open
pub returns-in-None : goal.returns-in-None
returns-in-None c =
    let first = rw c.in_ok-first.ensures.ok_part at c.field_at.ensures in
    let word = sym c.try_from.ensures ∙ ok_from_map_err c.try_from.result c.in_ok-word.word c.in_ok-word.ensures.cases in
    let second = rw c.in_ok-second.ensures.ok_part at c.field_at-2.ensures in
    rw (fields_by_field, sym first, zero-add, rest_by_field, sym second, rest_by_field, sym c.in-Some.ensures, rest_by_field, sym c.in-None.ensures, word) c.with_two.ensures
