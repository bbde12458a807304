use Rattle.std.proofs.Common.{◌≡◌, false, ltb, length}
use Rattle.std.proofs.lemmas.Bool.{le-ltb}
use Rattle.records.proofs.labels_in_text.read_label.Goals as goal

-- the check alone leaves this goal open
pub returns : goal.returns
returns c =
    let few : ltb 256 (length c.args.text.now) ≡ false = le-ltb _ _ c.if-text-gt-MOST_DIGITS.false in
    rw (few, c.only_tag.ensures, c.as_slice.ensures.value, c.in_ok-decode.ensures)
