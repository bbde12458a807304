use Rattle.std.proofs.Common.{rules, tests}
use Rattle.std.proofs.lemmas.Iterator.{YieldsList-from_slice}
use Rattle.std.proofs.lemmas.Iterator.Search.{position_from_yields_List}
use Rattle.records.specs.Fields.{stray}
use Rattle.records.proofs.Steps.{position_stray}
use Rattle.records.proofs.reader.stray_octet.Goals as goal

-- the check alone leaves this goal open
pub returns : goal.returns
returns c =
    let line = c.args.line.now in
    rw (position_stray line) (position_from_yields_List stray _ _ c.position.result c.position.ensures.ran (YieldsList-from_slice line cc) (λ x b q k. search (rules, tests)))
