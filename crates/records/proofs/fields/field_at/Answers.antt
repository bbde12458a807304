use Rattle.std.proofs.Common.{◌∙◌, rules}
use Rattle.std.proofs.lemmas.List.{take_rest}
use Rattle.std.proofs.lemmas.List.Sorted.{answers_always}
use Rattle.records.proofs.Pieces.{split_field}
use Rattle.records.proofs.fields.field_at.Goals as goal

-- the check alone leaves this goal open
pub returns : goal.returns
returns c =
    let got = c.in_ok-get.ensures.lookup.0 in
    let rest = c.split.ensures.rest ∙ got.2 ∙ take_rest c.args.line.now c.args.from in
    let calls = answers_always _ _ _ (λ f a r g h. search rules) in
    split_field _ c.split.result c.next.new.self c.next.result c.args.line.now c.args.from got.0 rest c.split.ensures.done calls c.next.ensures.steps
