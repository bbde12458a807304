use Rattle.std.proofs.Common.{arith, rules, ◌≤◌, length}
use Rattle.std.proofs.lemmas.List.{drop_all}
use Rattle.std.proofs.lemmas.Bool.Decides.{nat_tests}
use Rattle.tags.specs.Tag.{empty}
use Rattle.tags.proofs.Steps.{pairs_are, pairs_step}
use Rattle.tags.proofs.reader.read_list.Goals as goal

pub loop-place-init : goal.loop-place-init
loop-place-init c = (search rules, rw c.as_chunks.ensures.front (pairs_are c.args.grade empty 0 4 c.args.list.now))

pub returns-then-category-least : goal.returns-then-category-least
returns-then-category-least c =
    let step = pairs_step c.args.grade c.loop-place.map c.loop-place.least c.as_chunks.result.0.now c.loop-place.place
    c.from_be_bytes-category.result (search rules) (search rules) in
    grind (arith, nat_tests, step, c.loop-place.invariant.1, c.then-category-least.either)

pub loop-place-preserved : goal.loop-place-preserved
loop-place-preserved c =
    let step = pairs_step c.args.grade c.loop-place.map c.loop-place.least c.as_chunks.result.0.now c.loop-place.place
    c.from_be_bytes-category.result (search rules) (search rules) in
    (c.type_inv.map, grind (arith, nat_tests, step, c.loop-place.invariant.1))

pub returns : goal.returns
returns c =
    let past : length c.as_chunks.result.0.now ≤ c.loop-place.place = search rules in
    rw (c.from_map.ensures, ← c.loop-place.invariant.1, drop_all _ _ past)
