use Rattle.std.proofs.Common.{rules}
use Rattle.tags.proofs.Steps.{tag_read}
use Rattle.tags.specs.declared.reader.TagType.TheVariants.{Map, List}
use Rattle.tags.proofs.reader.read_tag.Goals as goal

pub returns-in-Map : goal.returns-in-Map
returns-in-Map c =
    rw (tag_read c.args.input.now Map c.in_ok-whole.whole (search rules) (search rules) (search rules) c.if-zero-ne0.false)
    (search rules)

pub returns-in_ok-label-in-List : goal.returns-in_ok-label-in-List
returns-in_ok-label-in-List c =
    rw (tag_read c.args.input.now List c.in_ok-whole.whole (search rules) (search rules) (search rules) c.if-zero-ne0.false)
    (search rules)
