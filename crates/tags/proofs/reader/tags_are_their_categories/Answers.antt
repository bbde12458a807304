use Rattle.tags.proofs.Listed.{list_reads, map_reads}
use Rattle.tags.proofs.reader.tags_are_their_categories.Goals as goal

-- the check alone leaves this goal open
pub returns : goal.returns
returns c = record { lists = list_reads; maps = map_reads }
