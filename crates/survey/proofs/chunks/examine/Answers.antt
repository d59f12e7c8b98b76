-- `chunks::examine` compares the second word with the place before, and leaves a free chunk to `examine_free`. Assumes nothing.
use Rattle.survey.proofs.ChunkLaws.{found_used, found_unbacked}
use Rattle.survey.proofs.chunks.examine.Goals as goal

pub returns-then-visit : goal.returns-then-visit
returns-then-visit c = found_used _ _ _ c.requires c.if-visit.true

pub returns-then-visit-2 : goal.returns-then-visit-2
returns-then-visit-2 c = found_unbacked _ _ _ c.requires c.if-visit.false c.if-visit-2.true
