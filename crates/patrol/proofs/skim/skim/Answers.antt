-- The start is tested apart. The blanks: the region's words, end, the chunk, how many are left. Assumes nothing.
use Rattle.patrol.proofs.SkimLaws.{above_start_lem, none_asked, start_stops, start_goes}
use Rattle.patrol.proofs.skim.skim.Goals as goal

pub returns-then-rest-ne0 : goal.returns-then-rest-ne0
returns-then-rest-ne0 c = above_start_lem _ _ _ _ c.if-rest-ne0.true c.skim_above.ensures

pub returns-then-rest-eq0 : goal.returns-then-rest-eq0
returns-then-rest-eq0 c = none_asked _ _ _ _ c.if-rest-ne0.false c.if-rest-eq0.true

pub returns-then-not-is_start_whole : goal.returns-then-not-is_start_whole
returns-then-not-is_start_whole c =
    start_stops _ _ _ _ c.if-rest-ne0.false c.if-rest-eq0.false c.links_of-links.ensures c.links_of-above.ensures
    c.is_start_whole.ensures c.if-not-is_start_whole.true

pub returns : goal.returns
returns c =
    start_goes _ _ _ _ c.if-rest-ne0.false c.if-rest-eq0.false c.links_of-links.ensures c.links_of-above.ensures
    c.is_start_whole.ensures c.if-not-is_start_whole.false c.skim_above-2.ensures
