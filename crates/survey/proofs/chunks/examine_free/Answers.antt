-- `chunks::examine_free` makes the tests of a free chunk, and gives its kind where they hold. Assumes nothing.
use Rattle.std.proofs.Common.{sym, ◌∙◌, eqb-true}
use Rattle.std.proofs.lemmas.Bool.{eqb-false}
use Rattle.survey.proofs.ChunkLaws.{found_unsized, found_top, found_donor, found_ordinary}
use Rattle.survey.proofs.chunks.examine_free.Goals as goal

pub returns-then-size-visit : goal.returns-then-size-visit
returns-then-size-visit c =
    found_unsized _ _ _ c.requires.followed c.requires.link_value (λ e. c.if-size-visit.true (c.size.ensures ∙ e))

pub returns-then-eq : goal.returns-then-eq
returns-then-eq c =
    c.then_some.ensures
    ∙ found_top _ _ _ c.requires.followed c.requires.link_value (sym c.size.ensures ∙ c.if-size-visit.false) (eqb-true _ _ (sym c.eq.ensures ∙ c.if-eq.true)) c.is_top.ensures

pub returns-then-eq-2 : goal.returns-then-eq-2
returns-then-eq-2 c =
    c.then_some-then-eq-2.ensures
    ∙ found_donor _ _ _ c.requires.followed c.requires.link_value (sym c.size.ensures ∙ c.if-size-visit.false) (eqb-false _ _ (sym c.eq.ensures ∙ c.if-eq.false))
    (eqb-true _ _ (sym c.eq-2.ensures ∙ c.if-eq-2.true)) c.is_donor.ensures

pub returns : goal.returns
returns c =
    found_ordinary _ _ _ c.requires.followed c.requires.link_value (sym c.size.ensures ∙ c.if-size-visit.false) (eqb-false _ _ (sym c.eq.ensures ∙ c.if-eq.false))
    (eqb-false _ _ (sym c.eq-2.ensures ∙ c.if-eq-2.false))
