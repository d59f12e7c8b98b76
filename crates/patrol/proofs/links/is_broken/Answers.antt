-- The rule's four tests are the code's two (`broken_is`). Assumes nothing.
use mathlib.Core.Path.{◌∙◌, sym}
use Rattle.patrol.proofs.LinksLaws.{broken_is}
use Rattle.patrol.proofs.links.is_broken.Goals as goal

pub returns-then-not-can_follow : goal.returns-then-not-can_follow
returns-then-not-can_follow c =
    rw (← broken_is, ← c.least_size.ensures, sym c.can_follow.ensures ∙ c.if-not-can_follow.true)

pub returns : goal.returns
returns c =
    rw (
      c.is_skip.ensures,
      ← broken_is,
      ← c.least_size.ensures,
      sym c.can_follow.ensures ∙ c.if-not-can_follow.false,
    )
