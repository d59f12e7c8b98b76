-- Of a permitted size the code's need is the rule's (`permitted_need`). Assumes nothing.
use Rattle.std.proofs.Common.{◌≡◌, ℕ, true, le-leb}
use Rattle.lists.proofs.ListsLaws.{at_most, both}
use Rattle.rules.specs.Kinds.{overhead}
use Rattle.rules.specs.Serve.{need, permitted}
use Rattle.grant.specs.Need.{need_m}

module _ (z : ℕ) where
  pub permitted_need : permitted z ≡ true → need_m z ≡ need overhead z
  unfolding need_m
  permitted_need q = let b = (both (at_most 1 z) (at_most z 65488)).0 q in rw (le-leb z 65488 b.1)
