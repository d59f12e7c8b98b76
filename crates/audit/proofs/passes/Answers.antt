-- `audit::passes` says whether the heap passes. Assumes nothing.
use Rattle.std.proofs.Common.{◌∙◌}
use Rattle.audit.proofs.AuditMeaning.{passing_is}
use Rattle.audit.proofs.passes.Goals as goal

pub returns : goal.returns
returns c = c.is_some.ensures ∙ passing_is _ _ _ c.look_at.ensures
