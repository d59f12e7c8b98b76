-- `audit::verdict` answers what the check finds. Assumes nothing.
use Rattle.std.proofs.Common.{◌∙◌}
use Rattle.audit.proofs.AuditMeaning.{answer_is}
use Rattle.audit.proofs.verdict.Goals as goal

pub returns : goal.returns
returns c = c.answer_of.ensures ∙ answer_is _ _ _ c.look_at.ensures
