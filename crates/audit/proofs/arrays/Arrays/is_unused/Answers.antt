-- `Arrays::is_unused` tests the rest of the three arrays place by place. Assumes nothing.
use Rattle.std.proofs.Common.{◌∙◌, add-one}
use Rattle.audit.proofs.AuditLaws.{unused_goes}
use Rattle.audit.proofs.arrays.Arrays.is_unused.Goals as goal

pub loop-i-preserved : goal.loop-i-preserved
loop-i-preserved c =
    rw add-one (unused_goes _ _ _ c.args.self.places c.loop-i.i c.loop-i-test.true c.loop-i.seen ∙ c.loop-i.invariant)
