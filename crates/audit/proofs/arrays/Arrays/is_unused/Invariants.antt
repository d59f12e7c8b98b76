-- The loop of `Arrays::is_unused`: the words seen and those that are left come to the whole.
use Rattle.std.proofs.Common.{◌≡◌, ◌&&◌, eqb}
use Rattle.audit.proofs.AuditLaws.{unused_all}
use Rattle.audit.proofs.arrays.Arrays.is_unused.Given as goal

abbrev pub invariant-loop-i : goal.invariant-loop-i
invariant-loop-i l =
    let a = l.self in
    (eqb l.seen 0 && unused_all l.i a.sizes.now a.heads.now a.tails.now) ≡ unused_all l.fn.from a.sizes.now a.heads.now a.tails.now
