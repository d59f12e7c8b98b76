-- `flat::copy` takes over word after word. Assumes nothing.
use Rattle.std.proofs.Common.{arith}
use Rattle.abi.proofs.FlatLaws.{puts_one}
use Rattle.abi.proofs.flat.copy.Goals as goal

pub loop-i-preserved : goal.loop-i-preserved
loop-i-preserved c =
    let l = c.loop-i in
    puts_one c.args.to.now c.args.from.now l.to c.args.at l.i (omega arith) l.invariant (omega arith)
