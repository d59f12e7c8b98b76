-- `flat::pack` puts the record's five parts one after the other. Assumes nothing.
use Rattle.std.proofs.Common.{rules}
use Rattle.abi.proofs.FlatLaws.{packed}
use Rattle.abi.proofs.flat.pack.Goals as goal

pub returns : goal.returns
returns c =
    packed c.args.heap c.from.result _ _ _ _ _ c.from.ensures (search rules) (search rules) (search rules) c.copy.ensures c.copy-2.ensures c.copy-3.ensures
    c.copy-4.ensures c.copy-5.ensures
