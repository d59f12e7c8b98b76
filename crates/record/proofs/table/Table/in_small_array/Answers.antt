-- `Table::in_small_array` compares the size of the next bin, if there is one. Assumes nothing.
use Rattle.std.proofs.Common.{arith, sym, refl}
use Rattle.record.proofs.TableSteps.{last_not_small, small_by_next}
use Rattle.record.proofs.table.Table.in_small_array.Goals as goal

pub returns-then-self-bin : goal.returns-then-self-bin
returns-then-self-bin c = last_not_small _ c.args.self.valid _ (omega (arith, c.if-self-bin.true))

pub returns : goal.returns
returns c = small_by_next _ c.args.self.valid _ (omega (arith, c.if-self-bin.false)) (omega arith) (omega arith)
