-- `Table::bin_of` divides a small size, and searches the table for any other. Assumes nothing.
use Rattle.std.proofs.Common.{refl}
use Rattle.record.proofs.HalvingLaws.{whole_table}
use Rattle.record.proofs.TableSteps.{by_division}
use Rattle.record.proofs.table.Table.bin_of.Goals as goal

pub returns-then-is_small : goal.returns-then-is_small
returns-then-is_small c =
    by_division _ c.args.self.valid _ c.if-size-lt-LEAST.false c.is_small.ensures c.if-is_small.true refl

pub upper_bin-requires : goal.upper_bin-requires
upper_bin-requires c = whole_table _ c.args.self.valid _ c.if-size-lt-LEAST.false
