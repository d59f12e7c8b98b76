-- `abi::kz_ask_bin` answers a question about a bin, and leaves the record as it is. Assumes nothing.
use Rattle.std.proofs.Common.{rules}
use Rattle.abi.proofs.HandedLaws.{bin_stays}
use Rattle.abi.proofs.kz_ask_bin.Goals as goal

pub returns : goal.returns
returns c = c.ask.ensures _ (bin_stays _ _ _ _) (λ p q r e met. search rules)
