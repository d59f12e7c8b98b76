-- `abi::kz_ask_chunk` answers a question about a chunk, and leaves the record as it is. Assumes nothing.
use Rattle.std.proofs.Common.{rules}
use Rattle.abi.proofs.HandedLaws.{chunk_stays}
use Rattle.abi.proofs.kz_ask_chunk.Goals as goal

pub returns : goal.returns
returns c = c.ask.ensures _ (chunk_stays _ _ _ _) (λ p q r e met. search rules)
