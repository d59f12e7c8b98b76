-- `abi::kz_setup` opens a heap by its rule, and leaves its record in words. Assumes nothing.
use Rattle.abi.proofs.HandedLaws.{opens}
use Rattle.abi.proofs.kz_setup.Goals as goal

pub returns : goal.returns
returns c = opens _ _ _ c.setup-reply.ensures c.tell.ensures c.pack.ensures
