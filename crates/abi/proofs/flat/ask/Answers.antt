-- `flat::ask` tells the answer of the outcome that the call makes: the words that say the record stay. Assumes nothing.
use Rattle.std.proofs.Common.{rules, refl}
use Rattle.abi.proofs.HandedLaws.{refuses_merge_word, tells}
use Rattle.abi.proofs.flat.ask.Goals as goal

pub returns-then-state-gt1 : goal.returns-then-state-gt1
returns-then-state-gt1 g c = λ o stays makes. refuses_merge_word o c.if-state-gt1.true c.refuse_record.ensures

pub returns : goal.returns
returns g c =
    λ o stays makes. tells _ _ o c.if-state-gt1.false _ (makes _ _ _ refl (rw c.unpack-heap.ensures at c.call-reply.ensures)) (search rules) stays c.tell.ensures
