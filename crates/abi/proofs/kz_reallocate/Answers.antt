-- `abi::kz_reallocate` gives a block another size by its rule, on the record that the words say. Assumes nothing.
use Rattle.abi.proofs.HandedLaws.{refuses_merge_word, answers}
use Rattle.abi.proofs.kz_reallocate.Goals as goal

pub returns-then-state-gt1 : goal.returns-then-state-gt1
returns-then-state-gt1 c = refuses_merge_word _ c.if-state-gt1.true c.refuse_record.ensures

pub returns : goal.returns
returns c =
    let h = c.hand_back.ensures in
    answers _ _ _ c.if-state-gt1.false _ (rw c.unpack-heap.ensures at c.reallocate-reply.ensures) h.value h.answer_after h.state_after
