-- `flat::make` hands back the outcome that the call makes. Assumes nothing.
use Rattle.std.proofs.Common.{refl}
use Rattle.abi.proofs.HandedLaws.{refuses_merge_word, answers}
use Rattle.abi.proofs.flat.make.Goals as goal

pub returns-then-state-gt1 : goal.returns-then-state-gt1
returns-then-state-gt1 g c = λ o makes. refuses_merge_word o c.if-state-gt1.true c.refuse_record.ensures

pub returns : goal.returns
returns g c =
    let h = c.hand_back.ensures in
    λ o makes. answers _ _ o c.if-state-gt1.false _ (makes _ _ _ refl (rw c.unpack-heap.ensures at c.call-reply.ensures)) h.value h.answer_after h.state_after
