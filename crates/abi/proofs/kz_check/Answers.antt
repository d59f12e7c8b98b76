-- `abi::kz_check` gives the check's figures, on the record that the words say. Assumes nothing.
use Rattle.std.proofs.Common.{rules}
use Rattle.abi.proofs.HandedLaws.{refuses_merge_word, tells_check}
use Rattle.abi.proofs.kz_check.Goals as goal

pub returns-then-state-gt1 : goal.returns-then-state-gt1
returns-then-state-gt1 c = refuses_merge_word _ c.if-state-gt1.true c.refuse_record.ensures

pub returns : goal.returns
returns c =
    let a = c.args in
    tells_check a.region.now a.state.now (search rules) c.look-found.result c.unpack_summary-summary.ensures c.look-found.ensures
    c.if-state-gt1.false c.answer_of.ensures c.tell.ensures
