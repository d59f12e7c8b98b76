-- `audit::walk_all` makes the two walks and compares what they count. Assumes nothing.
use Rattle.audit.proofs.AuditLaws.{WalkedChain, walk_broken, not_settled, other_used, lists_dirty, other_count, all_well}
use Rattle.audit.proofs.walk_all.Goals as goal
use Rattle.audit.proofs.walk_all.Goals.{Else-not-is_shared}

pub returns-in_err-tally : goal.returns-in_err-tally
returns-in_err-tally c = rw c.from_residual.ensures (walk_broken _ _ _ _ _ c.in_err-tally.ensures)

pub returns-then-not-is_settled : goal.returns-then-not-is_settled
returns-then-not-is_settled c =
    not_settled _ _ _ _ _ (rw c.clear-marks.ensures at c.in_ok-tally.ensures) c.if-not-is_settled.ensures

pub returns-then-not-is_shared : goal.returns-then-not-is_shared
returns-then-not-is_shared c =
    other_used _ _ _ _ _ (rw c.clear-marks.ensures at c.in_ok-tally.ensures) c.if-not-is_settled.ensures c.if-not-is_shared.ensures

chain : (c : Else-not-is_shared) → WalkedChain c.args.region.now c.args.summary c.in_ok-tally.tally c.walk.new.marks.words
chain c =
    record {
      survey = rw c.clear-marks.ensures at c.in_ok-tally.ensures;
      settled = c.if-not-is_settled.ensures;
      used = c.if-not-is_shared.ensures;
    }

pub returns-in_err-met : goal.returns-in_err-met
returns-in_err-met c =
    rw c.from_residual-in_err-met.ensures
    (lists_dirty _ _ _ _ _ (chain (goal.at.returns-in_err-met c).Else-not-is_shared) c.in_err-met.ensures)

pub returns-then-met-tally : goal.returns-then-met-tally
returns-then-met-tally c =
    other_count _ _ _ _ _ (chain (goal.at.returns-then-met-tally c).Else-not-is_shared) c.in_ok-met.ensures c.if-met-tally.true

pub returns : goal.returns
returns c = all_well _ _ _ _ _ (chain (goal.at.returns c).Else-not-is_shared) c.in_ok-met.ensures c.if-met-tally.false
