-- The two walks, step by step (`WalksLaws`). Assumes nothing.
use Rattle.patrol.proofs.WalksLaws.{forward_spent, forward_ends, forward_seeks, forward_goes, backward_lost, backward_mends}
use Rattle.patrol.proofs.walks.+backward_forward.Goals as goal

pub backward-returns-in_default : goal.backward-returns-in_default
backward-returns-in_default g t c = backward_lost _ _ _ _ _ c.in_default.ensures

pub backward-returns : goal.backward-returns
backward-returns g t c = backward_mends _ _ _ _ _ c.in-Some.ensures c.handle.ensures c.forward.ensures

pub forward-returns-then-chunk-end : goal.forward-returns-then-chunk-end
forward-returns-then-chunk-end g t c = forward_ends c.loop-handled.invariant c.loop-handled-test.true c.if-chunk-end.true

pub forward-returns-then-is_broken : goal.forward-returns-then-is_broken
forward-returns-then-is_broken g t c =
    forward_seeks c.loop-handled.invariant c.loop-handled-test.true c.if-chunk-end.false
    c.word-link.ensures c.is_broken.ensures c.if-is_broken.true c.backward.ensures

pub forward-loop-handled-preserved : goal.forward-loop-handled-preserved
forward-loop-handled-preserved g t c =
    forward_goes c.loop-handled.invariant c.loop-handled-test.true c.if-chunk-end.false
    c.word-link.ensures c.is_broken.ensures c.if-is_broken.false c.handle.ensures c.handle.auto.region

pub forward-returns : goal.forward-returns
forward-returns g t c = forward_spent c.loop-handled.invariant c.loop-handled-test.false
