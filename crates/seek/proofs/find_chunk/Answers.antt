-- `seek::find_chunk` finds the chunk on the chain, or goes on above it. Assumes nothing.
use Rattle.std.proofs.Common.{arith, refl}
use Rattle.seek.proofs.SeekLaws.{seeking_found, seeking_ends, seeking_goes}
use Rattle.seek.proofs.find_chunk.Goals as goal

pub returns-then-at-place : goal.returns-then-at-place
returns-then-at-place c =
    seeking_found c.loop-at.invariant c.word-next.ensures c.end_of-end.ensures c.if-at-place.true c.word-flags.ensures refl

pub returns-then-end-bytes : goal.returns-then-end-bytes
returns-then-end-bytes c =
    seeking_ends c.loop-at.invariant c.word-next.ensures c.end_of-end.ensures c.if-at-place.false c.if-end-bytes.true

pub loop-at-smaller : goal.loop-at-smaller
loop-at-smaller c =
    let g = seeking_goes c.loop-at.invariant c.word-next.ensures c.end_of-end.ensures c.if-at-place.false c.if-end-bytes.false in
    omega (arith, g.0, g.1)

pub loop-at-preserved : goal.loop-at-preserved
loop-at-preserved c =
    (seeking_goes c.loop-at.invariant c.word-next.ensures c.end_of-end.ensures c.if-at-place.false c.if-end-bytes.false).2
