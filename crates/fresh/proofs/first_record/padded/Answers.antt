-- A size more is copied, until the table or the places are used up. Assumes nothing.
use Rattle.std.proofs.Common.{◌≡◌, ◌+◌, length, min, arith}
use Rattle.std.proofs.Math.Nat.{zero-add}
use Rattle.std.proofs.lemmas.List.Edits.{paste_more}
use Rattle.record.specs.Heap.{zeros}
use Rattle.fresh.specs.FirstHeaders.{padded_m}
use Rattle.fresh.proofs.FirstRecordMeaning.{kept_is}
use Rattle.fresh.proofs.first_record.padded.Goals as goal

pub loop-i-preserved : goal.loop-i-preserved
loop-i-preserved c =
    let l = c.loop-i in
    let t = c.args.table.now in (
      omega arith,
      rw l.invariant.1 (rw (zero-add l.i, zero-add (l.i + 1)) at (paste_more zeros 0 t l.i 0 (omega arith) (omega arith))),
    )

pub returns-then-i-ge-PLACES : goal.returns-then-i-ge-PLACES
unfolding padded_m
returns-then-i-ge-PLACES c =
    let l = c.loop-i in
    let t = c.args.table.now in
    let e : l.i ≡ min (length t) 32 = omega arith in
    rw (l.invariant.1, e) (kept_is t)

pub returns : goal.returns
unfolding padded_m
returns c =
    let l = c.loop-i in
    let t = c.args.table.now in
    let e : l.i ≡ min (length t) 32 = omega arith in
    rw (l.invariant.1, e) (kept_is t)
