-- Setup refuses by the rule, and accepted it leaves the rule's headers and record. Assumes nothing.
use mathlib.Core.Path.{sym}
use native.Mathlib.Omega.{arith}
use lib.Seq.{length-take-le}
use Rattle.opening.proofs.SetupMeaning.{accepted, refuses, accepts}
use Rattle.opening.proofs.setup.Goals as goal

pub returns-in-Err : goal.returns-in-Err
returns-in-Err c =
    let a = c.args in
    rw c.empty.ensures (refuses a.region.now a.table.now a.donor a.merge c.in-Err.ensures)

pub overflow_add-top : goal.overflow_add-top
overflow_add-top c = let a = accepted c.in-Ok.ensures in omega arith

pub overflow_sub-end : goal.overflow_sub-end
overflow_sub-end c = let a = accepted c.in-Ok.ensures in omega arith

pub slice_bounds-write_headers-end : goal.slice_bounds-write_headers-end
slice_bounds-write_headers-end c = let a = accepted c.in-Ok.ensures in omega arith

pub slice_bounds-write_headers-end-2 : goal.slice_bounds-write_headers-end-2
slice_bounds-write_headers-end-2 c =
    let a = accepted c.in-Ok.ensures in
    sym (length-take-le _ _ (omega arith))

pub returns : goal.returns
returns c =
    let a = c.args in
    rw (c.fresh.ensures, c.write_headers.ensures, c.first_donor-donor_chunk.ensures)
    (accepts a.region.now a.table.now a.donor a.merge (accepted c.in-Ok.ensures))
