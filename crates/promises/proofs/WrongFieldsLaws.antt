-- Each of the two wrong ways of changing a field of the record that the call should leave breaks the promise `Fields`, shown on heaps of the demonstration's
-- setup. Assumes nothing.
use mathlib.Core.Path.{◌≡◌, refl, ◌∙◌}
use mathlib.Core.Bool.{false≢true}
use mathlib.Core.List.Memᴰ
use mathlib.Core.List.{[], ◌∷◌}
use native.Mathlib.Omega.{arith}
use Rattle.rules.specs.Shape.{Entry, entry}
use Rattle.rules.specs.Kinds.{unused}
use Rattle.rules.specs.Check.{Passes}
use Rattle.rules.specs.Statements.{Left}
use Rattle.rules.specs.Calls.{Allocate, Free, Patrol, State}
use Rattle.rules.proofs.CasesLaws.{computes}
use Rattle.promises.specs.Ways.{ours}
use Rattle.promises.specs.Room.{OnChain}
use Rattle.promises.specs.Fields.{Fields}
use Rattle.promises.specs.Wrong.{turns_merging_off, forgets_the_place}
use Rattle.promises.proofs.WrongLaws.{heap_after, passing}
use Rattle.promises.proofs.WrongAnswersLaws.{opened, is_on}

-- 41: merging is on in the fresh heap, and off once a block is allocated
pub fields_refute_turning_merging_off : Fields turns_merging_off → ⊥
fields_refute_turning_merging_off promised = false≢true (promised.merge (Allocate 16) refl opened.words opened.heap ∙ is_on)

-- 42: a run of two chunks, the start and that of block 16, has brought the patrol to the donor, at 32. Freed is block 80, above the donor, whose chunk joins
-- the top
abbrev patrolled : State
patrolled = heap_after (Allocate 16 ∷ Allocate 16 ∷ Patrol 2 ∷ [])

patrolled_passes : Passes patrolled.words patrolled.heap
unfolding computes
patrolled_passes = passing patrolled refl

came_to : patrolled.heap.patrol.0 ≡ 32
unfolding computes
came_to = refl

abbrev freed : Left
freed = forgets_the_place (Free 80) patrolled.words patrolled.heap

-- the donor is where it was, and the patrol at the start
abbrev donor : Entry
donor = entry 32 40 unused

donor_stays : OnChain freed.words freed.heap donor
unfolding computes ours
donor_stays = Memᴰ.tail (Memᴰ.tail (Memᴰ.head refl))

pub fields_refute_forgetting_the_place : Fields forgets_the_place → ⊥
fields_refute_forgetting_the_place promised =
    let c = came_to in
    let place = promised.patrol (Free 80) refl patrolled.words patrolled.heap patrolled_passes donor donor_stays (omega arith) (omega arith) in
    omega arith
