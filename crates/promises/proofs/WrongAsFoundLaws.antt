-- A plain allocate that clears the block breaks the promise `AsFound`, shown on the demonstration's heap: the block at 16 is granted from the fresh donor,
-- whose size, 64, is in the block's first word. Assumes nothing.
use mathlib.Core.Path.{◌≡◌, refl, sym, ◌∙◌}
use mathlib.Core.Bool.{true}
use mathlib.Core.List.{[]}
use native.Mathlib.Omega.{arith}
use Rattle.record.specs.declared.answers.Answer.TheVariants.{Granted}
use Rattle.region.specs.Words.{word}
use Rattle.rules.specs.Shape.{Entry, entry, shape}
use Rattle.rules.specs.Kinds.{used, live, block_of}
use Rattle.rules.specs.Check.{passes}
use Rattle.rules.specs.Outcome.{change_of}
use Rattle.rules.specs.Statements.{Left}
use Rattle.rules.specs.Calls.{Allocate, State}
use Rattle.rules.proofs.CasesLaws.{computes}
use Rattle.promises.specs.AsFound.{AsFound}
use Rattle.promises.specs.Wrong.{clears_unasked}
use Rattle.promises.proofs.OrderLaws.{has, has_iff}
use Rattle.promises.proofs.WrongLaws.{heap_after, passing}

abbrev fresh : State
fresh = heap_after []

abbrev granted : Entry
granted = entry 8 24 used

abbrev left : Left
left = clears_unasked (Allocate 16) fresh.words fresh.heap

record Cleared : Type 0 where
  passes : passes fresh.words fresh.heap ≡ true
  answer : left.answer ≡ Granted (record { 0 = block_of granted }) (change_of 0 granted.size)
  there : has granted (shape left.words left.heap.bytes) ≡ true
  live : live left.heap granted ≡ true
  found : word fresh.words 16 0 ≡ 64
  lost : word left.words 16 0 ≡ 0

is_cleared : Cleared
unfolding computes
is_cleared = record { passes = refl; answer = refl; there = refl; live = refl; found = refl; lost = refl }

-- 33
pub as_found_refutes_clearing : AsFound clears_unasked → ⊥
as_found_refutes_clearing promised =
    let c = is_cleared in
    let same =
    (promised fresh.words fresh.heap (passing fresh c.passes)).allocate 16 (record { 0 = block_of granted }) (change_of 0 granted.size) c.answer granted
    (record { member = (has_iff granted (shape left.words left.heap.bytes)).0 c.there; live = c.live; block = refl }) 0 (omega arith) (omega arith) in
    omega (arith, sym c.lost ∙ same ∙ c.found)
