-- A reallocate that moves a block and joins its old chunk with nothing breaks the promise `Moves`, shown on a heap of the demonstration's setup, with merging on:
-- two blocks of 40 bytes are granted from the top, at 72 and at 112, and the first is freed. For 48 bytes the second moves to 152, and its old chunk should join the
-- free one below it. Assumes nothing.
use mathlib.Core.Path.{◌≡◌, refl, sym, ap, ◌∙◌}
use mathlib.Core.Bool.{true, false, false≢true}
use mathlib.Core.List.{[], ◌∷◌}
use native.Mathlib.Omega.{arith}
use Rattle.record.specs.declared.answers.Answer.TheVariants.{Granted}
use Rattle.rules.specs.Shape.{Entry, entry, shape}
use Rattle.rules.specs.Kinds.{used, unused, live}
use Rattle.rules.specs.Check.{passes}
use Rattle.rules.specs.Outcome.{change_of}
use Rattle.rules.specs.Statements.{Left}
use Rattle.rules.specs.Calls.{Allocate, Free, Reallocate, State}
use Rattle.rules.proofs.CasesLaws.{computes}
use Rattle.promises.specs.Ways.{ours}
use Rattle.promises.specs.Room.{HoldsBlock}
use Rattle.promises.specs.Splitting.{chain_left}
use Rattle.promises.specs.Moves.{Moves}
use Rattle.promises.specs.Wrong.{moves_unjoined}
use Rattle.promises.proofs.OrderLaws.{has, has_iff}
use Rattle.promises.proofs.WrongLaws.{heap_after, passing}

abbrev beside : State
beside = heap_after (Allocate 32 ∷ Allocate 32 ∷ Free 80 ∷ [])

abbrev grown : Left
grown = moves_unjoined (Reallocate 120 48) beside.words beside.heap

-- allocate, then free
abbrev granted : Left
granted = moves_unjoined (Allocate 48) beside.words beside.heap

abbrev freed : Left
freed = moves_unjoined (Free 120) granted.words granted.heap

abbrev old : Entry
old = entry 112 40 used

record Unjoined : Type 0 where
  passes : passes beside.words beside.heap ≡ true
  there : has old (shape beside.words beside.heap.bytes) ≡ true
  live : live beside.heap old ≡ true
  answer : grown.answer ≡ Granted (record { 0 = 160 }) (change_of 40 56)
  apart : has (entry 72 80 unused) (chain_left grown) ≡ false
  joined : has (entry 72 80 unused) (chain_left freed) ≡ true

is_unjoined : Unjoined
unfolding computes ours
is_unjoined = record { passes = refl; there = refl; live = refl; answer = refl; apart = refl; joined = refl }

-- 43
pub moves_refutes_moving_unjoined : Moves moves_unjoined → ⊥
moves_refutes_moving_unjoined promised =
    let u = is_unjoined in
    let held : HoldsBlock beside.words beside.heap 120 old =
    record { member = (has_iff old (shape beside.words beside.heap.bytes)).0 u.there; live = u.live; block = refl } in
    let one = (promised beside.words beside.heap (passing beside u.passes)).left 120 48 (record { 0 = 160 }) (change_of 40 56) old held (omega arith) u.answer in
    false≢true (sym u.apart ∙ ap (has (entry 72 80 unused)) one.chain ∙ u.joined)
