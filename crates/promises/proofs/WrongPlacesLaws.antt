-- Three more wrong programs: setup ignores the merge setting, a double free is believed, free takes a chunk's place for its block's. Each breaks a promise,
-- `Fresh`, `FreedTwice` or `PlacesApart`, shown on heaps of the demonstration's setup. Assumes nothing.
use mathlib.Core.Path.{◌≡◌, refl, sym, ◌∙◌}
use mathlib.Core.Bool.{true, false, false≢true}
use mathlib.Core.List.{List, [], ◌∷◌}
use Prim.Native.Nat.{ℕ}
use native.Mathlib.Omega.{arith}
use lib.ListN.{replicate}
use Rattle.lists.specs.Lists.{any}
use Rattle.lists.proofs.ListsLaws.{number_is, for_some}
use Rattle.record.specs.Answers.{figures_of}
use Rattle.record.specs.Heap.{empty}
use Rattle.rules.specs.Shape.{shape}
use Rattle.rules.specs.Kinds.{is_at}
use Rattle.rules.specs.Check.{passes}
use Rattle.rules.specs.Calls.{Setup, Allocate, Free, State}
use Rattle.rules.proofs.CasesLaws.{computes}
use Rattle.promises.specs.Ways.{ours}
use Rattle.promises.specs.Kept.{after}
use Rattle.promises.specs.Fresh.{Fresh}
use Rattle.promises.specs.FreedTwice.{FreedTwice}
use Rattle.promises.specs.PlacesApart.{PlacesApart}
use Rattle.promises.specs.Wrong.{ignores_setting, believes_twice, takes_chunk_for_block}
use Rattle.promises.proofs.JudgedLaws.{accepts}
use Rattle.promises.proofs.WrongLaws.{heap_after, passing}

-- 30: the demonstration's setup, but that merging is asked to be off. It is on
abbrev before : State
before = record { words = replicate 64 0; heap = empty }

abbrev sizes : List ℕ
sizes = 24 ∷ 32 ∷ 40 ∷ 128 ∷ []

setup_accepted : (figures_of (ignores_setting (Setup sizes 64 false) before.words before.heap).answer).refusal ≡ 0
unfolding computes ours
setup_accepted = refl

is_on : (ignores_setting (Setup sizes 64 false) before.words before.heap).heap.merge ≡ true
unfolding computes ours
is_on = refl

pub fresh_refutes_ignoring_the_setting : Fresh ignores_setting → ⊥
fresh_refutes_ignoring_the_setting promised =
    let f = promised sizes 64 false before.words before.heap (accepts setup_accepted) in
    false≢true (sym f.merge ∙ is_on)

-- block 16 is live, and its chunk is at 8
abbrev live16 : State
live16 = heap_after (Allocate 16 ∷ [])

live_passes : passes live16.words live16.heap ≡ true
unfolding computes
live_passes = refl

-- 37: it is freed twice
first_accepted : (figures_of (believes_twice (Free 16) live16.words live16.heap).answer).refusal ≡ 0
unfolding computes ours
first_accepted = refl

abbrev freed16 : State
freed16 = after believes_twice (Free 16) live16

second_accepted : (figures_of (believes_twice (Free 16) freed16.words freed16.heap).answer).refusal ≡ 0
unfolding computes ours
second_accepted = refl

pub freed_twice_refutes_believing_twice : FreedTwice believes_twice → ⊥
freed_twice_refutes_believing_twice promised =
    let r = promised live16 (passing live16 live_passes) 16 (λ z. omega arith) (accepts first_accepted) [] tt tt in
    accepts second_accepted _ r

-- 38: 8 is freed
chunk_there : any (is_at 8) (shape live16.words live16.heap.bytes) ≡ true
unfolding computes
chunk_there = refl

chunk_accepted : (figures_of (takes_chunk_for_block (Free 8) live16.words live16.heap).answer).refusal ≡ 0
unfolding computes ours
chunk_accepted = refl

pub places_apart_refutes_a_chunk_for_a_block : PlacesApart takes_chunk_for_block → ⊥
places_apart_refutes_a_chunk_for_a_block promised =
    let (d, m, q) = (for_some (λ e. number_is e.place 8) (shape live16.words live16.heap.bytes)).0 chunk_there in
    let r = (promised live16.words live16.heap (passing live16 live_passes)).free d m (omega arith) in
    accepts chunk_accepted _ (rw q at r)
