-- Each of three ways of granting too much, and one that gives up the donor, breaks the promise `Splitting`, shown on heaps of the demonstration's setup: bins of
-- 24, 32, 40 and 128, a donor of 64 bytes at 8 and a top of 176 bytes at 72. Assumes nothing.
use mathlib.Core.Path.{◌≡◌, refl}
use mathlib.Core.Bool.{true}
use mathlib.Core.List.{[], ◌∷◌}
use Prim.Native.Nat.{ℕ, ◌+◌}
use native.Mathlib.Omega.{arith}
use lib.Dec.{leb}
use Rattle.lists.proofs.ListsLaws.{at_most}
use Rattle.record.specs.declared.answers.Answer.TheVariants.{Granted}
use Rattle.record.specs.declared.kinds.Kind.TheVariants.{Donor}
use Rattle.record.specs.Table.{least}
use Rattle.rules.specs.Shape.{Entry, entry, shape}
use Rattle.rules.specs.Kinds.{kind_of, overhead, used, unused, live, block_of}
use Rattle.rules.specs.Check.{passes}
use Rattle.rules.specs.Serve.{need}
use Rattle.rules.specs.Outcome.{change_of}
use Rattle.rules.specs.Calls.{Call, Allocate, Free, Reallocate, State}
use Rattle.rules.proofs.CasesLaws.{computes}
use Rattle.promises.specs.Ways.{Way}
use Rattle.promises.specs.Splitting.{AsksFor, allocates, reallocates, allocated, Splitting}
use Rattle.promises.specs.Wrong.{takes_the_top, never_splits, keeps_the_tail, gives_up_the_donor}
use Rattle.promises.proofs.OrderLaws.{has, has_iff}
use Rattle.promises.proofs.WrongLaws.{heap_after, passing}

-- A call that asks for z bytes grants the block of the chunk e, which has 24 bytes or more beyond the need. Shown by tests
record TooMuch (way : Way) (s : State) (call : Call) (z before : ℕ) (e : Entry) : Type 0 where
  passes : passes s.words s.heap ≡ true
  answer : (way call s.words s.heap).answer ≡ Granted (record { 0 = block_of e }) (change_of before e.size)
  there : has e (shape (way call s.words s.heap).words (way call s.words s.heap).heap.bytes) ≡ true
  live : live (way call s.words s.heap).heap e ≡ true
  much : leb (need overhead z + least) e.size ≡ true

-- no way that keeps `Splitting` does that
kept_few : (way : Way) → Splitting way → (s : State) {call : Call} {z : ℕ} → AsksFor call z → (before : ℕ) (e : Entry) → TooMuch way s call z before e → ⊥
kept_few way promised s {call} {z} asks before e t =
    let left = way call s.words s.heap in
    let few =
    (promised s.words s.heap (passing s t.passes)).few call z asks (record { 0 = block_of e }) (change_of before e.size) t.answer e
    (record { member = (has_iff e (shape left.words left.heap.bytes)).0 t.there; live = t.live; block = refl }) in
    let much = (at_most (need overhead z + least) e.size).0 t.much in
    omega arith

-- 24: for 40 bytes of the fresh heap's top 152 are granted
all_of_top_lem : TooMuch takes_the_top (heap_after []) (Allocate 32) 32 0 (entry 72 152 used)
unfolding computes
all_of_top_lem = record { passes = refl; answer = refl; there = refl; live = refl; much = refl }

pub splitting_refutes_taking_the_top : Splitting takes_the_top → ⊥
splitting_refutes_taking_the_top promised = kept_few takes_the_top promised (heap_after []) allocates 0 (entry 72 152 used) all_of_top_lem

-- 25: blocks of 88 and 40 bytes are granted, at 72 and at 160, and the first is freed; for 40 bytes its chunk is granted whole
abbrev freed : State
freed = heap_after (Allocate 80 ∷ Allocate 32 ∷ Free 80 ∷ [])

all_of_chunk : TooMuch never_splits freed (Allocate 32) 32 0 (entry 72 88 used)
unfolding computes
all_of_chunk = record { passes = refl; answer = refl; there = refl; live = refl; much = refl }

pub splitting_refutes_never_splitting : Splitting never_splits → ⊥
splitting_refutes_never_splitting promised = kept_few never_splits promised freed allocates 0 (entry 72 88 used) all_of_chunk

-- 26: the block of 88 bytes is to have 40, and its chunk stays as it is
abbrev one : State
one = heap_after (Allocate 80 ∷ [])

all_of_block : TooMuch keeps_the_tail one (Reallocate 80 32) 32 88 (entry 72 88 used)
unfolding computes
all_of_block = record { passes = refl; answer = refl; there = refl; live = refl; much = refl }

pub splitting_refutes_keeping_the_tail : Splitting keeps_the_tail → ⊥
splitting_refutes_keeping_the_tail promised = kept_few keeps_the_tail promised one reallocates 88 (entry 72 88 used) all_of_block

-- 40: from the fresh heap's donor 24 bytes are granted; the 40 that remain, at 32, are in a bin, and the record's donor is 0
gives_up : let left = gives_up_the_donor (Allocate 16) (heap_after []).words (heap_after []).heap in
    (left.answer ≡ Granted (record { 0 = 16 }) (change_of 0 24)) × (left.heap.donor.0 ≡ 0)
unfolding computes
gives_up = (refl, refl)

was_donor : let h = (heap_after []).heap in
    (passes (heap_after []).words h ≡ true) × (has (entry 8 64 unused) (shape (heap_after []).words h.bytes) ≡ true) × (kind_of h (entry 8 64 unused) ≡ Donor)
unfolding computes
was_donor = (refl, refl, refl)

pub splitting_refutes_giving_up_the_donor : Splitting gives_up_the_donor → ⊥
splitting_refutes_giving_up_the_donor promised =
    let s = heap_after [] in
    let (well, there, kind) = was_donor in
    let posts =
    (promised s.words s.heap (passing s well)).posts (Allocate 16) 16 allocated (record { 0 = 16 }) (change_of 0 24) gives_up.0 (entry 8 64 unused)
    ((has_iff (entry 8 64 unused) (shape s.words s.heap.bytes)).0 there) (omega arith) in
    omega (arith, posts.new_donor kind, gives_up.1)
