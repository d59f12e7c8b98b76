-- Each of the four wrong ways of the patrol breaks a promise, shown on the smallest heap, of 10 words, and on the demonstration's.
-- Assumes nothing.
use Rattle.std.specs.Prelude.{Some, None}
use mathlib.Core.Path.{◌≡◌, refl, sym, ap, ◌∙◌}
use mathlib.Core.Bool.{true}
use mathlib.Core.List.Memᴰ
use mathlib.Core.List.{List, [], ◌∷◌}
use Prim.Native.Nat.{ℕ, ◌+◌, ◌-◌, ◌<◌}
use native.Mathlib.Omega.{arith}
use lib.ListN.{get_or, set, length-set, replicate}
use lib.Seq.{get_or-set_other}
use borrow.Author.Tests.{ltb-true}
use Rattle.record.specs.declared.answers.Answer.{Answer}
use Rattle.record.specs.declared.answers.Answer.TheVariants.{Told, Refused}
use Rattle.record.specs.declared.answers.Refusal.TheVariants.{BeyondMending}
use Rattle.record.specs.Answers.{figures_of}
use Rattle.record.specs.Heap.{empty}
use Rattle.region.specs.Words.{word, forward}
use Rattle.rules.specs.Shape.{Entry, entry}
use Rattle.rules.specs.Kinds.{live}
use Rattle.rules.specs.Check.{Passes}
use Rattle.rules.specs.Patrol.{broken}
use Rattle.rules.specs.Statements.{Left}
use Rattle.rules.specs.Calls.{Setup, Allocate, Patrol, State, run}
use Rattle.rules.specs.Cases.{opening}
use Rattle.rules.proofs.CasesLaws.{computes}
use Rattle.rules.proofs.CheckLaws.{passes_iff}
use Rattle.promises.specs.Ways.{ours}
use Rattle.promises.specs.Room.{OnChain}
use Rattle.promises.specs.Refusing.{Refusing}
use Rattle.promises.specs.Apart.{Apart}
use Rattle.promises.specs.Rounds.{chunks_in, place_of, Rounds}
use Rattle.promises.specs.FullPatrol.{FullPatrol, last_run, further_run}
use Rattle.promises.specs.Mended.{OneBroken, Mended}
use Rattle.promises.specs.Wrong.{walks_all, never_writes, writes_first, sizes_all}

-- the smallest heap: start, a top of 24 bytes, end; the patrol at the start
abbrev pub smallest : State
smallest = run (Setup (24 ∷ []) 0 true ∷ []) (record { words = replicate 10 0; heap = empty })

pub smallest_words : smallest.words ≡ 8 ∷ 1 ∷ 32 ∷ 0 ∷ 24 ∷ 0 ∷ 0 ∷ 0 ∷ 0 ∷ 9 ∷ []
unfolding computes
smallest_words = refl

pub smallest_passes : Passes smallest.words smallest.heap
unfolding computes
smallest_passes = (passes_iff smallest.words smallest.heap).0 refl

-- the patrol is at the start, its first chunk of three
at_start : smallest.heap.patrol.0 ≡ 0
unfolding computes
at_start = refl

at_first : smallest.heap.patrol.0 ≡ place_of smallest 0
unfolding computes
at_first = refl

three_chunks : 0 + 1 < chunks_in smallest
unfolding computes
three_chunks = ltb-true 1 3 refl

-- 6: the first run walks everything: a run of one chunk says that it handled the end chunk
walks_on : (walks_all (Patrol 1) smallest.words smallest.heap).answer ≡ Told (Some 1)
unfolding computes ours
walks_on = refl

pub rounds_refute_walking_all : Rounds walks_all → ⊥
rounds_refute_walking_all promised =
    let kept = (promised.each smallest smallest_passes).onward 1 0 (omega arith) at_first three_chunks in
    let value : Answer → ℕ = λ a. (figures_of a).value in
    let same = ap value (sym walks_on ∙ ap (λ (x : Left). x.answer) kept) in
    omega arith

-- 7: nothing is written. The forward link of the top, at 8, is broken
abbrev top : Entry
top = entry 8 24 0

abbrev broken_link : List ℕ
broken_link = set smallest.words 2 0

top_there : OnChain smallest.words smallest.heap top
unfolding computes
top_there = Memᴰ.tail (Memᴰ.head refl)

link_broken : broken broken_link (smallest.heap.bytes - 8) 8 (word broken_link 8 forward) ≡ true
unfolding computes
link_broken = refl

bytes_are : smallest.heap.bytes ≡ 40
unfolding computes
bytes_are = refl

one_broken : OneBroken smallest.words smallest.heap broken_link top
one_broken =
    record {
      chunk = (top_there, let b = bytes_are in omega arith);
      long = length-set smallest.words 2 0;
      elsewhere = λ i n. get_or-set_other smallest.words 2 i 0 0 n;
      broken = link_broken;
    }

-- a patrol that writes nothing leaves the words as they were
never_written : {f : ℕ} {s t : State} → FullPatrol never_writes f s t → t.words ≡ s.words
never_written (last_run q) = refl
never_written (further_run q rest) = never_written rest

differs : (get_or broken_link 2 0 ≡ 0) × (get_or smallest.words 2 0 ≡ 32)
unfolding computes
differs = (refl, refl)

pub mended_refutes_never_writing : Mended never_writes → ⊥
mended_refutes_never_writing promised =
    let full = promised.one_link smallest.words smallest.heap broken_link top smallest_passes at_start one_broken 1 (omega arith) in
    let same : smallest.words ≡ broken_link = never_written full in
    let (zero, whole) = differs in
    let third = ap (λ (ws : List ℕ). get_or ws 2 0) same in
    omega arith

-- 8: the backward link at 8 can be mended, the forward link of 8 is beyond mending, and a run of two chunks is refused
abbrev beyond : List ℕ
beyond = 8 ∷ 1 ∷ 0 ∷ 16 ∷ 24 ∷ 0 ∷ 0 ∷ 0 ∷ 0 ∷ 1 ∷ []

run_refused : (writes_first (Patrol 2) beyond smallest.heap).answer ≡ Refused BeyondMending
unfolding computes ours
run_refused = refl

run_wrote : get_or (writes_first (Patrol 2) beyond smallest.heap).words 3 0 ≡ 0
unfolding computes ours
run_wrote = refl

pub refusing_refutes_writing_first : Refusing writes_first → ⊥
refusing_refutes_writing_first promised =
    let kept = promised.words (Patrol 2) beyond smallest.heap BeyondMending run_refused in
    let fourth = ap (λ (ws : List ℕ). get_or ws 3 0) kept in
    omega (arith, run_wrote)

-- 9: the size word of a chunk in use is written: in the demonstration's heap after call 1, with the patrol at chunk 8, that word is the
-- first of the live block 16
abbrev at_block : State
at_block = run (opening ∷ Allocate 16 ∷ Patrol 1 ∷ []) (record { words = replicate 64 0; heap = empty })

block_passes : Passes at_block.words at_block.heap
unfolding computes
block_passes = (passes_iff at_block.words at_block.heap).0 refl

abbrev taken : Entry
taken = entry 8 24 1

block_live : OnChain at_block.words at_block.heap taken × (live at_block.heap taken ≡ true)
unfolding computes
block_live = (Memᴰ.tail (Memᴰ.head refl), refl)

block_words_lem : (word at_block.words 16 0 ≡ 64) × (word (sizes_all (Patrol 1) at_block.words at_block.heap).words 16 0 ≡ 24)
unfolding computes ours
block_words_lem = (refl, refl)

pub apart_refutes_sizing_all : Apart sizes_all → ⊥
apart_refutes_sizing_all promised =
    let (keeps, _) = (promised at_block.words at_block.heap block_passes).looks (Patrol 1) refl in
    let (there, lives) = block_live in
    let same = (keeps taken there lives).same 0 (omega arith) in
    omega (arith, block_words_lem)
