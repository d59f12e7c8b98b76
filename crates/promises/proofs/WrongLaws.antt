-- Each of the first five wrong programs breaks a promise, shown on the demonstration's heap. Each other one is refuted in the file of the promise that it
-- breaks, `Wrong..Laws`; docs/PROMISES.md, "Wrong ways", has them all. Assumes nothing.
use mathlib.Core.Path.{◌≡◌, refl, sym, ap, ◌∙◌}
use mathlib.Core.Logic.{◌⊎◌, inl, inr}
use mathlib.Core.Bool.{true, not, ◌||◌, false≢true}
use mathlib.Core.List.{List, ◌∷◌}
use Prim.Native.Nat.{ℕ, ◌≤◌, ◌<◌}
use native.Mathlib.Omega.{arith}
use lib.Dec.{eqb}
use lib.IntN.{ℤ, pos}
use lib.ListN.{length, replicate, take}
use borrow.Author.Tests.{ltb-true}
use Rattle.drafts.proofs.NeedLaws.{need_large}
use Rattle.lists.specs.Lists.{every, any}
use Rattle.lists.proofs.ListsLaws.{number_is, itself, if_then, for_each, for_some}
use Rattle.record.specs.declared.answers.Answer.{Answer}
use Rattle.record.specs.declared.answers.Answer.TheVariants.{Granted, Refused}
use Rattle.record.specs.declared.answers.Refusal.TheVariants.{NoRoom}
use Rattle.record.specs.declared.heap.Heap.{Heap}
use Rattle.record.specs.Answers.{figures_of}
use Rattle.record.specs.Heap.{empty, table_of}
use Rattle.region.specs.declared.Block.{Block}
use Rattle.rules.specs.Shape.{Entry, shape, bin_list, chunk_end}
use Rattle.rules.specs.Kinds.{live, overhead, block_of}
use Rattle.rules.specs.Check.{Passes, passes}
use Rattle.rules.specs.Draft.{as_read}
use Rattle.rules.specs.Serve.{need, permitted, serves}
use Rattle.rules.specs.Free.{is_live}
use Rattle.rules.specs.Calls.{Call, Allocate, State, run}
use Rattle.rules.specs.Cases.{opening, turns}
use Rattle.rules.proofs.CasesLaws.{computes}
use Rattle.rules.proofs.CheckLaws.{passes_iff}
use Rattle.rules.proofs.NamedLaws.{live_between}
use Rattle.promises.specs.Ways.{Way, ours}
use Rattle.promises.specs.Room.{HoldsBlock, Room}
use Rattle.promises.specs.Counting.{Counting}
use Rattle.promises.specs.Telling.{Telling}
use Rattle.promises.specs.Apart.{Apart}
use Rattle.promises.specs.Wrong.{refuses_always, same_block, idle_free, invented_count, invented_used}
use Rattle.promises.proofs.ReasonLaws.{live_iff}

-- the demonstration's heap after any calls, in a region of zeros; after so many of its own
abbrev pub heap_after : List Call → State
heap_after calls = run (opening ∷ calls) (record { words = replicate 64 0; heap = empty })

abbrev after_calls : ℕ → State
after_calls k = heap_after (take k turns)

-- it passes when fresh, after call 1 and after call 7
pub passing : (s : State) → passes s.words s.heap ≡ true → Passes s.words s.heap
passing s = (passes_iff s.words s.heap).0

fresh_passes : Passes (after_calls 0).words (after_calls 0).heap
unfolding computes
fresh_passes = passing (after_calls 0) refl

first_passes : Passes (after_calls 1).words (after_calls 1).heap
unfolding computes
first_passes = passing (after_calls 1) refl

seventh_passes : Passes (after_calls 7).words (after_calls 7).heap
unfolding computes
seventh_passes = passing (after_calls 7) refl

-- some chunk of the fresh heap can serve 16 bytes
fresh_serves : any (serves (table_of (after_calls 0).heap) (after_calls 0).heap.donor.0 (after_calls 0).heap.top.0 (need overhead 16)) (shape (after_calls 0).words (after_calls 0).heap.bytes) ≡ true
unfolding computes serves
fresh_serves = refl

-- no way that keeps `Room` refuses a permitted size for lack of room where some chunk can serve
pub not_refused : (way : Way) → Room way → (s : State) → Passes s.words s.heap → (z : ℕ) → permitted z ≡ true
    → any (serves (table_of s.heap) s.heap.donor.0 s.heap.top.0 (need overhead z)) (shape s.words s.heap.bytes) ≡ true
    → (way (Allocate z) s.words s.heap).answer ≡ Refused NoRoom → ⊥
not_refused way promised s p z q some refused =
    let none = ((promised s.words s.heap p).allocate z q).0 refused in
    let (e, m, t) = (for_some (λ x. itself (serves (table_of s.heap) s.heap.donor.0 s.heap.top.0 (need overhead z) x)) (shape s.words s.heap.bytes)).0 some in
    false≢true (sym (none e m) ∙ t)

-- an allocator that refuses always
pub room_refutes_refusing : Room refuses_always → ⊥
room_refutes_refusing promised = not_refused refuses_always promised (after_calls 0) fresh_passes 16 refl fresh_serves refl

-- no way that keeps blocks apart grants a block that is live
granted_once_lem : (way : Way) → Apart way → (ws : List ℕ) (h : Heap) → Passes ws h → (z : ℕ) (block : Block) (change : ℤ) (d : Entry)
    → HoldsBlock ws h block.0 d → (way (Allocate z) ws h).answer ≡ Granted block change → ⊥
granted_once_lem way promised ws h p z block change d k q =
    let (e, from, (held, cut)) = ((promised ws h p).allocate z block change q).0 in
    go e held.block cut.enough (cut.apart d k.member k.live)
  where
    go : (e : Entry) → block_of e ≡ block.0 → need overhead z ≤ e.size → (chunk_end d ≤ e.place) ⊎ (chunk_end e ≤ d.place) → ⊥
    go e b n (inl l) = let t = (live_between ws h p d k.member k.live).1 in omega arith
    go e b n (inr l) = let t = need_large z in omega arith

-- from the fresh heap the rules grant block 16, which is then the only live block
abbrev granted_once : State
granted_once = record { words = (ours (Allocate 16) (after_calls 0).words (after_calls 0).heap).words; heap = (ours (Allocate 16) (after_calls 0).words (after_calls 0).heap).heap }

granted_once_live : every (λ e. not (live granted_once.heap e) || eqb (block_of e) 16) (shape granted_once.words granted_once.heap.bytes) ≡ true
unfolding computes ours
granted_once_live = refl

first_live : is_live (as_read (after_calls 1).words (after_calls 1).heap) 16 ≡ true
unfolding computes
first_live = refl

first_held : (d : Entry) × HoldsBlock (after_calls 1).words (after_calls 1).heap 16 d
first_held = (live_iff (after_calls 1).words (after_calls 1).heap 16).0 first_live

-- an allocator that grants the same block each time, whichever block: calls 1 and 2 of the demonstration
pub apart_refutes_same_block : (block : Block) → Apart (same_block block) → ⊥
apart_refutes_same_block block promised =
    let (e, from, (held, cut)) = ((promised (after_calls 0).words (after_calls 0).heap fresh_passes).allocate 16 block (pos (need overhead 16)) refl).0 in
    let is16 : block_of e ≡ 16 = (for_each (λ x. if_then (itself (live granted_once.heap x)) (number_is (block_of x) 16)) (shape granted_once.words granted_once.heap.bytes)).0
    granted_once_live e held.member held.live in
    let (d, k) = first_held in
    granted_once_lem (same_block block) promised (after_calls 1).words (after_calls 1).heap first_passes 17 block (pos (need overhead 17)) d
    (rw (sym held.block ∙ is16) k) refl

-- a free that does nothing: block 16 is still live
pub apart_refutes_idle_free : Apart idle_free → ⊥
apart_refutes_idle_free promised =
    let (d, k) = first_held in
    (((promised (after_calls 1).words (after_calls 1).heap first_passes).free 16 d k).1 d k.member k.live).2 k.block

-- a count of chunks in a bin that is the same each time: bin 2 is empty in the fresh heap and has a chunk after call 7
fresh_count : (2 < (after_calls 0).heap.bins) × (length (bin_list (after_calls 0).words (after_calls 0).heap 2) ≡ 0)
unfolding computes
fresh_count = (ltb-true 2 4 refl, refl)

seventh_count : (2 < (after_calls 7).heap.bins) × (length (bin_list (after_calls 7).words (after_calls 7).heap 2) ≡ 1)
unfolding computes
seventh_count = (ltb-true 2 4 refl, refl)

pub telling_refutes_invented_count : (n : ℕ) → Telling (invented_count n) → ⊥
telling_refutes_invented_count n promised =
    let value : Answer → ℕ = λ a. (figures_of a).value in
    let none = ap value ((promised (after_calls 0).words (after_calls 0).heap fresh_passes).count 2 fresh_count.0) in
    let one = ap value ((promised (after_calls 7).words (after_calls 7).heap seventh_passes).count 2 seventh_count.0) in
    omega (arith, none ∙ fresh_count.1, one ∙ seventh_count.1)

-- used bytes that are the same each time: none in the fresh heap, 24 after call 1
fresh_used : (after_calls 0).heap.used ≡ 0
unfolding computes
fresh_used = refl

first_used : (after_calls 1).heap.used ≡ 24
unfolding computes
first_used = refl

invented_used_lem : (n : ℕ) → Counting (invented_used n) → (ws : List ℕ) (h : Heap) → Passes ws h → n ≡ h.used
invented_used_lem n promised ws h p =
    let (c, q, right) = promised ws h p in
    ap (λ (a : Answer). (figures_of a).counts.used) q ∙ right.recorded

pub counts_refute_invented_used : (n : ℕ) → Counting (invented_used n) → ⊥
counts_refute_invented_used n promised =
    let none = invented_used_lem n promised (after_calls 0).words (after_calls 0).heap fresh_passes ∙ fresh_used in
    let some = invented_used_lem n promised (after_calls 1).words (after_calls 1).heap first_passes ∙ first_used in
    omega arith
