-- Each of the four wrong ways of putting a chunk into its bin, and one that turns a bin's list, breaks the promise `Order`, shown on heaps of the
-- demonstration's setup with merging off: bins of 24, 32, 40 and 128, so that bins 0 and 1 are the small array. Assumes nothing.
use mathlib.Core.Path.{◌≡◌, refl, sym, ◌∙◌}
use mathlib.Core.Bool.{true, false, ◌&&◌, false≢true}
use mathlib.Core.List.{[], ◌∷◌}
use Prim.Native.Nat.{ℕ, suc}
use lib.Dec.{eqb, leb, ltb}
use Rattle.lists.specs.Lists.{Mem, any, ascending}
use Rattle.lists.proofs.AscendingLaws.{ascending_iff, before, before_iff}
use Rattle.lists.proofs.ListsLaws.{at_most, less, both, is_member}
use Rattle.record.specs.Heap.{table_of}
use Rattle.record.specs.Table.{small_bins}
use Rattle.rules.specs.Shape.{Entry, entry, shape}
use Rattle.rules.specs.Kinds.{unused, size_on}
use Rattle.rules.specs.Check.{passes}
use Rattle.rules.specs.Calls.{Call, Allocate, Free, SetMerge, State}
use Rattle.rules.proofs.CasesLaws.{computes}
use Rattle.promises.specs.Ways.{Way}
use Rattle.promises.specs.Kept.{after}
use Rattle.promises.specs.Order.{list_of, On, InBin, Order}
use Rattle.promises.specs.Wrong.{before_equals, at_the_tail, small_at_the_tail, large_at_the_head, turns_abin}
use Rattle.promises.proofs.OrderLaws.{has, has_iff}
use Rattle.promises.proofs.WrongLaws.{heap_after, passing}

-- the chunks x and y are in bin i of the state t. Shown by tests
record Together (t : State) (i : ℕ) (x y : Entry) : Type 0 where
  first : has x (shape t.words t.heap.bytes) ≡ true
  second : has y (shape t.words t.heap.bytes) ≡ true
  bin : leb (suc i) t.heap.bins ≡ true
  list : (any (eqb x.place) (list_of t i) && any (eqb y.place) (list_of t i)) ≡ true

module _ {t : State} {i : ℕ} {x y : Entry} (c : Together t i x y) where
  both_members : Mem x.place (list_of t i) × Mem y.place (list_of t i)
  both_members = (both (is_member x.place (list_of t i)) (is_member y.place (list_of t i))).0 c.list

  first_in_lem : InBin t i x
  first_in_lem = ((has_iff x (shape t.words t.heap.bytes)).0 c.first, both_members.0)

  second_in : InBin t i y
  second_in = ((has_iff y (shape t.words t.heap.bytes)).0 c.second, both_members.1)

-- A call leads from the state s to the state t: the chunk y comes into bin i, where the chunk x was. Shown by tests
record Comes (s t : State) (i : ℕ) (x y : Entry) : Type 0 where
  passes : passes s.words s.heap ≡ true
  there : has x (shape s.words s.heap.bytes) ≡ true
  not_there : has y (shape s.words s.heap.bytes) ≡ false
  together : Together t i x y

module _ {s t : State} {i : ℕ} {x y : Entry} (c : Comes s t i x y) where
  was : On s x
  was = (has_iff x (shape s.words s.heap.bytes)).0 c.there

  was_not : On s y → ⊥
  was_not m = false≢true (sym c.not_there ∙ (has_iff y (shape s.words s.heap.bytes)).1 m)

-- 16: two blocks of 40 bytes are granted from the top, at 72 and at 112, and freed: the second is put before the first
abbrev one : State
one = heap_after (Allocate 32 ∷ Allocate 32 ∷ SetMerge false ∷ Free 80 ∷ [])

abbrev two : State
two = after before_equals (Free 120) one

equal_comes : Comes one two 2 (entry 72 40 unused) (entry 112 40 unused)
unfolding computes
equal_comes =
    record { passes = refl; there = refl; not_there = refl; together = record { first = refl; second = refl; bin = refl; list = refl } }

stands_first : (leb (small_bins (table_of two.heap)) 2 ≡ true) × (before 72 112 (list_of two 2) ≡ false)
unfolding computes
stands_first = (refl, refl)

pub order_refutes_before_equals : Order before_equals → ⊥
order_refutes_before_equals promised =
    let c = equal_comes in
    let inside = (at_most 3 two.heap.bins).0 c.together.bin in
    let large = (at_most (small_bins (table_of two.heap)) 2).0 stands_first.0 in
    let b = (promised one (passing one c.passes)).behind (Free 120) 2 inside large (entry 72 40 unused) (entry 112 40 unused) (first_in_lem c.together) (second_in c.together) refl (was c) (was_not c) in
    false≢true (sym stands_first.1 ∙ (before_iff 72 112 (list_of two 2)).1 b)

-- 31: a block of 24 bytes is granted from the donor, at 8, and one from the top, at 72; freed in this order, the second is put behind the first
abbrev little : State
little = heap_after (Allocate 16 ∷ Allocate 16 ∷ SetMerge false ∷ Free 16 ∷ [])

abbrev last_in : State
last_in = after small_at_the_tail (Free 80) little

small_comes : Comes little last_in 0 (entry 8 24 unused) (entry 72 24 unused)
unfolding computes
small_comes =
    record { passes = refl; there = refl; not_there = refl; together = record { first = refl; second = refl; bin = refl; list = refl } }

stands_last : (ltb 0 (small_bins (table_of last_in.heap)) ≡ true) × (before 72 8 (list_of last_in 0) ≡ false)
unfolding computes
stands_last = (refl, refl)

pub order_refutes_small_at_the_tail : Order small_at_the_tail → ⊥
order_refutes_small_at_the_tail promised =
    let c = small_comes in
    let inside = (at_most 1 last_in.heap.bins).0 c.together.bin in
    let small = (less 0 (small_bins (table_of last_in.heap))).0 stands_last.0 in
    let b = (promised little (passing little c.passes)).ahead (Free 80) 0 inside small (entry 8 24 unused) (entry 72 24 unused) (first_in_lem c.together) (second_in c.together) (was c) (was_not c) in
    false≢true (sym stands_last.1 ∙ (before_iff 72 8 (list_of last_in 0)).1 b)

-- a call leaves bin 2 with a list that is not in order of size. Shown by tests
record Descends (way : Way) (s : State) (call : Call) : Type 0 where
  passes : passes s.words s.heap ≡ true
  bin : leb 3 (after way call s).heap.bins ≡ true
  list : ascending (size_on (shape (after way call s).words (after way call s).heap.bytes)) (list_of (after way call s) 2) ≡ false

-- no way that keeps `Order` does that
kept_in_order : (way : Way) → Order way → (s : State) (call : Call) → Descends way s call → ⊥
kept_in_order way promised s call d =
    let t = after way call s in
    let up = (promised s (passing s d.passes)).left call 2 ((at_most 3 t.heap.bins).0 d.bin) in
    false≢true (sym d.list ∙ (ascending_iff (size_on (shape t.words t.heap.bytes)) (list_of t 2)).1 up)

-- 17: blocks of 48 and 40 bytes, at 72 and at 120, are freed in this order: the smaller chunk is put behind the larger one
abbrev large : State
large = heap_after (Allocate 40 ∷ Allocate 32 ∷ SetMerge false ∷ Free 80 ∷ [])

smaller_behind : Descends at_the_tail large (Free 128)
unfolding computes
smaller_behind = record { passes = refl; bin = refl; list = refl }

pub order_refutes_at_the_tail : Order at_the_tail → ⊥
order_refutes_at_the_tail promised = kept_in_order at_the_tail promised large (Free 128) smaller_behind

-- 32: the two are freed in the other order: the larger chunk is put before the smaller one
abbrev smaller : State
smaller = heap_after (Allocate 40 ∷ Allocate 32 ∷ SetMerge false ∷ Free 128 ∷ [])

larger_before : Descends large_at_the_head smaller (Free 80)
unfolding computes
larger_before = record { passes = refl; bin = refl; list = refl }

pub order_refutes_large_at_the_head : Order large_at_the_head → ⊥
order_refutes_large_at_the_head promised = kept_in_order large_at_the_head promised smaller (Free 80) larger_before

-- 39: three blocks of 24 bytes are granted, at 8, at 72 and at 96, and the first two freed, so that the second stands before the first in bin 0; when the
-- third is freed they change their order
abbrev three_small : State
three_small = heap_after (Allocate 16 ∷ Allocate 16 ∷ Allocate 16 ∷ SetMerge false ∷ Free 16 ∷ Free 80 ∷ [])

abbrev turned_round : State
turned_round = after turns_abin (Free 104) three_small

-- they were in bin 0 before, and are afterwards
together_before : (passes three_small.words three_small.heap ≡ true) × Together three_small 0 (entry 72 24 unused) (entry 8 24 unused)
unfolding computes
together_before = (refl, record { first = refl; second = refl; bin = refl; list = refl })

together_after : Together turned_round 0 (entry 72 24 unused) (entry 8 24 unused)
unfolding computes
together_after = record { first = refl; second = refl; bin = refl; list = refl }

changes_order : (before 72 8 (list_of three_small 0) ≡ true) × (before 72 8 (list_of turned_round 0) ≡ false)
unfolding computes
changes_order = (refl, refl)

pub order_refutes_turning_a_bin : Order turns_abin → ⊥
order_refutes_turning_a_bin promised =
    let (well, were) = together_before in
    let are = together_after in
    let inside = (at_most 1 turned_round.heap.bins).0 are.bin in
    let b =
    (promised three_small (passing three_small well)).steady (Free 104) 0 inside (entry 72 24 unused) (entry 8 24 unused) (first_in_lem are) (second_in are) (first_in_lem were).0
    (second_in were).0 ((before_iff 72 8 (list_of three_small 0)).0 changes_order.0) in
    false≢true (sym changes_order.1 ∙ (before_iff 72 8 (list_of turned_round 0)).1 b)
