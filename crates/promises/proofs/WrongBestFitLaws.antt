-- Each of the four wrong programs of request Six breaks a promise, the first three `BestFit` and the last `BestOfAny`, shown on heaps of the
-- demonstration's setup with merging off: bins of 24, 32, 40 and 128, so that bin 2 is outside the small array. Assumes nothing.
use mathlib.Core.Path.{◌≡◌, refl, ap}
use mathlib.Core.Logic.{inl}
use mathlib.Core.Bool.{Bool, true, false, not, ◌&&◌, ◌||◌}
use mathlib.Core.List.{List, [], ◌∷◌, ◌++◌}
use Prim.Native.Nat.{ℕ}
use native.Mathlib.Omega.{arith}
use lib.Dec.{eqb, leb, ltb}
use lib.IntN.{pos}
use Rattle.lists.specs.Lists.{every, any}
use Rattle.lists.proofs.ListsLaws.{Decides, number_is, at_most, less, both, if_then, denied, itself, for_each, for_some}
use Rattle.record.specs.declared.answers.Answer.TheVariants.{Granted}
use Rattle.record.specs.declared.heap.Heap.{Heap}
use Rattle.record.specs.declared.kinds.Kind.TheVariants.{Ordinary}
use Rattle.rules.specs.Shape.{Entry, shape, chunk_end}
use Rattle.rules.specs.Kinds.{ordinary_kind, kind_of, overhead, ordinary}
use Rattle.rules.specs.Check.{passes}
use Rattle.rules.specs.Serve.{need, serves}
use Rattle.rules.specs.Calls.{Call, Allocate, Free, SetMerge, State}
use Rattle.rules.proofs.CasesLaws.{computes}
use Rattle.rules.proofs.KindsLaws.{ordinary_kind_lem}
use Rattle.promises.specs.Ways.{Way}
use Rattle.promises.specs.Room.{OnChain}
use Rattle.promises.specs.Choice.{LiesIn, can}
use Rattle.promises.specs.BestFit.{OrdinaryServes, BestFit, BestOfAny}
use Rattle.promises.specs.Wrong.{last_that_fits, larger_before_own, largest_of_larger, top_before_bins}
use Rattle.promises.proofs.WrongLaws.{heap_after, passing}

-- The block at b is granted on the heap s for z bytes. `found` holds of the chunk in which it lies, and `other` of the size of some ordinary chunk
-- that can serve: shown by tests of all chunks
record Shown (way : Way) (s : State) (z b size : ℕ) (found : Entry → Bool) (other : ℕ → Bool) : Type 0 where
  passes : passes s.words s.heap ≡ true
  answer : (way (Allocate z) s.words s.heap).answer ≡ Granted (record { 0 = b }) (pos size)
  lies : every (λ e. not (ltb e.place b && ltb b (chunk_end e)) || found e) (shape s.words s.heap.bytes) ≡ true
  serves : any (λ e. ordinary s.heap e && can s.heap (need overhead z) e && other e.size) (shape s.words s.heap.bytes) ≡ true

ordinary_iff : (h : Heap) (e : Entry) → Decides (ordinary h e) (kind_of h e ≡ Ordinary)
ordinary_iff h e = (ordinary_kind_lem (kind_of h e), ap ordinary_kind)

-- what the tests show
module _ {way : Way} {s : State} {z b size : ℕ} {found : Entry → Bool} {other : ℕ → Bool} (t : Shown way s z b size found other) where
  found_there : (e : Entry) → OnChain s.words s.heap e → LiesIn b e → found e ≡ true
  found_there =
      (for_each (λ e. if_then (both (less e.place b) (less b (chunk_end e))) (itself (found e))) (shape s.words s.heap.bytes)).0 t.lies

  other_serves : (e : Entry) × OrdinaryServes s.words s.heap (need overhead z) e × (other e.size ≡ true)
  other_serves =
      let (e, member, ((ordinary, serves), so)) =
      (for_some (λ e. both (both (ordinary_iff s.heap e) (itself (can s.heap (need overhead z) e))) (itself (other e.size))) (shape s.words s.heap.bytes)).0
      t.serves in
      (e, record { member = member; ordinary = ordinary; serves = serves }, so)

-- no way that keeps `BestFit` takes an ordinary chunk of more than `smaller` bytes where one that can serve has no more
abbrev TooLarge : Way → State → ℕ → ℕ → ℕ → ℕ → Type 0
TooLarge way s z b size smaller = Shown way s z b size (λ e. ordinary s.heap e && ltb smaller e.size) (λ k. leb k smaller)

kept_fit : (way : Way) → BestFit way → (s : State) (z b size smaller : ℕ) → TooLarge way s z b size smaller → ⊥
kept_fit way promised s z b size smaller t =
    let fit = (promised s.words s.heap (passing s t.passes)).allocate z (record { 0 = b }) (pos size) t.answer in
    let (from_bin_lem, larger) = (both (ordinary_iff s.heap fit.from) (less smaller fit.from.size)).0 (found_there t fit.from fit.member fit.lies) in
    let (e, o, few) = other_serves t in
    let l = (at_most e.size smaller).0 few in
    let m = (fit.best from_bin_lem).least e o in
    omega arith

-- 24 bytes are granted from the donor, at 8, which keeps 40; 48 and 40 from the top, at 72 and at 120. The last two are freed: both are in bin 2
abbrev calls : List Call
calls = Allocate 16 ∷ Allocate 40 ∷ Allocate 32 ∷ SetMerge false ∷ Free 80 ∷ Free 128 ∷ []

abbrev two : State
two = heap_after calls

-- 18: for 40 bytes the chunk of 48 is taken
last_in_bin : TooLarge last_that_fits two 32 80 48 40
unfolding computes serves
last_in_bin = record { passes = refl; answer = refl; lies = refl; serves = refl }

pub best_fit_refutes_last : BestFit last_that_fits → ⊥
best_fit_refutes_last promised = kept_fit last_that_fits promised two 32 80 48 40 last_in_bin

-- 19: the 24 bytes at 8 are freed too: a chunk in bin 0. For 24 bytes the chunk of 40 is taken, whole
abbrev three : State
three = heap_after (calls ++ (Free 16 ∷ []))

own_passed_over : TooLarge larger_before_own three 16 128 40 24
unfolding computes serves
own_passed_over = record { passes = refl; answer = refl; lies = refl; serves = refl }

pub best_fit_refutes_larger_before_own : BestFit larger_before_own → ⊥
best_fit_refutes_larger_before_own promised = kept_fit larger_before_own promised three 16 128 40 24 own_passed_over

-- 20: neither bin 0 nor the donor can serve 24 bytes; of bin 2 the chunk of 48 is taken
largest_taken : TooLarge largest_of_larger two 16 80 24 40
unfolding computes serves
largest_taken = record { passes = refl; answer = refl; lies = refl; serves = refl }

pub best_fit_refutes_largest : BestFit largest_of_larger → ⊥
best_fit_refutes_largest promised = kept_fit largest_of_larger promised two 16 80 24 40 largest_taken

-- no way that keeps `BestOfAny` takes a chunk that is not ordinary where an ordinary one has exactly the need
abbrev NotFromBin : Way → State → ℕ → ℕ → ℕ → Type 0
NotFromBin way s z b size = Shown way s z b size (λ e. not (ordinary s.heap e)) (λ k. eqb k (need overhead z))

kept_from_bin : (way : Way) → BestOfAny way → (s : State) (z b size : ℕ) → NotFromBin way s z b size → ⊥
kept_from_bin way promised s z b size t =
    let (e, o, exact) = other_serves t in
    let (from, lies, smallest) =
    (promised s.words s.heap (passing s t.passes)).allocate z (record { 0 = b }) (pos size) t.answer e o
    (inl ((number_is e.size (need overhead z)).0 exact)) in
    (denied (ordinary_iff s.heap from)).0 (found_there t from smallest.itself.member lies) smallest.itself.ordinary

-- 21: for 40 bytes the top, which has 88, is taken, although the chunk of 40 in bin 2 has exactly that
top_taken : NotFromBin top_before_bins two 32 168 40
unfolding computes serves
top_taken = record { passes = refl; answer = refl; lies = refl; serves = refl }

pub best_of_any_refutes_top_before_bins : BestOfAny top_before_bins → ⊥
best_of_any_refutes_top_before_bins promised = kept_from_bin top_before_bins promised two 32 168 40 top_taken
