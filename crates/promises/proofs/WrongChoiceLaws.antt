-- Each of the three wrong orders of the tries breaks a promise, shown on heaps of the demonstration's setup: bins of 24, 32, 40 and 128, so
-- that needs below 40 are small, and a donor of 64 bytes at 8. Assumes nothing.
use Rattle.std.specs.Prelude.{Option, Some, None}
use mathlib.Core.Path.{◌≡◌, refl}
use mathlib.Core.Bool.{Bool, true, false, cond, ◌&&◌, false≢true}
use mathlib.Core.List.{List, [], ◌∷◌}
use Prim.Native.Nat.{ℕ, ◌<◌}
use native.Mathlib.Omega.{arith}
use lib.Dec.{eqb, ltb}
use lib.IntN.{pos}
use Rattle.drafts.proofs.NeedLaws.{need_large}
use Rattle.drafts.proofs.SourceLaws.{Fails, in_order_fails}
use Rattle.lists.specs.Lists.{any}
use Rattle.lists.proofs.ListsLaws.{number_is, less, both, itself, for_some}
use Rattle.record.specs.declared.answers.Answer.TheVariants.{Granted, Refused}
use Rattle.record.specs.declared.answers.Refusal.TheVariants.{NoRoom}
use Rattle.record.specs.declared.heap.Heap.{Heap}
use Rattle.record.specs.declared.sources.Source.{Source}
use Rattle.record.specs.declared.sources.Source.TheVariants.{FromBin, FromDonor, FromTop}
use Rattle.record.specs.Heap.{table_of}
use Rattle.record.specs.Table.{small}
use Rattle.rules.specs.Shape.{shape, chunk_end}
use Rattle.rules.specs.Check.{Passes, passes}
use Rattle.rules.specs.Draft.{as_read}
use Rattle.rules.specs.Serve.{need, permitted, serves, in_order, first_of, chosen}
use Rattle.rules.specs.Kinds.{overhead}
use Rattle.rules.specs.Calls.{Allocate, Free, State}
use Rattle.rules.proofs.CasesLaws.{computes}
use Rattle.rules.proofs.CheckLaws.{passes_iff}
use Rattle.promises.specs.Ways.{Way, ours}
use Rattle.promises.specs.Room.{Room}
use Rattle.promises.specs.Choice.{rank, Choice}
use Rattle.promises.specs.Wrong.{donor_before_top, larger_before_donor, donor_for_small}
use Rattle.promises.proofs.ServeLaws.{own, larger, donor, top, room_iff}
use Rattle.promises.proofs.RoomLaws.{room}
use Rattle.promises.proofs.WrongLaws.{heap_after, passing, not_refused}

-- The block at b is granted for z bytes in a chunk of rank `high`, although a chunk of rank `low` can serve: shown by tests of all chunks
record OutOfTurn (way : Way) (s : State) (z b high low : ℕ) : Type 0 where
  passes : passes s.words s.heap ≡ true
  answer : (way (Allocate z) s.words s.heap).answer ≡ Granted (record { 0 = b }) (pos (need overhead z))
  lies : any (λ e. ltb e.place b && ltb b (chunk_end e) && eqb (rank s.heap (need overhead z) e) high) (shape s.words s.heap.bytes) ≡ true
  serves : any (λ e. serves (table_of s.heap) s.heap.donor.0 s.heap.top.0 (need overhead z) e && eqb (rank s.heap (need overhead z) e) low)
      (shape s.words s.heap.bytes) ≡ true

-- no way that keeps `Choice` does that
kept_in_turn : (way : Way) → Choice way → (s : State) (z b high low : ℕ) → OutOfTurn way s z b high low → low < high → ⊥
kept_in_turn way promised s z b high low o l =
    let lowest = ((promised s.words s.heap (passing s o.passes)).allocate z (record { 0 = b }) (pos (need overhead z)) o.answer).lowest in
    let (from, there, (lies, ranked)) =
    (for_some (λ e. both (both (less e.place b) (less b (chunk_end e))) (number_is (rank s.heap (need overhead z) e) high)) (shape s.words s.heap.bytes)).0 o.lies in
    let (other, on_chain, (can, lower)) =
    (for_some (λ e. both (itself (serves (table_of s.heap) s.heap.donor.0 s.heap.top.0 (need overhead z) e)) (number_is (rank s.heap (need overhead z) e) low)) (shape s.words s.heap.bytes)).0
    o.serves in
    omega (arith, lowest from there lies other on_chain can)

-- 13: in the fresh heap the donor and the top (176 bytes) can serve 40 bytes; the donor's block is granted
before_top : OutOfTurn donor_before_top (heap_after []) 32 16 4 3
unfolding computes serves
before_top = record { passes = refl; answer = refl; lies = refl; serves = refl }

pub choice_refutes_donor_before_top : Choice donor_before_top → ⊥
choice_refutes_donor_before_top promised = kept_in_turn donor_before_top promised (heap_after []) 32 16 4 3 before_top (omega arith)

-- 14: two blocks are granted from the top, and the first is freed: a chunk of 48 bytes at 72. It and the donor can serve 24 bytes;
-- its block is granted
abbrev freed : State
freed = heap_after (Allocate 40 ∷ Allocate 40 ∷ Free 80 ∷ [])

before_donor : OutOfTurn larger_before_donor freed 16 80 2 1
unfolding computes serves
before_donor = record { passes = refl; answer = refl; lies = refl; serves = refl }

pub choice_refutes_larger_before_donor : Choice larger_before_donor → ⊥
choice_refutes_larger_before_donor promised = kept_in_turn larger_before_donor promised freed 16 80 2 1 before_donor (omega arith)

-- 15: behind a grant of 120 bytes the top has 56, and the donor alone can serve 40 bytes; they are refused
abbrev full : State
full = heap_after (Allocate 112 ∷ [])

full_passes : passes full.words full.heap ≡ true
unfolding computes
full_passes = refl

full_refused : (donor_for_small (Allocate 32) full.words full.heap).answer ≡ Refused NoRoom
unfolding computes
full_refused = refl

full_serves : any (serves (table_of full.heap) full.heap.donor.0 full.heap.top.0 (need overhead 32)) (shape full.words full.heap.bytes) ≡ true
unfolding computes serves
full_serves = refl

pub room_refutes_donor_for_small : Room donor_for_small → ⊥
room_refutes_donor_for_small promised = not_refused donor_for_small promised full (passing full full_passes) 32 refl full_serves full_refused

-- Request Four gives refusal 7 less often: on one heap, a request that is refused for lack of room now was refused in document 01's way too
-- (the reverse does not hold, as 15 shows). Of a run of calls this says nothing: the two heaps differ from the first large block in the donor on
tries_fail : (little : Bool) (own larger donor top : Option Source) → Fails own × Fails larger × Fails donor × Fails top
    → Fails (first_of (cond little (in_order little own larger donor top) (own ∷ larger ∷ top ∷ [])))
tries_fail little own larger donor top (o, l, d, t) =
    rw (nothing_found own o, nothing_found larger l, nothing_found donor d, nothing_found top t) (none_left little)
  where
    nothing_found : (s : Option Source) → Fails s → s ≡ None
    nothing_found (Some source) f = absurd (false≢true f)
    nothing_found None f = refl

    none_left : (b : Bool) → Fails (first_of (cond b (in_order b None None None None) (None ∷ None ∷ None ∷ [])))
    none_left true = refl
    none_left false = refl

pub refused_before : (ws : List ℕ) (h : Heap) → Passes ws h → (z : ℕ) → permitted z ≡ true
    → (ours (Allocate z) ws h).answer ≡ Refused NoRoom → (donor_for_small (Allocate z) ws h).answer ≡ Refused NoRoom
unfolding as_read chosen
refused_before ws h p z q refused =
    let n : ℕ = need overhead z in
    let none = (room_iff ws h p n (need_large z)).1 (((room ws h p).allocate z q).0 refused) in
    let fail = in_order_fails (small (table_of h) n) (own ws h p n) (larger ws h p n) (donor ws h p n) (top ws h p n) none in
    rw ((passes_iff ws h).1 p, q, tries_fail (small (table_of h) n) (own ws h p n) (larger ws h p n) (donor ws h p n) (top ws h p n) fail)
