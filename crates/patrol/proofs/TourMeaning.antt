-- What the code's run leaves is the outcome of the rule, refusals too, for every record with these heap bytes and this place
-- (`tour_none`, `tour_fails`, `tour_stops`). Assumes nothing.
use mathlib.Core.Path.{◌≡◌, refl, sym, ap, subst, ◌∙◌}
use mathlib.Core.Bool.{Bool, true, false, ◌&&◌}
use mathlib.Core.List.{List, [], ◌∷◌}
use Rattle.std.specs.Prelude.{Option, Some, None, Result, Ok, Err}
use Prim.Native.Nat.{ℕ, ◌+◌, ◌*◌, ◌-◌, ◌/◌, ◌%◌, ◌≤◌}
use native.Mathlib.Omega.{arith}
use lib.Dec.{eqb, leb}
use lib.ListN.{length}
use borrow.Author.Tests.{eq-eqb, ne_eqb}
use Rattle.lists.proofs.ListsLaws.{number_is, at_most, both, same_test}
use Rattle.record.specs.declared.answers.Answer.TheVariants.{Told}
use Rattle.record.specs.declared.answers.Refusal.{Refusal}
use Rattle.record.specs.declared.answers.Refusal.TheVariants.{HeapFails, RunSize, BeyondMending}
use Rattle.record.specs.declared.heap.Heap.{Heap}
use Rattle.record.specs.Heap.{at}
use Rattle.region.specs.Words.{Store, written}
use Rattle.chain.specs.Length.{fits_length_m}
use Rattle.chain.proofs.LengthLaws.{length_iff}
use Rattle.rules.specs.Check.{fits}
use Rattle.rules.specs.Patrol.{Patrolled, patrolled, patrol_from, placed, patrol_run, is_lost, ran, patrol}
use Rattle.rules.specs.Outcome.{judged}
use Rattle.rules.specs.Statements.{left_by}
use Rattle.rules.proofs.CheckLaws.{fits_iff}
use Rattle.patrol.specs.declared.walks.Stop.{Stop}
use Rattle.patrol.specs.declared.walks.Stop.TheVariants.{Paused, Ended}
use Rattle.patrol.specs.declared.Toured.{Toured}
use Rattle.patrol.specs.Walks.{Walked, walked, run_m}
use Rattle.patrol.specs.Tours.{can_begin_m, leaving, Tours}
use Rattle.patrol.proofs.RunMeaning.{ends_in, walked_by, ended_start, run_is}

-- the two tests of the region's length are one
fits_same : (ws : List ℕ) (h : Heap) → fits ws h ≡ fits_length_m (length ws) h.bytes
fits_same ws h = same_test (fits_iff ws h) (length_iff ws h) (λ f. f) (λ f. f)

-- the answer and the place, by where the run stops; or its error
abbrev pub toured_at : Stop → Toured
toured_at (Paused next) = record { answer = Told (Some 0); place = next }
toured_at Ended = record { answer = Told (Some 1); place = at 0 }

abbrev pub toured_in : Result Stop Refusal → Result Toured Refusal
toured_in (Ok s) = Ok (toured_at s)
toured_in (Err e) = Err e

-- the code of `tour`
module _ (ws : List ℕ) (bytes place chunks : ℕ) where
  begins_same : (h : Heap) → h.bytes ≡ bytes → h.patrol.0 ≡ place → (fits ws h && placed h) ≡ can_begin_m (length ws) bytes place
  unfolding can_begin_m
  begins_same h eb ep = rw (fits_same ws h, eb, ep) (grouped (fits_length_m (length ws) bytes) (eqb (place % 8) 0) (leb (place + 8) bytes))
    where
      grouped : (a b c : Bool) → (a && (b && c)) ≡ (a && b && c)
      grouped true b c = refl
      grouped false b c = refl

  same_run : (h : Heap) → h.bytes ≡ bytes → h.patrol.0 ≡ place → patrol_run ws h chunks ≡ patrol_from chunks ws (bytes - 8) place
  unfolding patrol_run
  same_run h eb ep = rw (eb, ep)

  pub tour_none : chunks ≡ 0 → Tours ws bytes place chunks (Err RunSize) ws
  unfolding patrol
  tour_none z h eb ep = rw (eq-eqb chunks 0 z)

  module _ (some_chunks : chunks ≡ 0 → ⊥) {t : Bool} (et : t ≡ can_begin_m (length ws) bytes place) where
    pub tour_fails : t ≡ false → Tours ws bytes place chunks (Err HeapFails) ws
    unfolding patrol
    tour_fails f h eb ep = rw (ne_eqb chunks 0 some_chunks, begins_same h eb ep, ← et, f)

    module _ (f : t ≡ true) where
      begins : can_begin_m (length ws) bytes place ≡ true
      begins = sym et ∙ f

      -- the place, and the end chunk's
      pub room : (40 ≤ bytes) × (bytes % 8 ≡ 0) × (place % 8 ≡ 0) × (place + 8 ≤ bytes)
      unfolding can_begin_m fits_length_m
      room =
          let ((((enough, most), even), eights), inside) =
          (both (both (both (both (at_most 10 (length ws)) (at_most (length ws) 16384)) (number_is (length ws / 2 * 8) bytes)) (number_is (place % 8) 0)) (at_most (place + 8) bytes)).0 begins in
          (omega arith, omega arith, eights, inside)

      pub tour_goes : {v : Result Stop Refusal} {after : List ℕ} → walked v after ≡ run_m chunks ws (bytes - 8) place
          → Tours ws bytes place chunks (toured_in v) after
      unfolding patrol
      tour_goes {v} {after} ev h eb ep =
          let (big, even, eights, inside) = room in
          rw (ne_eqb chunks 0 some_chunks, begins_same h eb ep, begins, same_run h eb ep)
          (go (patrol_from chunks ws (bytes - 8) place) refl (ev ∙ run_is chunks ws (bytes - 8) place (omega arith) eights (omega arith)))
        where
          stopped : (b : Bool) (c : ℕ) (ss : List Store) → (b ≡ true → c ≡ 0) → v ≡ Ok (ends_in b c) → after ≡ written ws ss
              → leaving h (toured_in v) after ≡ left_by ws (ran h (Some (patrolled c b ss)))
          stopped true c ss z q r = rw (q, r, z refl)
          stopped false c ss z q r = rw (q, r)

          go : (o : Option Patrolled) → patrol_from chunks ws (bytes - 8) place ≡ o → walked v after ≡ walked_by ws o
              → leaving h (toured_in v) after ≡ left_by ws (judged h ((is_lost o, BeyondMending) ∷ []) (ran h o))
          go None e q =
              let stop : v ≡ Err BeyondMending = ap (λ (x : Walked). x.stop) q in
              let words : after ≡ ws = ap (λ (x : Walked). x.words) q in
              rw (stop, words)
          go (Some r) e q =
              stopped r.ended r.place r.stores (ended_start chunks ws (bytes - 8) place r e) (ap (λ (x : Walked). x.stop) q)
              (ap (λ (x : Walked). x.words) q)

      -- by where it stops, as the code has it
      pub tour_stops : {v w : Result Stop Refusal} {after : List ℕ} → walked v after ≡ run_m chunks ws (bytes - 8) place → v ≡ w
          → Tours ws bytes place chunks (toured_in w) after
      tour_stops {v} {w} {after} ev q = subst (λ (u : Result Stop Refusal). Tours ws bytes place chunks (toured_in u) after) q (tour_goes ev)
