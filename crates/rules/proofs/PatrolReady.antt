-- When a run of the patrol can be made at all (`Ready`, decided by the tests of refusal 4: `ready_iff`), and the call: it is accepted
-- exactly where it is ready, has a chunk to handle and finds each next chunk (`patrol_runs`, `patrol_told`), and writes no odd last word
-- (`patrol_below`). Assumes nothing.
use mathlib.Core.Path.{◌≡◌, refl}
use mathlib.Core.Bool.{false, not, cond, ◌&&◌, true≢false}
use mathlib.Core.List.{List}
use Rattle.std.specs.Prelude.{Option, Some, None}
use Prim.Native.Nat.{ℕ, ◌+◌, ◌-◌, ◌*◌, ◌/◌, ◌%◌, ◌≤◌, ◌<◌}
use native.Mathlib.Omega.{arith}
use lib.Dec.{eqb}
use lib.ListN.{length}
use borrow.Author.Tests.{ne_eqb, eqb-false, not-false}
use Rattle.lists.proofs.ListsLaws.{Decides, number_is, at_most, meaning, both}
use Rattle.record.specs.declared.answers.Answer.TheVariants.{Told, Refused}
use Rattle.record.specs.declared.answers.Refusal.{Refusal}
use Rattle.record.specs.declared.heap.Heap.{Heap}
use Rattle.region.proofs.PrefixLaws.{Below}
use Rattle.region.proofs.WordsLaws.{fall_so}
use Rattle.rules.specs.Check.{Fits, fits}
use Rattle.rules.specs.Patrol.{Patrolled, placed, patrol_run, is_lost, patrol_refusals, ran, patrol}
use Rattle.rules.proofs.CheckLaws.{fits_iff}
use Rattle.rules.proofs.OutcomeLaws.{judged_so}
use Rattle.rules.proofs.PatrolParts.{From, run_fall}

-- the region has the length that the record says, and the patrol's place can be a chunk's
pub record Ready (ws : List ℕ) (h : Heap) : Type 0 where
  pub fits : Fits ws h
  pub eights : h.patrol.0 % 8 ≡ 0
  pub inside : h.patrol.0 + 8 ≤ h.bytes

pub ready_iff : (ws : List ℕ) (h : Heap) → Decides (fits ws h && placed h) (Ready ws h)
ready_iff ws h =
    meaning (both (fits_iff ws h) (both (number_is (h.patrol.0 % 8) 0) (at_most (h.patrol.0 + 8) h.bytes)))
    (λ (f, (e, i)). record { fits = f; eights = e; inside = i })
    (λ r. (r.fits, (r.eights, r.inside)))

-- where the end chunk is, and that its words are in the region
pub record EndIs (ws : List ℕ) (end : ℕ) : Type 0 where
  pub eights : end % 8 ≡ 0
  pub above : 32 ≤ end
  pub fits : end / 4 + 2 ≤ length ws

pub end_is : (ws : List ℕ) (h : Heap) → Fits ws h → EndIs ws (h.bytes - 8)
end_is ws h f = record { eights = omega arith; above = omega arith; fits = omega arith }

module _ (ws : List ℕ) (h : Heap) (chunks : ℕ) where
  -- no run writes an odd last word of the region
  pub patrol_below : Below (length ws / 2 * 2) (patrol ws h chunks).stores
  unfolding patrol patrol_run
  patrol_below =
      judged_so (λ o. Below (length ws / 2 * 2) o.stores) h (ran h (patrol_run ws h chunks)) (patrol_refusals ws h chunks) (λ r. tt)
      (λ (_, (heap, _)). go ((ready_iff ws h).0 (not-false (fits ws h && placed h) heap)) (patrol_run ws h chunks) refl)
    where
      go : Ready ws h → (o : Option Patrolled) → patrol_run ws h chunks ≡ o → Below (length ws / 2 * 2) (ran h o).stores
      go r None q = tt
      go r (Some t) q =
          let e = end_is ws h r.fits in
          fall_so (From (h.bytes - 8) h.patrol.0) (λ i. i < length ws / 2 * 2) (λ i b. omega arith) t.stores
          (run_fall (h.bytes - 8) e.eights chunks ws h.patrol.0 t q)

  -- an accepted run
  pub patrol_runs : Ready ws h → 0 < chunks → (r : Patrolled) → patrol_run ws h chunks ≡ Some r → patrol ws h chunks ≡ ran h (Some r)
  unfolding patrol
  patrol_runs k l r q = rw (ne_eqb chunks 0 (λ z. omega arith), (ready_iff ws h).1 k, q)

  -- what a run that was accepted found
  pub record Ran (value : ℕ) : Type 0 where
    pub ready : Ready ws h
    pub asked : 0 < chunks
    pub run : Patrolled
    pub found : patrol_run ws h chunks ≡ Some run
    pub value_is : value ≡ cond run.ended 1 0

  pub patrol_told : (value : ℕ) → (patrol ws h chunks).answer ≡ Told (Some value) → Ran value
  unfolding patrol
  patrol_told value =
      judged_so (λ o. o.answer ≡ Told (Some value) → Ran value) h (ran h (patrol_run ws h chunks)) (patrol_refusals ws h chunks)
      (λ r q. absurd (no_refusal r q))
      (λ (run, (heap, (lost, _))) q. go run heap (patrol_run ws h chunks) refl lost q)
    where
      no_refusal : (r : Refusal) → Refused r ≡ Told (Some value) → ⊥
      no_refusal r q = let z : ◌≡◌ {A = ℕ} 0 1 = cc in omega arith

      go : eqb chunks 0 ≡ false → not (fits ws h && placed h) ≡ false → (o : Option Patrolled) → patrol_run ws h chunks ≡ o
          → is_lost o ≡ false → (ran h o).answer ≡ Told (Some value) → Ran value
      go run heap None e lost q = absurd (true≢false lost)
      go run heap (Some r) e lost q =
          record {
            ready = (ready_iff ws h).0 (not-false _ heap);
            asked = let n = eqb-false chunks 0 run in omega arith;
            run = r;
            found = e;
            value_is = cc;
          }
