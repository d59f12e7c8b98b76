-- The refusals of the patrol, in their order, each with its reason (`patrol_judged`): 10 for a run of no chunk, 4 where it can't be made,
-- 12 where a run on the words as they came meets a chunk whose next one is not found (`lost_iff`). Assumes nothing.
use mathlib.Core.Path.{◌≡◌, refl, sym, ap, ◌∙◌}
use mathlib.Core.Logic.{inl, inr}
use mathlib.Core.Bool.{Bool, true, false, not, ◌&&◌, false≢true}
use mathlib.Core.List.{List, [], ◌∷◌}
use Rattle.std.specs.Prelude.{Option, Some, None}
use Rattle.std.proofs.lemmas.Option.{none-some}
use Prim.Native.Nat.{ℕ, zero, suc, ◌+◌, ◌-◌, ◌%◌, ◌<◌}
use native.Mathlib.Decide.{ℕ_discrete, dec_lt}
use native.Mathlib.Omega.{arith}
use lib.Dec.{eqb}
use lib.ListN.{length}
use Rattle.lists.specs.Lists.{Mem}
use Rattle.lists.proofs.ListsLaws.{Decides, number_is, meaning, denied}
use Rattle.record.specs.declared.answers.Refusal.{Refusal}
use Rattle.record.specs.declared.answers.Refusal.TheVariants.{HeapFails, RunSize, BeyondMending}
use Rattle.record.specs.declared.heap.Heap.{Heap}
use Rattle.region.specs.Words.{Store}
use Rattle.rules.specs.Shape.{heap_bytes}
use Rattle.rules.specs.Check.{fits}
use Rattle.rules.specs.Patrol.{mends, Patrolled, goes_on, placed, patrol_run, is_lost, patrol_refusals, ran, patrol}
use Rattle.rules.specs.Calls.{Patrol, step}
use Rattle.rules.proofs.PatrolRun.{plan, plan_ends, plan_lost, plan_on, Handling, ends, lost, on, handling, plan_is}
use Rattle.rules.proofs.PatrolReady.{Ready, ready_iff, end_is}
use Rattle.promises.specs.Kept.{Accepted}
use Rattle.promises.specs.Refusing.{NoPatrol, Lost, lost_here, lost_later, Because, fails, patrol_fails, patrol_none, patrol_lost}
use Rattle.promises.proofs.JudgedLaws.{accepts, first, second, third, Judging}

-- a run that is lost: the plan, on the words as they came, finds nothing
module _ (ws : List ℕ) (end : ℕ) where
  none_planned : {f c : ℕ} → Lost ws end f c → plan f ws end c ≡ None
  none_planned (lost_here {f = f} {c = c} n q) = plan_lost ws end c f n q
  none_planned (lost_later {f = f} {c = c} {v = v} n q l) =
      plan_on ws end c f n v q ∙ ap (goes_on (mends ws c v)) (none_planned l)

  later : (ss : List Store) (o : Option Patrolled) → goes_on ss o ≡ None → o ≡ None
  later ss None q = refl
  later ss (Some r) q = absurd (none-some _ (sym q))

  planned_lost : (f c : ℕ) → plan f ws end c ≡ None → Lost ws end f c
  planned_lost zero c q = absurd (none-some _ (sym q))
  planned_lost (suc f) c q = go (handling ws end c) (λ v. planned_lost f v)
    where
      go : Handling ws end c → ((v : ℕ) → plan f ws end v ≡ None → Lost ws end f v) → Lost ws end (suc f) c
      go (ends e) g = absurd (none-some _ (sym (sym (plan_ends ws end c f e) ∙ q)))
      go (lost n e) g = lost_here n e
      go (on n v e) g = lost_later n e (g v (later (mends ws c v) (plan f ws end v) (sym (plan_on ws end c f n v e) ∙ q)))

is_none : (o : Option Patrolled) → Decides (is_lost o) (o ≡ None)
is_none None = (λ q. refl, λ q. refl)
is_none (Some r) = (λ q. absurd (false≢true q), λ q. absurd (none-some r (sym q)))

module _ (ws : List ℕ) (h : Heap) where
  -- 12
  pub lost_iff : Ready ws h → (f : ℕ) → Decides (is_lost (patrol_run ws h f)) (Lost ws (h.bytes - 8) f h.patrol.0)
  unfolding patrol_run
  lost_iff r f =
      let e = end_is ws h r.fits in
      let same = plan_is (h.bytes - 8) e.eights f h.patrol.0 ws r.eights (omega arith) in
      meaning (is_none (patrol_run ws h f)) (λ q. planned_lost ws (h.bytes - 8) f h.patrol.0 (sym same ∙ q))
      (λ l. same ∙ none_planned ws (h.bytes - 8) l)

  -- 4
  no_patrol_iff : Decides (not (fits ws h && placed h)) (NoPatrol ws h)
  no_patrol_iff =
      meaning (denied (ready_iff ws h))
      (wrong (dec_lt (length ws) 10) (dec_lt 16384 (length ws)) (ℕ_discrete h.bytes (heap_bytes (length ws))) (ℕ_discrete (h.patrol.0 % 8) 0) (dec_lt h.bytes (h.patrol.0 + 8)))
      right
    where
      wrong : Dec (length ws < 10) → Dec (16384 < length ws) → Dec (h.bytes ≡ heap_bytes (length ws)) → Dec (h.patrol.0 % 8 ≡ 0)
          → Dec (h.bytes < h.patrol.0 + 8) → (Ready ws h → ⊥) → NoPatrol ws h
      wrong (yes l) b c d e n = inl (inl l)
      wrong (no a) (yes l) c d e n = inl (inr l)
      wrong (no a) (no b) (no q) d e n = inr (inl q)
      wrong (no a) (no b) (yes c) (no q) e n = inr (inr (inl q))
      wrong (no a) (no b) (yes c) (yes d) (yes l) n = inr (inr (inr l))
      wrong (no a) (no b) (yes c) (yes d) (no e) n =
          absurd (n (record { fits = record { enough = omega arith; not_too_many = omega arith; bytes = c }; eights = d; inside = omega arith }))

      right : NoPatrol ws h → Ready ws h → ⊥
      right (inl (inl l)) r = omega arith
      right (inl (inr l)) r = omega arith
      right (inr (inl q)) r = q r.fits.bytes
      right (inr (inr (inl q))) r = q r.eights
      right (inr (inr (inr l))) r = omega arith

  -- a run that is not refused with 4 can be made
  ready_else : (NoPatrol ws h → ⊥) → Ready ws h
  ready_else n = go (fits ws h && placed h) (ready_iff ws h) no_patrol_iff
    where
      go : (t : Bool) → Decides t (Ready ws h) → Decides (not t) (NoPatrol ws h) → Ready ws h
      go true r w = r.0 refl
      go false r w = absurd (n (w.0 refl))

  pub patrol_judged : (f : ℕ) → Judging (Patrol f) ws h
  unfolding step patrol
  patrol_judged f =
      record {
        tests = patrol_refusals ws h f;
        made = ran h (patrol_run ws h f);
        accepted = told (patrol_run ws h f);
        is = refl;
        rising = omega arith;
        stands = stands;
        decided = (chunks, λ _. (heap, λ n. (links n, λ _. tt)));
      }
    where
      told : (o : Option Patrolled) → Accepted (ran h o).answer
      told None = accepts refl
      told (Some r) = accepts refl

      chunks : Decides (eqb f 0) (Because ws h (Patrol f) RunSize)
      chunks = meaning (number_is f 0) (λ z. patrol_none z) (λ k. elim k [ patrol_none z ↦ z ])

      heap : Decides (not (fits ws h && placed h)) (Because ws h (Patrol f) HeapFails)
      heap = meaning no_patrol_iff (λ w. patrol_fails w) (λ k. elim k [ patrol_fails w ↦ w | fails s n ↦ absurd (false≢true s) ])

      links : (Because ws h (Patrol f) HeapFails → ⊥) → Decides (is_lost (patrol_run ws h f)) (Because ws h (Patrol f) BeyondMending)
      links n = meaning (lost_iff (ready_else (λ w. n (patrol_fails w))) f) (λ l. patrol_lost l) (λ k. elim k [ patrol_lost l ↦ l ])

      stands : (r : Refusal) → Because ws h (Patrol f) r → Mem r (RunSize ∷ HeapFails ∷ BeyondMending ∷ [])
      stands r (fails s n) = absurd (false≢true s)
      stands r (patrol_none z) = first
      stands r (patrol_fails w) = second
      stands r (patrol_lost l) = third
