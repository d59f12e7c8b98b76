-- The patrol as a call: what an accepted run leaves (`left_is`, `told_is`, `after_is`), that another can follow it (`still_runs`), and that
-- a run that answered was accepted (`was_to_end`, `was_short`). Assumes nothing.
use mathlib.Core.Path.{◌≡◌, refl, ap, ap₂, ◌∙◌}
use mathlib.Core.Bool.{Bool, true, false, cond}
use mathlib.Core.List.{List}
use Rattle.std.specs.Prelude.{Option, Some, None}
use Prim.Native.Nat.{ℕ, ◌-◌, ◌<◌}
use native.Mathlib.Omega.{arith}
use Rattle.record.specs.declared.answers.Answer.TheVariants.{Told}
use Rattle.record.specs.Heap.{with_patrol}
use Rattle.region.specs.Words.{Store, written}
use Rattle.region.proofs.WordsLaws.{length_written}
use Rattle.rules.specs.Patrol.{Patrolled, patrolled, patrol_from, patrol_run}
use Rattle.rules.specs.Statements.{Left}
use Rattle.rules.specs.Calls.{Patrol, State, step, record_after}
use Rattle.rules.proofs.PatrolParts.{run_place}
use Rattle.rules.proofs.PatrolReady.{Ready, end_is, Ran, patrol_runs, patrol_told}
use Rattle.promises.specs.Ways.{ours}
use Rattle.promises.specs.Kept.{after}

-- a run can be made in this state; the run of n chunks that its record asks for; what a run that came to r leaves
abbrev pub CanRun : State → Type 0
CanRun s = Ready s.words s.heap

abbrev pub run_of : ℕ → State → Option Patrolled
run_of n s = patrol_from n s.words (s.heap.bytes - 8) s.heap.patrol.0

abbrev pub ran_to : State → Patrolled → State
ran_to s r = record { words = written s.words r.stores; heap = with_patrol s.heap r.place }

module _ (s : State) (f : ℕ) where
  -- an accepted run
  module _ (k : CanRun s) (l : 0 < f) (r : Patrolled) (q : run_of f s ≡ Some r) where
    pub left_is : ours (Patrol f) s.words s.heap
        ≡ record { answer = Told (Some (cond r.ended 1 0)); heap = with_patrol s.heap r.place; words = written s.words r.stores }
    unfolding ours step patrol_run
    left_is = rw (patrol_runs s.words s.heap f k l r q)

    pub told_is : (ours (Patrol f) s.words s.heap).answer ≡ Told (Some (cond r.ended 1 0))
    told_is = ap (λ (x : Left). x.answer) left_is

    pub after_is : after ours (Patrol f) s ≡ ran_to s r
    after_is = ap (λ (x : Left). record { words = x.words; heap = record_after s.heap x.heap x.answer }) left_is

  -- after a run another can be made
  pub still_runs : CanRun s → (r : Patrolled) → run_of f s ≡ Some r → CanRun (ran_to s r)
  still_runs k r q =
      let b = k.fits in
      let n = length_written r.stores s.words in
      let e = end_is s.words s.heap b in
      let p = run_place (s.heap.bytes - 8) e.eights f s.words s.heap.patrol.0 k.eights (omega arith) r q in
      record {
        fits = record { enough = omega arith; not_too_many = omega arith; bytes = rw n b.bytes };
        eights = p.eights;
        inside = omega arith;
      }

  -- a run that answered was accepted
  pub was_run : (value : ℕ) → (ours (Patrol f) s.words s.heap).answer ≡ Told (Some value) → Ran s.words s.heap f value
  unfolding ours step
  was_run value q = patrol_told s.words s.heap f value q

  -- one that answered 1 handled the end chunk, and one that answered 0 did not
  pub record ToEnd : Type 0 where
    pub ready : CanRun s
    pub asked : 0 < f
    pub stores : List Store
    pub run : run_of f s ≡ Some (patrolled 0 true stores)

  pub record ShortOfEnd : Type 0 where
    pub ready : CanRun s
    pub asked : 0 < f
    pub place : ℕ
    pub stores : List Store
    pub run : run_of f s ≡ Some (patrolled place false stores)

  pub was_to_end : (ours (Patrol f) s.words s.heap).answer ≡ Told (Some 1) → ToEnd
  unfolding patrol_run
  was_to_end q = go (was_run 1 q)
    where
      so : (t : Bool) → ◌≡◌ {A = ℕ} 1 (cond t 1 0) → t ≡ true
      so true q = refl
      so false q = absurd (omega arith)

      go : Ran s.words s.heap f 1 → ToEnd
      go r =
          let k = r.ready in
          let e = end_is s.words s.heap k.fits in
          let t = so r.run.ended r.value_is in
          let p = run_place (s.heap.bytes - 8) e.eights f s.words s.heap.patrol.0 k.eights (omega arith) r.run r.found in
          record {
            ready = k;
            asked = r.asked;
            stores = r.run.stores;
            run = r.found ∙ ap₂ (λ (c : ℕ) (u : Bool). Some (patrolled c u r.run.stores)) (p.start t) t;
          }

  pub was_short : (ours (Patrol f) s.words s.heap).answer ≡ Told (Some 0) → ShortOfEnd
  unfolding patrol_run
  was_short q = go (was_run 0 q)
    where
      so : (t : Bool) → ◌≡◌ {A = ℕ} 0 (cond t 1 0) → t ≡ false
      so true q = absurd (omega arith)
      so false q = refl

      go : Ran s.words s.heap f 0 → ShortOfEnd
      go r =
          record {
            ready = r.ready;
            asked = r.asked;
            place = r.run.place;
            stores = r.run.stores;
            run = r.found ∙ ap (λ (u : Bool). Some (patrolled r.run.place u r.run.stores)) (so r.run.ended r.value_is);
          }
