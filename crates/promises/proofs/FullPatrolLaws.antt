-- A full patrol, whatever its runs, is one run that is long enough (`full_run`, `run_full`), on any region. Assumes nothing.
use mathlib.Core.Path.{◌≡◌, refl, sym, ap, subst, ◌∙◌}
use mathlib.Core.Bool.{Bool, true, false}
use mathlib.Core.List.{List, ◌++◌}
use Rattle.std.specs.Prelude.{Option, Some, None}
use Rattle.std.proofs.lemmas.Option.{none-some}
use Prim.Native.Nat.{ℕ, zero, suc, ◌+◌, ◌-◌, ◌≤◌, ◌<◌}
use native.Mathlib.Decide.{dec_lt}
use native.Mathlib.Omega.{arith}
use Rattle.record.specs.Heap.{with_patrol}
use Rattle.region.specs.Words.{Store}
use Rattle.region.proofs.WordsLaws.{written_append}
use Rattle.rules.specs.Patrol.{Patrolled, patrolled, goes_on}
use Rattle.rules.specs.Calls.{Patrol, State}
use Rattle.rules.proofs.PatrolParts.{onward, went_on, run_parts, run_then, run_more}
use Rattle.promises.specs.Ways.{ours}
use Rattle.promises.specs.Kept.{after}
use Rattle.promises.specs.FullPatrol.{FullPatrol, last_run, further_run}
use Rattle.promises.proofs.PatrolLaws.{CanRun, run_of, ran_to, told_is, after_is, still_runs, ToEnd, ShortOfEnd, was_to_end, was_short}

-- one run that handles the end chunk, from the place of the record
pub record OneRun (s t : State) : Type 0 where
  pub ready : CanRun s
  pub chunks : ℕ
  pub stores : List Store
  pub run : run_of chunks s ≡ Some (patrolled 0 true stores)
  pub leaves : t ≡ ran_to s (patrolled 0 true stores)

-- the last run
last_run_lem : (f : ℕ) (s : State) → ToEnd s f → OneRun s (after ours (Patrol f) s)
last_run_lem f s q =
    record { ready = q.ready; chunks = f; stores = q.stores; run = q.run; leaves = after_is s f q.ready q.asked _ q.run }

-- a run before others
before_others : (f : ℕ) (s t : State) (c : ℕ) (ss : List Store) → CanRun s → run_of f s ≡ Some (patrolled c false ss)
    → OneRun (ran_to s (patrolled c false ss)) t → OneRun s t
before_others f s t c ss k q o =
    record {
      ready = k;
      chunks = f + o.chunks;
      stores = ss ++ o.stores;
      run =
          run_then f o.chunks s.words (s.heap.bytes - 8) s.heap.patrol.0 c ss q
          ∙ ap (goes_on ss) o.run;
      leaves =
          o.leaves
          ∙ ap (λ (ws : List ℕ). record { words = ws; heap = with_patrol s.heap 0 }) (sym (written_append ss o.stores s.words));
    }

further_run_lem : (f : ℕ) (s t : State) → ShortOfEnd s f → OneRun (after ours (Patrol f) s) t → OneRun s t
further_run_lem f s t q rest =
    before_others f s t q.place q.stores q.ready q.run
    (subst (λ (x : State). OneRun x t) (after_is s f q.ready q.asked _ q.run) rest)

pub full_run : {f : ℕ} {s t : State} → FullPatrol ours f s t → OneRun s t
full_run {f} (last_run {s = s} q) = last_run_lem f s (was_to_end s f q)
full_run {f} (further_run {s = s} {t = t} q rest) = further_run_lem f s t (was_short s f q) (full_run rest)

-- one run that handles the end chunk is a full patrol of runs of f chunks
module _ (f : ℕ) (l : 0 < f) where
  -- where the first run handles it
  at_once : (s : State) → CanRun s → (ss : List Store) → run_of f s ≡ Some (patrolled 0 true ss) → FullPatrol ours f s (ran_to s (patrolled 0 true ss))
  at_once s can ss q = subst (FullPatrol ours f s) (after_is s f can l _ q) (last_run (told_is s f can l _ q))

  enough : (s : State) (n : ℕ) (ss : List Store) → n ≤ f → run_of n s ≡ Some (patrolled 0 true ss) → run_of f s ≡ Some (patrolled 0 true ss)
  enough s n ss b q =
      let whole : n + (f - n) ≡ f = omega arith in
      rw whole at (run_more n (f - n) s.words (s.heap.bytes - 8) s.heap.patrol.0 0 ss q)

  -- where it does not: the rest of the run is a full patrol
  later : (s : State) → CanRun s → (c : ℕ) (rs ts : List Store) → run_of f s ≡ Some (patrolled c false rs)
      → let next = ran_to s (patrolled c false rs) in FullPatrol ours f next (ran_to next (patrolled 0 true ts))
      → FullPatrol ours f s (ran_to s (patrolled 0 true (rs ++ ts)))
  later s can c rs ts q rest =
      further_run {t = ran_to s (patrolled 0 true (rs ++ ts))} (told_is s f can l _ q)
      (rw (after_is s f can l _ q, written_append rs ts s.words) rest)

  -- shorter runs from any state are full patrols
  abbrev Shorter : ℕ → Type 0
  Shorter n =
      (s : State) → CanRun s → (m : ℕ) → m < n → (ss : List Store) → run_of m s ≡ Some (patrolled 0 true ss)
      → FullPatrol ours f s (ran_to s (patrolled 0 true ss))

  module _ (s : State) (can : CanRun s) (n : ℕ) (ss : List Store) (shorter : Shorter n) where
    by_end : f < n → (c : ℕ) (t : Bool) (rs : List Store) → run_of f s ≡ Some (patrolled c t rs)
        → onward (n - f) s.words (s.heap.bytes - 8) (Some (patrolled c t rs)) ≡ Some (patrolled 0 true ss)
        → FullPatrol ours f s (ran_to s (patrolled 0 true ss))
    by_end m c true rs e g = at_once s can ss (e ∙ g)
    by_end m c false rs e g =
        let next = ran_to s (patrolled c false rs) in
        let (ts, run, parts) = went_on rs (run_of (n - f) next) 0 true ss g in
        rw parts (later s can c rs ts e (shorter next (still_runs s f can _ e) (n - f) (omega arith) ts run))

    after_first : f < n → (o : Option Patrolled) → run_of f s ≡ o
        → onward (n - f) s.words (s.heap.bytes - 8) o ≡ Some (patrolled 0 true ss)
        → FullPatrol ours f s (ran_to s (patrolled 0 true ss))
    after_first m None e g = absurd (none-some _ g)
    after_first m (Some r) e g = by_end m r.place r.ended r.stores e g

    in_runs : run_of n s ≡ Some (patrolled 0 true ss) → FullPatrol ours f s (ran_to s (patrolled 0 true ss))
    in_runs q = go (dec_lt f n)
      where
        go : Dec (f < n) → FullPatrol ours f s (ran_to s (patrolled 0 true ss))
        go (yes m) =
            let whole : f + (n - f) ≡ n = omega arith in
            after_first m (run_of f s) refl
            (sym (run_parts f (n - f) s.words (s.heap.bytes - 8) s.heap.patrol.0) ∙ rw whole q)
        go (no m) = at_once s can ss (enough s n ss (omega arith) q)

  -- the first argument counts down
  full_in : (k : ℕ) (s : State) → CanRun s → (n : ℕ) → n ≤ k → (ss : List Store) → run_of n s ≡ Some (patrolled 0 true ss)
      → FullPatrol ours f s (ran_to s (patrolled 0 true ss))
  full_in zero s can n b ss q = at_once s can ss (enough s n ss (omega arith) q)
  full_in (suc k) s can n b ss q = in_runs s can n ss (λ next c m d ts r. full_in k next c m (omega arith) ts r) q

  pub run_full : {s t : State} → OneRun s t → FullPatrol ours f s t
  run_full {s} {t} o =
      subst (FullPatrol ours f s) (sym o.leaves) (full_in o.chunks s o.ready o.chunks (omega arith) o.stores o.run)
