-- A run of f chunks is f runs of one, where all of those are accepted (`singly`). Assumes nothing.
use mathlib.Core.Path.{◌≡◌, sym, ap, subst, ◌∙◌}
use mathlib.Core.Bool.{true, false}
use mathlib.Core.List.{◌++◌}
use Rattle.std.specs.Prelude.{Some}
use Prim.Native.Nat.{ℕ, suc, ◌+◌, ◌-◌}
use native.Mathlib.Omega.{arith}
use Rattle.region.proofs.WordsLaws.{written_append}
use Rattle.rules.specs.Patrol.{patrolled, goes_on, patrol_run}
use Rattle.rules.specs.Statements.{Left}
use Rattle.rules.specs.Calls.{Patrol, State}
use Rattle.rules.proofs.PatrolParts.{run_then, run_more}
use Rattle.rules.proofs.PatrolReady.{Ran}
use Rattle.promises.specs.Ways.{ours}
use Rattle.promises.specs.Kept.{after}
use Rattle.promises.specs.Singly.{OneByOne, at_the_end, last_one, further_one, leaves, Singly}
use Rattle.promises.proofs.PatrolLaws.{run_of, ran_to, left_is, after_is, was_run, ToEnd, ShortOfEnd, was_to_end, was_short}

-- a run of one chunk that handled the end chunk is a longer run too
one_over : (f : ℕ) (s : State) → ToEnd s 1 → ours (Patrol (suc f)) s.words s.heap ≡ leaves 1 (after ours (Patrol 1) s)
one_over f s q =
    let more : suc f ≡ 1 + f = omega arith in
    let run : run_of (suc f) s ≡ Some (patrolled 0 true q.stores) =
    rw more (run_more 1 f s.words (s.heap.bytes - 8) s.heap.patrol.0 0 q.stores q.run) in
    left_is s (suc f) q.ready (omega arith) _ run ∙ ap (leaves 1) (sym (after_is s 1 q.ready q.asked _ q.run))

one_alone : (s : State) → ShortOfEnd s 1 → ours (Patrol 1) s.words s.heap ≡ leaves 0 (after ours (Patrol 1) s)
one_alone s q = left_is s 1 q.ready q.asked _ q.run ∙ ap (leaves 0) (sym (after_is s 1 q.ready q.asked _ q.run))

-- a run of one chunk that did not handle it, and one of f after it
module _ (s : State) (q : ShortOfEnd s 1) where
  abbrev next : State
  next = ran_to s (patrolled q.place false q.stores)

  same_next_lem : (f value : ℕ) → Ran next.words next.heap f value → ours (Patrol (suc f)) s.words s.heap ≡ ours (Patrol f) next.words next.heap
  unfolding patrol_run
  same_next_lem f value r =
      let more : suc f ≡ 1 + f = omega arith in
      let t = r.run in
      let run : run_of (suc f) s ≡ Some (patrolled t.place t.ended (q.stores ++ t.stores)) =
      rw more (run_then 1 f s.words (s.heap.bytes - 8) s.heap.patrol.0 q.place q.stores q.run ∙ ap (goes_on q.stores) r.found) in
      left_is s (suc f) q.ready (omega arith) _ run
      ∙ rw (written_append q.stores t.stores s.words) (sym (left_is next f r.ready r.asked t r.found))

  one_then : (f value : ℕ) (t : State)
      → ours (Patrol f) (after ours (Patrol 1) s).words (after ours (Patrol 1) s).heap ≡ leaves value t
      → ours (Patrol (suc f)) s.words s.heap ≡ leaves value t
  one_then f value t rest =
      let rested : ours (Patrol f) next.words next.heap ≡ leaves value t =
      subst (λ (x : State). ours (Patrol f) x.words x.heap ≡ leaves value t) (after_is s 1 q.ready q.asked _ q.run) rest in
      same_next_lem f value (was_run next f value (ap (λ (x : Left). x.answer) rested)) ∙ rested

pub singly : Singly ours
singly f value s t o = go o
  where
    go : {f value : ℕ} {s t : State} → OneByOne ours f s value t → ours (Patrol f) s.words s.heap ≡ leaves value t
    go (at_the_end {f = f} {s = s} q) = one_over f s (was_to_end s 1 q)
    go (last_one {s = s} q) = one_alone s (was_short s 1 q)
    go (further_one {f = f} {value = v} {s = s} {t = t} q rest) = one_then s (was_short s 1 q) f v t (go rest)
