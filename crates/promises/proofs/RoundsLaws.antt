-- On a heap that passes a run of the patrol writes nothing and goes on by exactly the chunks that it was asked for (`rounds`). Assumes nothing.
use mathlib.Core.Path.{◌≡◌, refl, sym, ap, ◌∙◌}
use mathlib.Core.Bool.{true, false}
use mathlib.Core.List.{List, [], ◌∷◌, ◌++◌}
use Rattle.std.specs.Prelude.{Option, Some, None}
use Prim.Native.Nat.{ℕ, zero, suc, ◌+◌, ◌*◌, ◌-◌, ◌≤◌, ◌<◌}
use native.Mathlib.Decide.{dec_lt}
use native.Mathlib.Nat.{add-zero, le-div_iff_mul-le, div-lt_iff_lt-mul}
use native.Mathlib.Omega.{arith}
use lib.ListN.{get_or, take, drop, get_or-map}
use lib.Seq.{split_at, drop-cons, drop-length}
use Rattle.lists.specs.Lists.{Mem, head_or}
use Rattle.lists.proofs.SplitLaws.{in_split}
use Rattle.record.specs.declared.answers.Answer.TheVariants.{Told}
use Rattle.record.specs.Heap.{with_patrol}
use Rattle.rules.specs.Shape.{Entry, shape}
use Rattle.rules.specs.Kinds.{outside}
use Rattle.rules.specs.Patrol.{Patrolled, patrolled, patrol_from}
use Rattle.rules.specs.Statements.{Left}
use Rattle.rules.specs.Calls.{Patrol, State}
use Rattle.rules.proofs.SpotLaws.{NextIs, inside, tiled_at, next_is, ends}
use Rattle.rules.proofs.PatrolSound.{chunk_next, run_steps, run_last}
use Rattle.promises.specs.Ways.{Way, ours}
use Rattle.promises.specs.Kept.{Passing, after}
use Rattle.promises.specs.Rounds.{chunks_in, place_of, moved_to, RoundsAt, after_runs, run_answer, runs_for, Rounds}
use Rattle.promises.proofs.PatrolLaws.{CanRun, left_is, after_is}

-- runs, and one more
one_more : (way : Way) (f n : ℕ) (s : State) → after_runs way f n (after way (Patrol f) s) ≡ after way (Patrol f) (after_runs way f n s)
one_more way f zero s = refl
one_more way f (suc n) s = one_more way f n (after way (Patrol f) s)

-- the chain by numbers
module _ (s : State) (p : Passing s) where
  abbrev es : List Entry
  es = shape s.words s.heap.bytes

  -- chunk number i
  abbrev chunk : ℕ → Entry
  chunk i = get_or es i outside

  place_is : (i : ℕ) → place_of s i ≡ (chunk i).place
  place_is i = get_or-map (λ (e : Entry). e.place) es i outside

  chunk_in : (i : ℕ) → i < chunks_in s → Mem (chunk i) es
  chunk_in i l = in_split (take i es) (chunk i) (drop (suc i) es) (split_at es i outside l)

  -- it leads to the next one
  leads : (i : ℕ) → suc i < chunks_in s → NextIs s.words (chunk i) (chunk (suc i))
  leads i l =
      next_is s.words s.heap p (take i es) (chunk i) (chunk (suc i)) (drop (suc (suc i)) es)
      (split_at es i outside (omega arith) ∙ ap (λ (ds : List Entry). take i es ++ chunk i ∷ ds) (drop-cons es (suc i) outside l))

  below : (i : ℕ) → suc i < chunks_in s → (chunk i).place + 8 < s.heap.bytes
  below i l =
      let n = leads i l in
      let here = inside s.words s.heap p (chunk i) (chunk_in i (omega arith)) in
      let there = inside s.words s.heap p (chunk (suc i)) (chunk_in (suc i) l) in
      omega arith

  -- the last one is the end chunk
  last_one_lem : (i : ℕ) → suc i ≡ chunks_in s → (chunk i).place + 8 < s.heap.bytes → ⊥
  last_one_lem i q l =
      let m = chunk_in i (omega arith) in
      let none : drop (suc i) es ≡ [] = rw q (drop-length es) in
      let split = split_at es i outside (omega arith) ∙ ap (λ (ds : List Entry). take i es ++ chunk i ∷ ds) none in
      let t = (tiled_at s.words s.heap p (take i es) (chunk i) [] split).above in
      let n = chunk_next s.words s.heap p (chunk i) m l in
      omega arith

  -- a run from chunk i
  abbrev run_from : ℕ → ℕ → Option Patrolled
  run_from f i = patrol_from f s.words (s.heap.bytes - 8) (chunk i).place

  goes_on_lem : (f i : ℕ) → i + f < chunks_in s → run_from f i ≡ Some (patrolled (chunk (i + f)).place false [])
  goes_on_lem zero i l = rw (add-zero i)
  goes_on_lem (suc f) i l =
      let n = leads i (omega arith) in
      let more : i + suc f ≡ suc i + f = omega arith in
      run_steps s.words s.heap p (chunk i) (chunk_in i (omega arith)) (below i (omega arith)) f
      ∙ rw (← n.place, more) (goes_on_lem f (suc i) (omega arith))

  goes_round : (f i : ℕ) → i < chunks_in s → chunks_in s ≤ i + f → run_from f i ≡ Some (patrolled 0 true [])
  goes_round zero i l m = absurd (omega arith)
  goes_round (suc f) i l m = go (dec_lt (suc i) (chunks_in s)) (λ k. goes_round f (suc i) k (omega arith))
    where
      go : Dec (suc i < chunks_in s) → (suc i < chunks_in s → run_from f (suc i) ≡ Some (patrolled 0 true []))
          → run_from (suc f) i ≡ Some (patrolled 0 true [])
      go (yes k) g =
          let n = leads i k in
          run_steps s.words s.heap p (chunk i) (chunk_in i l) (below i k) f ∙ rw (← n.place) (g k)
      go (no k) g = run_last s.words s.heap p (chunk i) (chunk_in i l) (last_one_lem i (omega arith)) f

  -- the same state with the patrol at another place; with it at chunk i a run can be made
  abbrev moved : ℕ → State
  moved c = record { words = s.words; heap = with_patrol s.heap c }

  can_run : (i : ℕ) → i < chunks_in s → CanRun (moved (chunk i).place)
  can_run i l =
      let here = inside s.words s.heap p (chunk i) (chunk_in i l) in
      let f = p.fits in
      record {
        fits = record { enough = f.enough; not_too_many = f.not_too_many; bytes = f.bytes };
        eights = here.place;
        inside = omega arith;
      }

  run_onward : (f i : ℕ) → 0 < f → i + f < chunks_in s
      → ours (Patrol f) s.words (with_patrol s.heap (chunk i).place) ≡ moved_to s 0 (chunk (i + f)).place
  run_onward f i l m = left_is (moved (chunk i).place) f (can_run i (omega arith)) l _ (goes_on_lem f i m)

  run_around : (f i : ℕ) → 0 < f → i < chunks_in s → chunks_in s ≤ i + f
      → ours (Patrol f) s.words (with_patrol s.heap (chunk i).place) ≡ moved_to s 1 0
  run_around f i l m k = left_is (moved (chunk i).place) f (can_run i m) l _ (goes_round f i m k)

  -- the state after runs of f chunks each, from chunk i
  after_runs_lem : (f n i : ℕ) → 0 < f → i + n * f < chunks_in s → after_runs ours f n (moved (chunk i).place) ≡ moved (chunk (i + n * f)).place
  after_runs_lem f zero i l m = let none : i + 0 * f ≡ i = omega arith in rw none
  after_runs_lem f (suc n) i l m =
      let more : i + suc n * f ≡ i + f + n * f = omega arith in
      ap (after_runs ours f n) (after_is (moved (chunk i).place) f (can_run i (omega arith)) l _ (goes_on_lem f i (omega arith)))
      ∙ rw more (after_runs_lem f n (i + f) l (omega arith))

  each : RoundsAt ours s
  each =
      record {
        onward = λ f i l q m.
            ap (ours (Patrol f) s.words) (ap (with_patrol s.heap) (q ∙ place_is i))
            ∙ run_onward f i l m
            ∙ ap (moved_to s 0) (sym (place_is (i + f)));
        around = λ f i l q m k.
            ap (ours (Patrol f) s.words) (ap (with_patrol s.heap) (q ∙ place_is i)) ∙ run_around f i l m k;
      }

  -- the patrol is at the start, the first chunk's place
  module _ (start : s.heap.patrol.0 ≡ 0) (f n : ℕ) (l : 0 < f) where
    first_place : (chunk 0).place ≡ 0
    first_place = ap (λ (e : Entry). e.place) (first_at es) ∙ (ends s.words s.heap p).start_place
      where
        first_at : (ds : List Entry) → get_or ds 0 outside ≡ head_or outside ds
        first_at [] = refl
        first_at (d ∷ ds) = refl

    here : s ≡ moved (chunk 0).place
    here = ap moved (start ∙ sym first_place)

    -- after n runs it is at chunk n * f
    runs_made : n * f < chunks_in s → after_runs ours f n s ≡ moved (chunk (n * f)).place
    runs_made m =
        let sum : 0 + n * f ≡ n * f = omega arith in
        ap (after_runs ours f n) here ∙ rw sum at (after_runs_lem f n 0 l (omega arith))

    -- what the next run answers
    answers : n * f < chunks_in s → run_answer ours f n s ≡ (ours (Patrol f) s.words (with_patrol s.heap (chunk (n * f)).place)).answer
    answers m = ap (λ (t : State). (ours (Patrol f) t.words t.heap).answer) (runs_made m)

    not_yet : suc n < runs_for (chunks_in s) f → run_answer ours f n s ≡ Told (Some 0)
    not_yet m =
        let many = (le-div_iff_mul-le {k = f} {x = suc (suc n)} {y = chunks_in s + (f - 1)} l).0 m in
        answers (omega arith) ∙ ap (λ (x : Left). x.answer) (run_onward f (n * f) l (omega arith))

    the_last : suc n ≡ runs_for (chunks_in s) f → (run_answer ours f n s ≡ Told (Some 1)) × (after_runs ours f (suc n) s ≡ s)
    the_last q =
        let many = (le-div_iff_mul-le {k = f} {x = suc n} {y = chunks_in s + (f - 1)} l).0 (omega arith) in
        let few = (div-lt_iff_lt-mul {k = f} {x = chunks_in s + (f - 1)} {y = suc (suc n)} l).0 (omega arith) in
        let inside : n * f < chunks_in s = omega arith in
        let over : chunks_in s ≤ n * f + f = omega arith in (
          answers inside ∙ ap (λ (x : Left). x.answer) (run_around f (n * f) l inside over),
          one_more ours f n s
              ∙ ap (after ours (Patrol f)) (runs_made inside)
              ∙ after_is (moved (chunk (n * f)).place) f (can_run (n * f) inside) l _ (goes_round f (n * f) inside over)
              ∙ ap moved (sym start),
        )

pub rounds : Rounds ours
rounds = record { each = each; before = not_yet; last = the_last }
