-- A run of the patrol on a heap that passes: at each chunk the link is believed and nothing is to be mended (`chunk_right`), so a run
-- writes nothing and goes from chunk to chunk (`run_quiet`; chunk by chunk `run_steps`, `run_last`). Assumes nothing.
use mathlib.Core.Path.{◌≡◌, refl, sym, ap, subst, ◌∙◌}
use mathlib.Core.Bool.{Bool, true, false}
use mathlib.Core.List.{List, [], ◌∷◌, ◌++◌}
use Rattle.std.specs.Prelude.{Option, Some}
use Prim.Native.Nat.{ℕ, zero, suc, ◌+◌, ◌-◌, ◌%◌, ◌≤◌, ◌<◌}
use native.Mathlib.Decide.{ℕ_discrete, dec_lt}
use native.Mathlib.Omega.{arith}
use lib.ListN.{drop}
use borrow.Author.Tests.{eqb-false}
use Rattle.lists.specs.Lists.{Mem, head_or, last_or, but_last}
use Rattle.lists.proofs.SplitLaws.{in_split, split_second, split_before}
use Rattle.record.specs.declared.answers.Refusal.{Refusal}
use Rattle.record.specs.declared.heap.Heap.{Heap}
use Rattle.region.specs.Words.{word, backward}
use Rattle.rules.specs.Shape.{Entry, entry, shape, chunk_end}
use Rattle.rules.specs.Kinds.{in_use, is_at, outside}
use Rattle.rules.specs.Check.{Backed, Passes}
use Rattle.rules.specs.Draft.{spot}
use Rattle.rules.specs.Outcome.{Outcome, refused}
use Rattle.rules.specs.Patrol.{least_size, Patrolled, patrolled, patrol_from, patrol_run, patrol_refusals, ran, patrol}
use Rattle.rules.proofs.SpotLaws.{NextIs, one_chunk, bounds, inside, tiled_at, next_is, ends, between, spot_at}
use Rattle.rules.proofs.TiledLaws.{tiled_empty}
use Rattle.rules.proofs.OutcomeLaws.{judged_so}
use Rattle.rules.proofs.PatrolSeek.{NextPlace, least_above}
use Rattle.rules.proofs.PatrolMends.{Right}
use Rattle.rules.proofs.PatrolRun.{run_ends}
use Rattle.rules.proofs.PatrolParts.{run_right}

-- the flags of a chunk that is not in use
not_in_use : (p s f : ℕ) → in_use (entry p s f) ≡ false → f ≤ 1 → f ≡ 0
unfolding in_use
not_in_use p s f q l = let n = eqb-false (f % 2) 1 q in omega arith

module _ (ws : List ℕ) (h : Heap) (p : Passes ws h) where
  abbrev es : List Entry
  es = shape ws h.bytes

  -- the place of the end chunk
  abbrev end : ℕ
  end = h.bytes - 8

  -- the chunk at 0 is the start
  start_is : (e : Entry) → Mem e es → e.place ≡ 0 → e ≡ head_or outside es
  start_is e m z = let l = ends ws h p in one_chunk ws h p e (head_or outside es) m l.start (z ∙ sym l.start_place)

  first_back : (ds : List Entry) → Backed ws 0 ds → ds ≡ head_or outside ds ∷ drop 1 ds
      → word ws (head_or outside ds).place backward ≡ (head_or outside ds).flags
  first_back ds b q = let (back, _) = rw q at b in back ∙ omega arith

  start_back : (e : Entry) → Mem e es → e.place ≡ 0 → word ws e.place backward ≡ e.flags
  start_back e m z = rw (start_is e m z) (first_back es p.backward (ends ws h p).begins)

  -- a chunk below the end leads to the next one, which is not above the end
  pub chunk_next : (e : Entry) → Mem e es → e.place + 8 < h.bytes → NextPlace end e.place (chunk_end e)
  chunk_next e m l =
      let i = inside ws h p e m in
      record { eights = omega arith; room = (go (ℕ_discrete e.place 0)).0; inside = let k = (go (ℕ_discrete e.place 0)).1 in omega arith }
    where
      go : Dec (e.place ≡ 0) → (e.place + least_size e.place ≤ chunk_end e) × (chunk_end e + 8 ≤ h.bytes)
      go (yes z) =
          let s = ap (λ (x : Entry). x.size) (start_is e m z) ∙ (ends ws h p).start_size in
          let b = bounds ws h p in
          rw z (omega arith, omega arith)
      go (no n) =
          let b = between ws h p e m (omega arith) l in
          let f = least_above e.place (omega arith) in
          (omega arith, b.below)

  -- the chunk above a chunk below the end
  pub above_it : (e : Entry) → Mem e es → e.place + 8 < h.bytes → (d : Entry) × Mem d es × NextIs ws e d
  above_it e m l =
      let s = spot_at ws h p e.place e m refl in
      go (spot (is_at e.place) es).low (spot (is_at e.place) es).high s.split
    where
      go : (low high : List Entry) → es ≡ low ++ e ∷ high → (d : Entry) × Mem d es × NextIs ws e d
      go low [] q = let t = (tiled_at ws h p low e [] q).above in let n = chunk_next e m l in absurd (omega arith)
      go low (d ∷ high) q =
          (d, in_split (low ++ e ∷ []) d high (split_second low e d high q), next_is ws h p low e d high q)

  -- the chunk below a chunk above the start
  pub below_it : (d : Entry) → Mem d es → 0 < d.place → (e : Entry) × Mem e es × NextIs ws e d
  below_it d m l =
      let s = spot_at ws h p d.place d m refl in
      go (spot (is_at d.place) es).low (spot (is_at d.place) es).high s.split
    where
      go : (low high : List Entry) → es ≡ low ++ d ∷ high → (e : Entry) × Mem e es × NextIs ws e d
      go low high q =
          let t = tiled_at ws h p low d high q in
          let filled : low ≡ [] → ⊥ = λ z. let k = tiled_empty 0 t.from low t.below z in omega arith in
          let e = last_or outside low in
          let split = split_before outside low d high filled q in
          (e, in_split (but_last low) e (d ∷ high) split, next_is ws h p (but_last low) e d high split)

  pub chunk_right : (e : Entry) → Mem e es → e.place + 8 < h.bytes → Right ws e.place (chunk_end e)
  chunk_right e m l =
      let (d, k, n) = above_it e m l in
      let here = inside ws h p e m in
      let there = inside ws h p d k in
      record {
        link = n.forth ∙ n.place;
        back = rw (← n.place, ← there.stands) n.back;
        start = λ z. start_back e m z ∙ here.stands;
        sized = λ (_, free).
            let f : e.flags ≡ 0 = not_in_use e.place (chunk_end e - e.place) e.flags (rw here.stands free) here.flags in
            (p.chunks e m).sized f ∙ omega arith;
      }

  -- the last chunk is the end chunk
  pub chunk_last : (e : Entry) → Mem e es → (e.place + 8 < h.bytes → ⊥) → e.place ≡ end
  chunk_last e m n = let i = inside ws h p e m in omega arith

  -- one chunk of a run: the next one, or the end
  pub run_steps : (e : Entry) → Mem e es → e.place + 8 < h.bytes → (f : ℕ)
      → patrol_from (suc f) ws end e.place ≡ patrol_from f ws end (chunk_end e)
  run_steps e m l f = run_right ws end e.place (chunk_end e) (chunk_next e m l) (chunk_right e m l) f

  pub run_last : (e : Entry) → Mem e es → (e.place + 8 < h.bytes → ⊥) → (f : ℕ)
      → patrol_from (suc f) ws end e.place ≡ Some (patrolled 0 true [])
  run_last e m n f = run_ends ws end e.place f (chunk_last e m n)

  -- a run from a chunk writes nothing, and its next place is a chunk's
  pub record Quiet (f c : ℕ) : Type 0 where
    pub place : ℕ
    pub ended : Bool
    pub run : patrol_from f ws end c ≡ Some (patrolled place ended [])
    pub chunk : (e : Entry) × Mem e es × (e.place ≡ place)

  pub run_quiet : (f : ℕ) (e : Entry) → Mem e es → Quiet f e.place
  run_quiet zero e m = record { place = e.place; ended = false; run = refl; chunk = (e, m, refl) }
  run_quiet (suc f) e m = go (dec_lt (e.place + 8) h.bytes) (λ d k. run_quiet f d k)
    where
      go : Dec (e.place + 8 < h.bytes) → ((d : Entry) → Mem d es → Quiet f d.place) → Quiet (suc f) e.place
      go (yes l) g =
          let (d, k, n) = above_it e m l in
          let q = g d k in
          record {
            place = q.place;
            ended = q.ended;
            run = run_steps e m l f ∙ rw (← n.place) q.run;
            chunk = q.chunk;
          }
      go (no n) g =
          let l = ends ws h p in
          record { place = 0; ended = true; run = run_last e m n f; chunk = (head_or outside es, l.start, l.start_place) }

  -- the run that the record asks for
  patrol_quiet : (f : ℕ) → Quiet f h.patrol.0
  patrol_quiet f = let (e, m, place) = p.patrol in subst (Quiet f) place (run_quiet f e m)

  -- P holds of the outcome of a run if it holds of every refusal, and of a run that moved the patrol's place to a chunk and wrote nothing
  pub patrol_so : (P : Outcome → Type 0) → ((r : Refusal) → P (refused h r))
      → ((c : ℕ) (ended : Bool) → ((e : Entry) × Mem e es × (e.place ≡ c)) → P (ran h (Some (patrolled c ended []))))
      → (f : ℕ) → P (patrol ws h f)
  unfolding patrol patrol_run
  patrol_so P refuses runs f =
      let q = patrol_quiet f in
      judged_so P h (ran h (patrol_run ws h f)) (patrol_refusals ws h f) refuses
      (λ _. subst (λ (o : Option Patrolled). P (ran h o)) (sym q.run) (runs q.place q.ended q.chunk))
