-- No call reads or writes an odd last word of the region (`odd`). Assumes nothing.
use mathlib.Core.Path.{◌≡◌, refl, sym, ap, ap₂, ◌∙◌}
use mathlib.Core.Bool.{Bool, true, false, not, cond, ◌&&◌}
use mathlib.Core.List.Memᴰ
use mathlib.Core.List.{List, [], ◌∷◌}
use Rattle.std.specs.Prelude.{Option}
use Prim.Native.Nat.{ℕ, zero, suc, ◌+◌, ◌-◌, ◌*◌, ◌/◌, ◌≤◌, ◌<◌}
use native.Mathlib.Omega.{arith}
use lib.Dec.{eqb, ltb}
use lib.ListN.{length, get_or, take, drop}
use lib.Seq.{get_or-take, length-take-le, take_at, drop_at}
use Rattle.lists.specs.Lists.{head_or, keep}
use Rattle.lists.proofs.ListsLaws.{same_test}
use Rattle.lists.proofs.MembersLaws.{kept_from}
use Rattle.record.specs.declared.answers.Answer.TheVariants.{Done, Counted, Refused}
use Rattle.record.specs.declared.answers.Refusal.TheVariants.{HeapFails, RunSize, BeyondMending}
use Rattle.record.specs.declared.heap.Heap.{Heap}
use Rattle.record.specs.Heap.{with_merge}
use Rattle.region.specs.Words.{Store, put, word, written}
use Rattle.region.proofs.WordsLaws.{length_written}
use Rattle.region.proofs.PrefixLaws.{Below, written_prefix}
use Rattle.rules.specs.Shape.{Entry, shape, chunk_end}
use Rattle.rules.specs.Kinds.{overhead, block_of, block_words, outside, holds_block}
use Rattle.rules.specs.Check.{Fits, fits, Passes, passes, counts_of}
use Rattle.rules.specs.Draft.{Draft, as_read}
use Rattle.rules.specs.Serve.{need}
use Rattle.rules.specs.Outcome.{Outcome, judged, unchanged}
use Rattle.rules.specs.Setup.{setup}
use Rattle.rules.specs.Allocate.{grant, as_found, cleared, allocate_with, allocate, allocate_cleared, allocate_refusals, allocated}
use Rattle.rules.specs.Free.{block_spot, free, free_refusals, freed}
use Rattle.rules.specs.Reallocate.{copied, resized, resize, reallocate, resize_refusals, resized_to}
use Rattle.rules.specs.Merge.{set_merge, checked, check}
use Rattle.rules.specs.Ask.{ask_chunk, ask_bin, chunk_answers, asked_spot, is_there, bin_answers, ask_refusals, asked}
use Rattle.rules.specs.Patrol.{Patrolled, placed, patrol_run, is_lost, ran, patrol}
use Rattle.rules.specs.Calls.{Call, Setup, Allocate, AllocateCleared, Free, Reallocate, SetMerge, Check, AskChunk, AskBin, Patrol, step}
use Rattle.rules.proofs.CheckLaws.{passes_iff}
use Rattle.rules.proofs.EvenLaws.{Agree, same_passes, same_read}
use Rattle.rules.proofs.SpotLaws.{inside}
use Rattle.rules.proofs.PatrolRun.{run_alike}
use Rattle.rules.proofs.PatrolReady.{Ready, ready_iff, end_is}
use Rattle.drafts.proofs.FillLaws.{fill_from}
use Rattle.promises.specs.Ways.{ours}
use Rattle.promises.specs.Odd.{even_words, odd_word, AlikeButOdd, Odd}
use Rattle.promises.proofs.InsideLaws.{stores_below}

-- the stores of two copies of the same words are equal
copied_same : (c : ℕ) (f g : ℕ → ℕ) (n i : ℕ) → ((k : ℕ) → i ≤ k → k < i + n → f k ≡ g k)
    → fill_from c i f n ≡ fill_from c i g n
copied_same c f g zero i e = refl
copied_same c f g (suc n) i e =
    ap₂ (λ (v : ℕ) (ss : List Store). put c i v ∷ ss) (e i (omega arith) (omega arith)) (copied_same c f g n (suc i) (λ k lo hi. e k (omega arith) (omega arith)))

-- the chunk of the block at b ends inside the heap; so does `outside`, which stands in if there is none
here_ends : (ws : List ℕ) (h : Heap) → Passes ws h → (b : ℕ) → chunk_end (block_spot (as_read ws h) b).here ≤ h.bytes
unfolding as_read
here_ends ws h p b = go (keep (holds_block h b) (shape ws h.bytes)) refl
  where
    go : (ks : List Entry) → keep (holds_block h b) (shape ws h.bytes) ≡ ks → chunk_end (head_or outside ks) ≤ h.bytes
    go [] q = omega arith
    go (k ∷ ks) q = (inside ws h p k (kept_from (holds_block h b) (shape ws h.bytes) (rw q (Memᴰ.head refl))).0).ends

-- two regions that differ at most in an odd last word
alike_back : (us vs : List ℕ) → AlikeButOdd us vs → AlikeButOdd vs us
alike_back us vs a = record { length = sym a.length; words = sym a.words }

fits_alike : (us vs : List ℕ) (h : Heap) → AlikeButOdd us vs → Fits us h → Fits vs h
fits_alike us vs h a f =
    record { enough = omega arith; not_too_many = omega arith; bytes = f.bytes ∙ omega arith }

agrees : (us vs : List ℕ) (h : Heap) → AlikeButOdd us vs → Fits us h → Agree (h.bytes / 4) us vs
agrees us vs h a f i l =
    sym (get_or-take (length us / 2 * 2) us i 0 (omega arith))
    ∙ ap (λ (w : List ℕ). get_or w i 0) a.words
    ∙ get_or-take (length vs / 2 * 2) vs i 0 (omega arith)

passes_alike : (us vs : List ℕ) (h : Heap) → AlikeButOdd us vs → Passes us h → Passes vs h
passes_alike us vs h a p = same_passes us vs h (agrees us vs h a p.fits) p (fits_alike us vs h a p.fits)

module _ (us vs : List ℕ) (h : Heap) (a : AlikeButOdd us vs) where
  test_same : passes us h ≡ passes vs h
  test_same = same_test (passes_iff us h) (passes_iff vs h) (passes_alike us vs h a) (passes_alike vs us h (alike_back us vs a))

  -- if they pass, they are read alike
  read_same : passes us h ≡ true → as_read us h ≡ as_read vs h
  read_same q = let p = (passes_iff us h).0 q in sym (same_read us vs h (agrees us vs h a p.fits) p)

  -- every word of the heap bytes is the same
  word_alike : Passes us h → (c k : ℕ) → c / 4 + k < h.bytes / 4 → word us c k ≡ word vs c k
  unfolding word
  word_alike p c k l = agrees us vs h a p.fits (c / 4 + k) l

  -- an outcome F of the check and the reading is the same on both: they fail alike, or are read alike
  module _ (F : Bool → Draft → Outcome) (fails : (d e : Draft) → F false d ≡ F false e) where
    by_reading : F (passes us h) (as_read us h) ≡ F (passes vs h) (as_read vs h)
    by_reading = go (passes us h) refl
      where
        go : (t : Bool) → passes us h ≡ t → F (passes us h) (as_read us h) ≡ F (passes vs h) (as_read vs h)
        go true q = rw (read_same q, test_same) refl
        go false q = rw (← test_same, q) (fails (as_read us h) (as_read vs h))

  -- each call has the same outcome on both
  with_same : (fill : Entry → List Store) (z : ℕ) → allocate_with fill us h z ≡ allocate_with fill vs h z
  with_same fill z = by_reading (λ t d. judged h (allocate_refusals (not t, HeapFails) d z) (allocated fill d z)) (λ d e. refl)

  allocate_same : (z : ℕ) → allocate us h z ≡ allocate vs h z
  unfolding allocate
  allocate_same z = with_same as_found z

  cleared_same : (count size : ℕ) → allocate_cleared us h count size ≡ allocate_cleared vs h count size
  unfolding allocate_cleared
  cleared_same count size = with_same cleared (count * size)

  free_same : (b : ℕ) → free us h b ≡ free vs h b
  unfolding free
  free_same b = by_reading (λ t d. judged h (free_refusals (not t, HeapFails) d b) (freed d b)) (λ d e. refl)

  -- a moved block is copied from the same words
  resized_same : Passes us h → (b n : ℕ) → let d = as_read us h in resized us (block_spot d b) n d ≡ resized vs (block_spot d b) n d
  unfolding resized
  resized_same p b n =
      let d = as_read us h in
      let old = (block_spot d b).here in
      let e = here_ends us h p b in
      let same : (new : Entry) → copied us old new ≡ copied vs old new =
      λ new. copied_same (block_of new) _ _ (block_words old) 0 (λ k lo hi. word_alike p (block_of old) k (omega arith)) in
      rw (same (grant n d).granted)

  resize_same : (b z : ℕ) → resize us h b z ≡ resize vs h b z
  unfolding resize
  resize_same b z = go (passes us h) refl ∙ by_reading (by vs) (λ d e. refl)
    where
      by : List ℕ → Bool → Draft → Outcome
      by ws t d = judged h (resize_refusals (not t, HeapFails) d b z) (resized_to ws d b z)

      go : (t : Bool) → passes us h ≡ t → by us (passes us h) (as_read us h) ≡ by vs (passes us h) (as_read us h)
      go true q = rw (resized_same ((passes_iff us h).0 q) b (need overhead z))
      go false q = rw q

  reallocate_same : (b z : ℕ) → reallocate us h b z ≡ reallocate vs h b z
  unfolding reallocate
  reallocate_same b z = ap₂ (cond (eqb b 0)) (allocate_same z) (resize_same b z)

  merge_same : (on : Bool) → set_merge us h on ≡ set_merge vs h on
  unfolding set_merge
  merge_same on = by_reading (λ t d. judged h ((not t, HeapFails) ∷ []) (unchanged (with_merge h on) Done)) (λ d e. refl)

  check_same : check us h ≡ check vs h
  unfolding check checked as_read
  check_same = by_reading (λ t d. unchanged h (cond t (Counted (counts_of h d.chain)) (Refused HeapFails))) (λ d e. refl)

  chunk_same : (q p : ℕ) → ask_chunk us h q p ≡ ask_chunk vs h q p
  unfolding ask_chunk
  chunk_same q p =
      by_reading
      (λ t d.
      let answers = chunk_answers d (asked_spot d q p) in
      judged h (ask_refusals (not t, HeapFails) q answers (is_there d q p)) (asked h q answers))
      (λ d e. refl)

  bin_same : (q i : ℕ) → ask_bin us h q i ≡ ask_bin vs h q i
  unfolding ask_bin
  bin_same q i =
      by_reading
      (λ t d.
      let answers = bin_answers (d.lists i) in
      judged h (ask_refusals (not t, HeapFails) q answers (ltb i h.bins)) (asked h q answers))
      (λ d e. refl)

  setup_same : (table : List ℕ) (donor : ℕ) (merge : Bool) → setup us table donor merge ≡ setup vs table donor merge
  unfolding setup
  setup_same table donor merge = rw a.length

  -- a run of the patrol that can be made looks at words of the heap bytes alone
  run_same : Ready us h → (f : ℕ) → patrol_run us h f ≡ patrol_run vs h f
  unfolding patrol_run
  run_same r f =
      let e = end_is us h r.fits in
      run_alike (h.bytes - 8) e.eights vs us (λ i l. agrees us vs h a r.fits i (omega arith)) f h.patrol.0 r.eights (omega arith)

  patrol_same : (f : ℕ) → patrol us h f ≡ patrol vs h f
  unfolding patrol
  patrol_same f = rw (← a.length) (go (fits us h && placed h) refl)
    where
      by : Bool → Option Patrolled → Outcome
      by t o = judged h ((eqb f 0, RunSize) ∷ (not t, HeapFails) ∷ (is_lost o, BeyondMending) ∷ []) (ran h o)

      go : (t : Bool) → (fits us h && placed h) ≡ t
          → by (fits us h && placed h) (patrol_run us h f) ≡ by (fits us h && placed h) (patrol_run vs h f)
      go true q = rw (run_same ((ready_iff us h).0 q) f)
      go false q = rw q

  step_same : (call : Call) → step call us h ≡ step call vs h
  unfolding step
  step_same (Setup table donor merge) = setup_same table donor merge
  step_same (Allocate z) = allocate_same z
  step_same (AllocateCleared count size) = cleared_same count size
  step_same (Free b) = free_same b
  step_same (Reallocate b z) = reallocate_same b z
  step_same (SetMerge on) = merge_same on
  step_same Check = check_same
  step_same (AskChunk q p) = chunk_same q p
  step_same (AskBin q i) = bin_same q i
  step_same (Patrol f) = patrol_same f

-- a region after stores below its odd last word
module _ (ws : List ℕ) (ss : List Store) (b : Below (length ws / 2 * 2) ss) where
  -- the number of words without it
  abbrev even : ℕ
  even = length ws / 2 * 2

  prefix_length : length (written (take even ws) ss) ≡ even
  prefix_length = length_written ss (take even ws) ∙ length-take-le even ws (omega arith)

  even_written : even_words (written ws ss) ≡ written (even_words ws) ss
  even_written =
      rw (length_written ss ws, ← written_prefix even ss ws b)
      (take_at (written (take even ws) ss) (drop even ws) even prefix_length)

  odd_written : odd_word (written ws ss) ≡ odd_word ws
  odd_written =
      rw (length_written ss ws, ← written_prefix even ss ws b)
      (drop_at (written (take even ws) ss) (drop even ws) even prefix_length)

-- the two regions differ at most in the odd word afterwards
words_alike : (call : Call) (h : Heap) (us vs : List ℕ) → AlikeButOdd us vs → AlikeButOdd (ours call us h).words (ours call vs h).words
unfolding ours
words_alike call h us vs a =
    let s = (step call us h).stores in
    let t = (step call vs h).stores in
    record {
      length = length_written s us ∙ a.length ∙ sym (length_written t vs);
      words =
          even_written us s (stores_below us h call)
          ∙ ap₂ written a.words (ap (λ (o : Outcome). o.stores) (step_same us vs h a call))
          ∙ sym (even_written vs t (stores_below vs h call));
    }

pub odd : Odd ours
unfolding ours
odd =
    record {
      answer = λ call h us vs a. ap (λ (o : Outcome). o.answer) (step_same us vs h a call);
      heap = λ call h us vs a. ap (λ (o : Outcome). o.heap) (step_same us vs h a call);
      words = words_alike;
      kept = λ call h ws. odd_written ws (step call ws h).stores (stores_below ws h call);
    }
