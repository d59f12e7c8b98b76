-- No call on any region writes an odd last word (`stores_below`): a refused call writes nothing, and on a heap that passes every store is
-- to a word of the heap bytes. Assumes nothing.
use Rattle.std.specs.Prelude.{is_none}
use mathlib.Core.Path.{◌≡◌, subst}
use mathlib.Core.Logic.{inl, inr}
use mathlib.Core.Bool.{Bool, true, false, not, cond, ◌&&◌, ◌||◌}
use mathlib.Core.List.{List, [], ◌∷◌}
use Prim.Native.Nat.{ℕ, ◌+◌, ◌/◌, ◌≤◌, ◌<◌, ◌*◌}
use native.Mathlib.Omega.{arith}
use lib.Dec.{ltb, eqb}
use lib.ListN.{length}
use borrow.Author.Tests.{lt-ltb, not-false}
use Rattle.record.specs.declared.heap.Heap.{Heap}
use Rattle.record.specs.declared.answers.Answer.{Answer}
use Rattle.record.specs.declared.answers.Answer.TheVariants.{Done}
use Rattle.record.specs.declared.answers.Refusal.TheVariants.{NotThere}
use Rattle.record.specs.Heap.{empty, with_merge}
use Rattle.region.specs.Words.{Store, word}
use Rattle.region.proofs.PrefixLaws.{Below, below_both}
use Rattle.region.proofs.WordsLaws.{fall_so, length_written}
use Rattle.rules.specs.Shape.{Entry, heap_bytes, chunk_end}
use Rattle.rules.specs.Kinds.{block_of, block_end, block_words, overhead}
use Rattle.rules.specs.Check.{Passes}
use Rattle.rules.specs.Draft.{Draft, Spot, as_read, also_writes}
use Rattle.rules.specs.Serve.{need}
use Rattle.rules.specs.Cut.{Grant}
use Rattle.rules.specs.Allocate.{source_of, grant, as_found, cleared, allocate_with, allocate, allocate_cleared, allocate_refusals, allocated}
use Rattle.rules.specs.Free.{is_live, block_spot, free_block, free, free_refusals, freed}
use Rattle.rules.specs.Reallocate.{moved, resized, resize, reallocate, resize_refusals, resized_to}
use Rattle.rules.specs.Outcome.{Outcome, Refusals, judged, heap_fails, unchanged}
use Rattle.rules.specs.Setup.{setup, first_headers, donor_fits, setup_refusals, opened}
use Rattle.rules.specs.Merge.{set_merge, check}
use Rattle.rules.specs.Ask.{ask_chunk, ask_bin, chunk_answers, asked_spot, is_asked, is_there, answer_to, bin_answers}
use Rattle.rules.specs.Calls.{Call, Setup, Allocate, AllocateCleared, Free, Reallocate, SetMerge, Check, AskChunk, AskBin, Patrol, step}
use Rattle.rules.proofs.SpotLaws.{inside}
use Rattle.rules.proofs.OutcomeLaws.{Failed, judged_so}
use Rattle.rules.proofs.SetupLaws.{first_below}
use Rattle.rules.proofs.PatrolReady.{patrol_below}
use Rattle.drafts.proofs.FillLaws.{Within, fill_from, filled_within}
use Rattle.drafts.proofs.SourceLaws.{Grantable, need_grantable}
use Rattle.drafts.proofs.GrantedChunk.{granted_words, granted_pictured, new_there}
use Rattle.drafts.proofs.GrantSpared.{grant_inside}
use Rattle.drafts.proofs.ReleaseSpared.{free_inside, shrink_inside}
use Rattle.drafts.proofs.WantedLaws.{block_moves, block_shrinks}
use Rattle.drafts.proofs.MovedLaws.{fits, copied_over, copied_words, copied_heap, copied_passes, still_live, moved_reread}
use Rattle.promises.proofs.ReasonLaws.{not_failing, Fitting, fitting_iff, length_in}
use Rattle.promises.proofs.ResizedLaws.{resized_so}

-- stores into a block are below its end
within_below : (m : ℕ) (e : Entry) (ss : List Store) → block_end e / 4 ≤ m → Within e ss → Below m ss
within_below m e ss l w = fall_so (λ i. (block_of e / 4 ≤ i) × (i < block_end e / 4)) (λ i. i < m) (λ i b. omega arith) ss w

-- the draft writes only words of the heap bytes
abbrev Inner : Heap → Draft → Type 0
Inner h d = Below (h.bytes / 4) d.stores

-- n bytes are granted
module _ {ws : List ℕ} {h : Heap} {n : ℕ} (room : Grantable ws h n) where
  abbrev given : Grant
  given = grant n (as_read ws h)

  same_bytes : given.draft.heap.bytes ≡ h.bytes
  same_bytes = omega (arith, (granted_pictured room).passes.fits.bytes, room.well.fits.bytes, length_written given.draft.stores ws)

  granted_ends : chunk_end given.granted ≤ h.bytes
  granted_ends =
      let i = (inside (granted_words room) given.draft.heap (granted_pictured room).passes given.granted (new_there room)).ends in
      omega (arith, same_bytes)

  -- the first k words of the block are written
  abbrev filling : (ℕ → ℕ) → ℕ → List Store
  filling value k = fill_from (block_of given.granted) 0 value k

  filled_below : (value : ℕ → ℕ) (k : ℕ) → k ≤ block_words given.granted → Inner h (also_writes (filling value k) given.draft)
  filled_below value k l =
      let e = granted_ends in
      below_both (h.bytes / 4) given.draft.stores (filling value k) (grant_inside room)
      (within_below (h.bytes / 4) given.granted (filling value k) (omega arith) (filled_within given.granted value k l))

  found_below : Inner h (also_writes (as_found given.granted) given.draft)
  found_below = below_both (h.bytes / 4) given.draft.stores [] (grant_inside room) tt

  cleared_below : Inner h (also_writes (cleared given.granted) given.draft)
  cleared_below = filled_below (λ i. 0) (block_words given.granted) (omega arith)

-- the live block at b
module _ (ws : List ℕ) (h : Heap) (p : Passes ws h) (b : ℕ) (l : is_live (as_read ws h) b ≡ true) (z : ℕ) where
  abbrev at : Spot
  at = block_spot (as_read ws h) b

  abbrev n : ℕ
  n = need overhead z

  -- it moves: it is still live after the copy
  moved_below : is_none (source_of n (as_read ws h)) ≡ false → at.here.size < n → Inner h (moved ws at n (as_read ws h)).draft
  moved_below some less =
      let e : Entry = at.here in
      let moves = block_moves p b l z some less in
      rw (moved_reread moves).1
      (below_both (h.bytes / 4) (copied_over moves).stores (free_block (block_of e) (as_read (copied_words moves) (copied_heap moves))).stores
      (filled_below moves.room (λ i. word ws (block_of e) i) (block_words e) (fits moves))
      (rw (same_bytes moves.room) at (free_inside (copied_words moves) (copied_heap moves) (copied_passes moves) (block_of e) (still_live moves))))

  -- it is resized; if it has to move, there is room
  resized_below : (ltb at.here.size n && is_none (source_of n (as_read ws h)) ≡ false) → Inner h (resized ws at n (as_read ws h)).draft
  unfolding as_read
  resized_below q =
      resized_so (λ x. Inner h x.draft) ws at n (as_read ws h)
      (λ less. moved_below (rw (lt-ltb at.here.size n less) at q) less)
      (λ spare. shrink_inside (block_shrinks p b l z spare)) tt

-- a refusal writes nothing
judged_below : (m : ℕ) (h : Heap) (o : Outcome) (ts : Refusals) → (Failed ts → Below m o.stores) → Below m (judged h ts o).stores
judged_below m h o ts = judged_so (λ x. Below m x.stores) h o ts (λ r. tt)

-- each call writes only below an odd last word
module _ (ws : List ℕ) (h : Heap) where
  -- the number of words without it
  abbrev even : ℕ
  even = length ws / 2 * 2

  heap_even : Passes ws h → h.bytes / 4 ≡ even
  heap_even p = omega arith

  -- a block is granted, and `fill` written into it
  with_below : (fill : Entry → List Store) (z : ℕ)
      → ((p : Passes ws h) → is_none (source_of (need overhead z) (as_read ws h)) ≡ false
      → let g = grant (need overhead z) (as_read ws h) in Inner h (also_writes (fill g.granted) g.draft))
      → Below even (allocate_with fill ws h z).stores
  with_below fill z b =
      judged_below even h (allocated fill (as_read ws h) z) (allocate_refusals (heap_fails ws h) (as_read ws h) z)
      (λ (f, (_, (some, _))). let p = not_failing ws h f in rw (← heap_even p) (b p some))

  allocate_below : (z : ℕ) → Below even (allocate ws h z).stores
  unfolding allocate
  allocate_below z = with_below as_found z (λ p some. found_below (need_grantable z p some))

  cleared_all_below : (count size : ℕ) → Below even (allocate_cleared ws h count size).stores
  unfolding allocate_cleared
  cleared_all_below count size = with_below cleared (count * size) (λ p some. cleared_below (need_grantable (count * size) p some))

  free_all_below : (b : ℕ) → Below even (free ws h b).stores
  unfolding free as_read
  free_all_below b =
      judged_below even h (freed (as_read ws h) b) (free_refusals (heap_fails ws h) (as_read ws h) b) (λ (f, (l, _)). go (not_failing ws h f) (eqb b 0) l)
    where
      go : Passes ws h → (t : Bool) → (not t && not (is_live (as_read ws h) b)) ≡ false
          → Below even (cond t (as_read ws h) (free_block b (as_read ws h))).stores
      go p true l = tt
      go p false l = rw (← heap_even p) (free_inside ws h p b (not-false (is_live (as_read ws h) b) l))

  resize_below : (b z : ℕ) → Below even (resize ws h b z).stores
  unfolding resize
  resize_below b z =
      judged_below even h (resized_to ws (as_read ws h) b z) (resize_refusals (heap_fails ws h) (as_read ws h) b z)
      (λ (f, (_, (l, (room, _)))).
      let p = not_failing ws h f in
      rw (← heap_even p) (resized_below ws h p b (not-false (is_live (as_read ws h) b) l) z room))

  reallocate_below : (b z : ℕ) → Below even (reallocate ws h b z).stores
  unfolding reallocate
  reallocate_below b z = go (eqb b 0)
    where
      go : (t : Bool) → Below even (cond t (allocate ws h z) (resize ws h b z)).stores
      go true = allocate_below z
      go false = resize_below b z

  setup_below : (table : List ℕ) (donor : ℕ) (merge : Bool) → Below even (setup ws table donor merge).stores
  unfolding setup
  setup_below table donor merge =
      let bytes = heap_bytes (length ws) in
      judged_below even empty (opened bytes table donor merge) (setup_refusals ws table donor)
      (λ (size, (_, (fits, _))).
      let n = length_in ws size in
      subst (λ (m : ℕ). Below m (first_headers bytes donor)) whole
      (first_below bytes donor (fitting (omega arith) ((fitting_iff ws donor).0 (not-false (donor_fits bytes donor) fits)))))
    where
      whole : heap_bytes (length ws) / 4 ≡ even
      whole = omega arith

      fitting : 10 ≤ length ws → Fitting ws donor → donor + 40 ≤ heap_bytes (length ws)
      fitting some (inl z) = omega arith
      fitting some (inr (k, l)) = omega arith

  merge_below : (on : Bool) → Below even (set_merge ws h on).stores
  unfolding set_merge
  merge_below on = judged_below even h (unchanged (with_merge h on) Done) (heap_fails ws h ∷ []) (λ _. tt)

  question_below : (a : Answer) (t : Bool) → Below even (judged h (heap_fails ws h ∷ (t, NotThere) ∷ []) (unchanged h a)).stores
  question_below a t = judged_below even h (unchanged h a) (heap_fails ws h ∷ (t, NotThere) ∷ []) (λ _. tt)

  pub stores_below : (call : Call) → Below even (step call ws h).stores
  unfolding step check ask_chunk ask_bin
  stores_below (Setup table donor merge) = setup_below table donor merge
  stores_below (Allocate z) = allocate_below z
  stores_below (AllocateCleared count size) = cleared_all_below count size
  stores_below (Free b) = free_all_below b
  stores_below (Reallocate b z) = reallocate_below b z
  stores_below (SetMerge on) = merge_below on
  stores_below Check = tt
  stores_below (AskChunk q p) =
      let d = as_read ws h in
      let answers = chunk_answers d (asked_spot d q p) in
      question_below (answer_to q answers) (not (is_asked q answers) || not (is_there d q p))
  stores_below (AskBin q i) =
      let answers = bin_answers ((as_read ws h).lists i) in
      question_below (answer_to q answers) (not (is_asked q answers) || not (ltb i h.bins))
  stores_below (Patrol f) = patrol_below ws h f
