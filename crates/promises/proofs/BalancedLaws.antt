-- The rules keep the promise `Balanced` (`balanced`): the change that a call answers is the difference of the record's used bytes. A refused call, and
-- one that grants and frees nothing, answers 0 and leaves them. Assumes nothing.
use mathlib.Core.Path.{◌≡◌, refl, sym, ap, ◌∙◌}
use mathlib.Core.Bool.{Bool, true, false, cond, true≢false}
use mathlib.Core.List.{List, [], ◌∷◌, ◌++◌}
use Rattle.std.specs.Prelude.{Option, Some, None}
use Prim.Native.Nat.{ℕ, ◌+◌, ◌-◌, ◌≤◌}
use native.Mathlib.Omega.{arith}
use lib.Dec.{ltb}
use lib.IntN.{ℤ, pos, neg_ℤ, ◌+ℤ◌, ◌-ℤ◌, +ℤ_assoc, +ℤ_comm, +ℤ-neg_ℤ_cancel, pos-+ℤ-pos}
use lib.ListN.{get_or}
use Rattle.record.specs.declared.answers.Answer.TheVariants.{Done, Told, Counted, Refused}
use Rattle.record.specs.declared.answers.Refusal.TheVariants.{HeapFails}
use Rattle.record.specs.declared.heap.Heap.{Heap}
use Rattle.record.specs.Answers.{figures_of}
use Rattle.record.specs.Heap.{with_merge}
use Rattle.region.specs.Words.{put, forward}
use Rattle.rules.specs.Shape.{Entry, entry, shape, chunk_end}
use Rattle.rules.specs.Kinds.{used, overhead, block_of}
use Rattle.rules.specs.Check.{Passes, passes, counts_of}
use Rattle.rules.specs.Draft.{Draft, Spot, as_read, also_writes}
use Rattle.rules.specs.Serve.{need}
use Rattle.rules.specs.Outcome.{Outcome, Refusals, judged, heap_fails, unchanged, change_of}
use Rattle.rules.specs.Allocate.{source_of, grant}
use Rattle.rules.specs.Free.{is_live, block_spot, free_block}
use Rattle.rules.specs.Reallocate.{shrunk}
use Rattle.rules.specs.Merge.{set_merge, checked, check}
use Rattle.rules.specs.Ask.{ask_chunk, ask_bin, chunk_answers, asked_spot, is_there, bin_answers, ask_refusals, asked}
use Rattle.rules.specs.Patrol.{Patrolled, patrol_run, patrol_refusals, ran, patrol}
use Rattle.rules.specs.Calls.{Call, Setup, Allocate, AllocateCleared, Free, Reallocate, SetMerge, Check, AskChunk, AskBin, Patrol, step}
use Rattle.rules.proofs.OutcomeLaws.{Failed, judged_so}
use Rattle.drafts.proofs.StepLaws.{released_used, granted_used}
use Rattle.drafts.proofs.BlockLaws.{live_chunk}
use Rattle.drafts.proofs.ReleaseKept.{own_among_used}
use Rattle.drafts.proofs.MovedLaws.{Moving, to, copied_over, copied_words, copied_heap, copied_passes, still_there, old_live, still_live, moved_reread}
use Rattle.promises.specs.Ways.{ours}
use Rattle.promises.specs.Room.{HoldsBlock}
use Rattle.promises.specs.Refusing.{is_setup}
use Rattle.promises.specs.Balanced.{Balanced}
use Rattle.promises.proofs.EachOutcomeLaws.{EachOutcome, spot_of, allocate_so, cleared_so, free_so, reallocate_so}
use Rattle.promises.proofs.ReasonLaws.{one_block, here_holds}

-- two changes are equal if what one adds the other adds too
same_change : (before after was now : ℕ) → after + was ≡ now + before → change_of before after ≡ change_of was now
same_change before after was now q =
    ap (λ (x : ℤ). x -ℤ pos before) shifted ∙ +ℤ-neg_ℤ_cancel (change_of was now) (pos before)
  where
    sums : pos after +ℤ pos was ≡ pos before +ℤ pos now
    sums = pos-+ℤ-pos after was ∙ ap pos (omega arith) ∙ sym (pos-+ℤ-pos before now)

    shifted : pos after ≡ change_of was now +ℤ pos before
    shifted =
        sym (+ℤ-neg_ℤ_cancel (pos after) (pos was)) ∙ ap (λ (x : ℤ). x -ℤ pos was) sums
        ∙ +ℤ_assoc (pos before) (pos now) (neg_ℤ (pos was)) ∙ +ℤ_comm (pos before) (change_of was now)

-- no change
no_change : (u : ℕ) → pos 0 ≡ change_of u u
no_change u = same_change 0 0 u u (omega arith)

-- the outcome o of a call on the record h
abbrev Balances : Heap → Outcome → Type 0
Balances h o = (figures_of o.answer).change ≡ change_of h.used o.heap.used

-- a refusal changes nothing
judged_balances : (h : Heap) (o : Outcome) (ts : Refusals) → (Failed ts → Balances h o) → Balances h (judged h ts o)
judged_balances h o ts = judged_so (Balances h) h o ts (λ r. no_change h.used)

-- the live block at b
module _ (ws : List ℕ) (h : Heap) (p : Passes ws h) (b : ℕ) (l : is_live (as_read ws h) b ≡ true) where
  abbrev at : Spot
  at = block_spot (as_read ws h) b

  abbrev old : Entry
  old = at.here

  among_used : old.size ≤ h.used
  among_used = own_among_used (live_chunk ws h p b l)

  -- it is freed
  freed_used : (free_block b (as_read ws h)).heap.used + old.size ≡ h.used
  unfolding free_block as_read
  freed_used =
      let u = released_used at.low old at.high (as_read ws h) in
      let f = among_used in
      omega arith

  -- it keeps n bytes: the tail above them is given back
  module _ (n : ℕ) where
    abbrev kept : Entry
    kept = entry old.place n used

    abbrev tail : Entry
    tail = entry (old.place + n) (old.size - n) used

    abbrev split : Draft
    split = also_writes (put kept.place forward (chunk_end kept) ∷ []) (as_read ws h)

    shrunk_used : (shrunk at n (as_read ws h)).draft.heap.used + old.size ≡ h.used + n
    unfolding as_read
    shrunk_used =
        let u = released_used (at.low ++ kept ∷ []) tail at.high split in
        let f = among_used in
        omega arith

-- the block of the chunk e moves
module _ {ws : List ℕ} {h : Heap} {n : ℕ} {e : Entry} (moves : Moving ws h n e) where
  -- the chunk that is freed is e
  freed_is : (block_spot (as_read (copied_words moves) (copied_heap moves)) (block_of e)).here ≡ e
  freed_is =
      let held : HoldsBlock (copied_words moves) (copied_heap moves) (block_of e) e = record { member = still_there moves; live = old_live moves; block = refl } in
      one_block (copied_words moves) (copied_heap moves) (copied_passes moves) (block_of e) _ e
      (here_holds (copied_words moves) (copied_heap moves) (copied_passes moves) (block_of e) (e, held)) held

  moved_used : (free_block (block_of e) (copied_over moves)).heap.used + e.size ≡ h.used + (to moves).size
  unfolding as_read
  moved_used =
      let r = ap (λ (k : Heap). k.used) (moved_reread moves).0 in
      let f = freed_used (copied_words moves) (copied_heap moves) (copied_passes moves) (block_of e) (still_live moves) in
      let s = ap (λ (x : Entry). x.size) freed_is in
      let u = granted_used (source_of n (as_read ws h)) n (as_read ws h) in
      omega arith

-- an answer that tells a value, or none
told_no_change : (v : Option ℕ) → (figures_of (Told v)).change ≡ pos 0
told_no_change None = refl
told_no_change (Some v) = refl

module _ (ws : List ℕ) (h : Heap) where
  -- a block is granted, freed or resized
  each_balances : EachOutcome ws h (Balances h)
  unfolding as_read
  each_balances =
      record {
        refuses = λ r. no_change h.used;
        grants = λ fill within z room.
            let n = need overhead z in
            let u = granted_used (source_of n (as_read ws h)) n (as_read ws h) in
            same_change 0 (grant n (as_read ws h)).granted.size h.used (grant n (as_read ws h)).draft.heap.used (omega arith);
        frees_none = no_change h.used;
        frees = λ b p l.
            let f = freed_used ws h p b l in
            same_change (spot_of ws h b).here.size 0 h.used (free_block b (as_read ws h)).heap.used (omega arith);
        moves = λ b z moves. same_change (spot_of ws h b).here.size (to moves).size h.used _ (let m = moved_used moves in omega arith);
        shrinks = λ b z shrinks.
            let n = need overhead z in
            same_change (spot_of ws h b).here.size n h.used _ (let s = shrunk_used ws h shrinks.well b shrinks.live n in omega arith);
        stays = λ b _. same_change (spot_of ws h b).here.size (spot_of ws h b).here.size h.used h.used (omega arith);
      }

  merge_balances : (on : Bool) → Balances h (set_merge ws h on)
  unfolding set_merge
  merge_balances on = judged_balances h (unchanged (with_merge h on) Done) (heap_fails ws h ∷ []) (λ _. no_change h.used)

  check_balances : Balances h (check ws h)
  unfolding check checked
  check_balances = go (passes ws h)
    where
      go : (t : Bool) → Balances h (unchanged h (cond t (Counted (counts_of h (shape ws h.bytes))) (Refused HeapFails)))
      go true = no_change h.used
      go false = no_change h.used

  question_balances : (q : ℕ) (answers : List (Option ℕ)) (there : Bool)
      → Balances h (judged h (ask_refusals (heap_fails ws h) q answers there) (asked h q answers))
  question_balances q answers there =
      judged_balances h (asked h q answers) (ask_refusals (heap_fails ws h) q answers there)
      (λ _. told_no_change (get_or answers (q - 1) None) ∙ no_change h.used)

  patrol_balances : (f : ℕ) → Balances h (patrol ws h f)
  unfolding patrol
  patrol_balances f = judged_balances h (ran h (patrol_run ws h f)) (patrol_refusals ws h f) (λ _. go (patrol_run ws h f))
    where
      go : (o : Option Patrolled) → Balances h (ran h o)
      go None = no_change h.used
      go (Some r) = no_change h.used

  step_balances : (call : Call) → is_setup call ≡ false → Balances h (step call ws h)
  unfolding step ask_chunk ask_bin
  step_balances (Setup table donor merge) q = absurd (true≢false q)
  step_balances (Allocate z) q = allocate_so ws h each_balances z
  step_balances (AllocateCleared count size) q = cleared_so ws h each_balances count size
  step_balances (Free b) q = free_so ws h each_balances b
  step_balances (Reallocate b z) q = reallocate_so ws h each_balances b z
  step_balances (SetMerge on) q = merge_balances on
  step_balances Check q = check_balances
  step_balances (AskChunk question place) q =
      let d = as_read ws h in
      question_balances question (chunk_answers d (asked_spot d question place)) (is_there d question place)
  step_balances (AskBin question i) q = question_balances question (bin_answers ((as_read ws h).lists i)) (ltb i h.bins)
  step_balances (Patrol f) q = patrol_balances f

pub balanced : Balanced ours
unfolding ours
balanced call q ws h = step_balances ws h call q
