-- The rules keep the promise `Moves` (`moves`): a block that outgrows its chunk becomes the block that allocate grants, and its old chunk is freed as free
-- frees it after that allocate. The copy in between is inside the new block, so the heap is read the same with it and without. Assumes nothing.
use mathlib.Core.Path.{◌≡◌, refl, sym, ap, subst, ◌∙◌}
use mathlib.Core.Bool.{true}
use mathlib.Core.List.{List, []}
use Prim.Native.Nat.{ℕ, ◌<◌}
use lib.IntN.{ℤ}
use Rattle.drafts.proofs.FillLaws.{alike_read}
use Rattle.drafts.proofs.GrantKept.{the_grant}
use Rattle.drafts.proofs.GrantedChunk.{filled_words, granted_filled}
use Rattle.drafts.proofs.MovedLaws.{Moving, to, copies, copies_within, copied_words, copied_heap, copied_over, copied_passes, still_live, moved_reread, moved_words_lem}
use Rattle.drafts.proofs.ReleaseKept.{free_kept}
use Rattle.record.specs.declared.answers.Answer.{Answer}
use Rattle.record.specs.declared.answers.Answer.TheVariants.{Granted}
use Rattle.record.specs.declared.heap.Heap.{Heap}
use Rattle.region.specs.declared.Block.{Block}
use Rattle.rules.specs.Shape.{Entry}
use Rattle.rules.specs.Kinds.{overhead, block_of}
use Rattle.rules.specs.Check.{Passes}
use Rattle.rules.specs.Draft.{Draft, as_read, also_writes}
use Rattle.rules.specs.Serve.{need}
use Rattle.rules.specs.Outcome.{made, change_of, grants}
use Rattle.rules.specs.Allocate.{as_found, allocate}
use Rattle.rules.specs.Free.{is_live, free_block}
use Rattle.rules.specs.Statements.{left_by}
use Rattle.rules.specs.Calls.{Allocate, Free, Reallocate, step}
use Rattle.rules.proofs.CheckLaws.{passes_iff}
use Rattle.promises.specs.Ways.{ours}
use Rattle.promises.specs.Room.{HoldsBlock}
use Rattle.promises.specs.Moves.{ReadAsOne, Moves}
use Rattle.promises.proofs.GrantedLaws.{keeps_all}
use Rattle.promises.proofs.ApartLaws.{free_left, old, old_holds, moving, moved_block, left_moved, moved_left, size_permitted}

-- the block of the chunk e moves
module _ {ws : List ℕ} {h : Heap} {n : ℕ} {e : Entry} (moves : Moving ws h n e) where
  -- the words after the grant, with no copy
  abbrev plain_words : List ℕ
  plain_words = filled_words moves.room [] tt

  plain_passes : Passes plain_words (copied_heap moves)
  plain_passes = (granted_filled moves.room [] tt).passes

  -- a free begins with the same draft as after the copy
  copied_read : as_read (copied_words moves) (copied_heap moves) ≡ as_read plain_words (copied_heap moves)
  copied_read = alike_read (granted_filled moves.room (copies moves) (copies_within moves)) ∙ sym (alike_read (granted_filled moves.room [] tt))

  plain_live : is_live (as_read plain_words (copied_heap moves)) (block_of e) ≡ true
  plain_live = subst (λ (d : Draft). is_live d (block_of e) ≡ true) copied_read (still_live moves)

  -- so it leaves a heap that is read alike
  abbrev plain_freed : Draft
  plain_freed = free_block (block_of e) (as_read plain_words (copied_heap moves))

  same_freed : free_block (block_of e) (as_read (copied_words moves) (copied_heap moves)) ≡ plain_freed
  same_freed = ap (free_block (block_of e)) copied_read

  freed_alike : (a c : Answer) → ReadAsOne (left_by ws (made a (free_block (block_of e) (copied_over moves)))) (left_by plain_words (made c plain_freed))
  freed_alike a c =
      let k = free_kept (copied_words moves) (copied_heap moves) (copied_passes moves) (block_of e) (still_live moves) in
      let j = free_kept plain_words (copied_heap moves) plain_passes (block_of e) plain_live in
      rw ((moved_reread moves).0, moved_words_lem moves)
      (record {
        heap = ap (λ (d : Draft). d.heap) same_freed;
        chain = k.chain ∙ ap (λ (d : Draft). d.chain) same_freed ∙ sym j.chain;
        lists = λ i. k.lists i ∙ ap (λ (d : Draft). d.lists i) same_freed ∙ sym (j.lists i);
      })

-- the live block at b, in a chunk e that is too small for z bytes, is reallocated
module _ {ws : List ℕ} {h : Heap} (p : Passes ws h) {b : ℕ} {e : Entry} (k : HoldsBlock ws h b e) {block : Block} {change : ℤ} (z : ℕ)
    (q : (ours (Reallocate b z) ws h).answer ≡ Granted block change) (less : e.size < need overhead z) where
  abbrev move : Moving ws h (need overhead z) (old p k)
  move = moving p k z q less

  -- allocate is not refused either
  granted_is : ours (Allocate z) ws h ≡ left_by ws (made (grants 0 (to move)) (also_writes (as_found (to move)) (the_grant move.room).draft))
  unfolding ours step allocate
  granted_is = rw ((passes_iff ws h).1 p, size_permitted p k z q, move.room.some) refl

  -- it grants the block that the old one becomes
  same_block_lem : (bytes : ℤ) × ((ours (Allocate z) ws h).answer ≡ Granted block bytes)
  same_block_lem =
      let bytes = change_of 0 (to move).size in
      rw granted_is (bytes, ap (λ (c : ℕ). Granted (record { 0 = c }) bytes) (moved_block p k z q less))

  -- the old block is live after it, and is freed
  still_held : HoldsBlock (plain_words move) (copied_heap move) (block_of (old p k)) (old p k)
  still_held = (keeps_all move.room [] tt (old p k) (old_holds p k).member (old_holds p k).live).held

  moved_then_freed : ReadAsOne (left_moved p k z q less) (ours (Free (block_of (old p k))) (plain_words move) (copied_heap move))
  moved_then_freed = rw (free_left (plain_passes move) still_held) (freed_alike move _ _)

  read_as_one : ReadAsOne (ours (Reallocate b z) ws h) (ours (Free b) (ours (Allocate z) ws h).words (ours (Allocate z) ws h).heap)
  read_as_one =
      rw granted_is
      (moved_left p k z q less (λ _ y. ReadAsOne y (ours (Free b) (plain_words move) (copied_heap move)))
      (subst (λ (c : ℕ). ReadAsOne (left_moved p k z q less) (ours (Free c) (plain_words move) (copied_heap move))) (old_holds p k).block moved_then_freed))

pub moves : Moves ours
moves ws h p =
    record {
      block = λ b z block change e k less q. same_block_lem p k z q less;
      left = λ b z block change e k less q. read_as_one p k z q less;
    }
