-- A block moves: after the grant and the copy the heap passes and the old block is still live (`copied_passes`, `still_live`), so freeing it
-- does what it does on the heap as it is read then (`moved_reread`, `moved_words_lem`). Assumes nothing.
use mathlib.Core.Path.{◌≡◌, refl, ap, ◌∙◌}
use mathlib.Core.Bool.{true}
use mathlib.Core.List.{List, ◌++◌}
use Prim.Native.Nat.{ℕ, ◌≤◌, ◌<◌}
use native.Mathlib.Omega.{arith}
use borrow.Author.Tests.{eq-eqb}
use Rattle.lists.specs.Lists.{Mem}
use Rattle.lists.proofs.ListsLaws.{for_some, itself}
use Rattle.record.specs.declared.heap.Heap.{Heap}
use Rattle.region.specs.Words.{Store, word, written}
use Rattle.region.proofs.WordsLaws.{written_append}
use Rattle.rules.specs.Check.{Passes}
use Rattle.rules.specs.Draft.{Draft, as_read, also_writes}
use Rattle.rules.specs.Free.{is_live, free_block}
use Rattle.rules.specs.Kinds.{live, block_of, block_words, holds_block}
use Rattle.rules.specs.Reallocate.{copied}
use Rattle.rules.specs.Shape.{Entry, shape}
use Rattle.drafts.proofs.FillLaws.{Within, filled_within}
use Rattle.drafts.proofs.SourceLaws.{Grantable}
use Rattle.drafts.proofs.GrantKept.{the_grant, granted_large, live_stays}
use Rattle.drafts.proofs.GrantedChunk.{new, granted_heap, granted_pictured, old_there, filled_words, granted_filled}
use Rattle.drafts.proofs.RereadLaws.{free_reread}

-- the chunk e of a live block has fewer than n bytes, and n bytes can be granted
pub record Moving (ws : List ℕ) (h : Heap) (n : ℕ) (e : Entry) : Type 0 where
  pub room : Grantable ws h n
  pub member : Mem e (shape ws h.bytes)
  pub live : live h e ≡ true
  pub less : e.size < n

module _ {ws : List ℕ} {h : Heap} {n : ℕ} {e : Entry} (moves : Moving ws h n e) where
  abbrev pub to : Entry
  to = new moves.room

  abbrev pub copies : List Store
  copies = copied ws e to

  pub fits : block_words e ≤ block_words to
  fits = omega (arith, granted_large moves.room, moves.less)

  pub copies_within : Within to copies
  copies_within = filled_within to (λ k. word ws (block_of e) k) (block_words e) fits

  -- the draft, the words and the record after the copy
  abbrev pub copied_over : Draft
  copied_over = also_writes copies (the_grant moves.room).draft

  abbrev pub copied_words : List ℕ
  copied_words = filled_words moves.room copies copies_within

  abbrev pub copied_heap : Heap
  copied_heap = granted_heap moves.room

  pub copied_passes : Passes copied_words copied_heap
  copied_passes = (granted_filled moves.room copies copies_within).passes

  -- the old chunk is still on the chain, and its block live
  pub still_there : Mem e (shape copied_words copied_heap.bytes)
  still_there = rw (granted_filled moves.room copies copies_within).chain (old_there moves.room e moves.member moves.live)

  pub old_live : live copied_heap e ≡ true
  old_live = (live_stays moves.room e moves.member moves.live).1

  holds_again : holds_block copied_heap (block_of e) e ≡ true
  holds_again = rw old_live (eq-eqb (block_of e) (block_of e) refl)

  pub still_live : is_live (as_read copied_words copied_heap) (block_of e) ≡ true
  unfolding as_read
  still_live = (for_some (λ x. itself (holds_block copied_heap (block_of e) x)) (shape copied_words copied_heap.bytes)).1 (e, still_there, holds_again)

  -- the old block is freed
  abbrev pub moved_words : List ℕ
  moved_words = written ws (free_block (block_of e) copied_over).stores

  pub moved_reread : let afresh = free_block (block_of e) (as_read copied_words copied_heap) in
      ((free_block (block_of e) copied_over).heap ≡ afresh.heap) × ((free_block (block_of e) copied_over).stores ≡ copied_over.stores ++ afresh.stores)
  moved_reread =
      let f = granted_filled moves.room copies copies_within in
      let k = granted_pictured moves.room in
      free_reread copied_words copied_over (block_of e) (f.chain ∙ k.chain) (λ i. f.lists i ∙ k.lists i)

  pub moved_words_lem : moved_words ≡ written copied_words (free_block (block_of e) (as_read copied_words copied_heap)).stores
  moved_words_lem = ap (written ws) moved_reread.1 ∙ written_append copied_over.stores (free_block (block_of e) (as_read copied_words copied_heap)).stores ws
