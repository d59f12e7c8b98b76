-- A block moves as the rule says: the copy is the rule's, and giving the old block back is, with the chunk below it read again (`move_is`).
-- Assumes nothing.
use Rattle.std.proofs.Common.{◌≡◌, ℕ, ◌-◌, ◌/◌, ◌%◌, ◌≤◌, true, ◌⊎◌, List, ◌∷◌, ◌++◌, sym, refl, ap, ◌∙◌, inl, inr, arith}
use Rattle.lists.specs.Lists.{Mem, last_or}
use Rattle.lists.proofs.SplitLaws.{in_split}
use Rattle.record.specs.declared.heap.Heap.{Heap}
use Rattle.record.specs.Heap.{at, table_of}
use Rattle.region.specs.Words.{word, backward}
use Rattle.region.proofs.WordsLaws.{off}
use Rattle.rules.specs.Check.{Passes}
use Rattle.rules.specs.Draft.{Draft, as_read, Spot}
use Rattle.rules.specs.Free.{is_live, block_spot, free_block}
use Rattle.rules.specs.Kinds.{block_of, block_words, outside}
use Rattle.rules.specs.Shape.{Entry, chunk_end, shape}
use Rattle.rules.proofs.SpotLaws.{around, inside, one_chunk}
use Rattle.rules.proofs.NamedLaws.{live_between}
use Rattle.seek.specs.Seek.{placed}
use Rattle.blocks.specs.Blocks.{copied_m}
use Rattle.blocks.proofs.BlocksMeaning.{Disjoint, copy_is}
use Rattle.drafts.proofs.GrantKept.{the_grant, grant_queued, granted_large}
use Rattle.drafts.proofs.GrantedChunk.{granted_words, granted_beside, granted_lies, appended}
use Rattle.drafts.proofs.GrantSpared.{grant_spares}
use Rattle.release.specs.Give.{given_up_m}
use Rattle.release.proofs.GiveMeaning.{drawn, give_up_is}
use Rattle.drafts.proofs.BlockLaws.{BlockAt, splits}
use Rattle.drafts.proofs.MovedLaws.{Moving, to, copies, copies_within, copied_over, copied_words, copied_heap, copied_passes, still_there, old_live, still_live, moved_reread, moved_words_lem}

-- the chunk e of a live block, which has less than n bytes, and room for n elsewhere
module _ {ws : List ℕ} {h : Heap} {n : ℕ} {e : Entry} (moves : Moving ws h n e) where
  abbrev new : Entry
  new = to moves

  -- the words before the copy, those after it, and the record
  abbrev uncopied : List ℕ
  uncopied = granted_words moves.room

  abbrev words : List ℕ
  words = copied_words moves

  abbrev heap : Heap
  heap = copied_heap moves

  abbrev freed_after : Draft
  freed_after = free_block (block_of e) (copied_over moves)

  disjoint : Disjoint e.place new.place (block_words e)
  disjoint =
      let i = inside ws h moves.room.well e moves.member in
      let k = granted_lies moves.room in
      let b = (live_between ws h moves.room.well e moves.member moves.live).1 in
      go (granted_large moves.room) i.place k.place i.size k.size b.some (granted_beside moves.room e moves.member moves.live)
    where
      go : n ≤ new.size → e.place % 8 ≡ 0 → new.place % 8 ≡ 0 → e.size % 8 ≡ 0 → new.size % 8 ≡ 0 → 24 ≤ e.size
          → (chunk_end e ≤ new.place) ⊎ (chunk_end new ≤ e.place) → Disjoint e.place new.place (block_words e)
      go u ze zn se sn w (inl a) j k jl kl q = omega arith
      go u ze zn se sn w (inr a) j k jl kl q = omega arith

  pub copy_written : copied_m (e.size / 4 - 2) uncopied e.place new.place 2 ≡ words
  copy_written =
      let b = (live_between ws h moves.room.well e moves.member moves.live).1 in
      let i = inside ws h moves.room.well e moves.member in
      copy_is ws uncopied e new (omega arith) disjoint
      (λ j k. off (the_grant moves.room).draft.stores ws (block_of e) j (grant_spares moves.room e moves.member moves.live _ (omega arith) (omega arith)))
      ∙ sym (appended moves.room (copies moves) (copies_within moves))

  abbrev passes_again : Passes words heap
  passes_again = copied_passes moves

  abbrev live_again : is_live (as_read words heap) (block_of e) ≡ true
  live_again = still_live moves

  abbrev there_again : Mem e (shape words heap.bytes)
  there_again = still_there moves

  abbrev spot_again : Spot
  spot_again = block_spot (as_read words heap) (block_of e)

  split_again : BlockAt words heap (block_of e) spot_again
  split_again = splits words heap passes_again (block_of e) live_again

  -- it is the old chunk that is found there
  here_again : spot_again.here ≡ e
  here_again =
      let b = split_again.block in
      one_chunk words heap passes_again spot_again.here e (in_split spot_again.low spot_again.here spot_again.high split_again.split) there_again (omega arith)

  split_at : shape words heap.bytes ≡ spot_again.low ++ e ∷ spot_again.high
  split_at = split_again.split ∙ ap (λ (x : Entry). spot_again.low ++ x ∷ spot_again.high) here_again

  -- the chunk below it, as its link names it
  below_again : word words e.place backward - word words e.place backward % 8 ≡ (last_or outside spot_again.low).place
  below_again =
      let o = live_between words heap passes_again e there_again (old_live moves) in
      let b = o.1 in
      let a = around words heap passes_again spot_again.low e spot_again.high split_at (omega arith) (omega arith) in
      let i = inside words heap passes_again (last_or outside spot_again.low) a.below in
      omega (arith, a.own_backward, o.0, i.place)

  drawn_again : drawn words (free_block (block_of e) (as_read words heap)) ≡ drawn ws freed_after
  drawn_again = rw ((moved_reread moves).0, moved_words_lem moves) refl

  pub move_is : given_up_m words (table_of h) heap (record { before = at (word words e.place backward - word words e.place backward % 8); chunk = at e.place; end = chunk_end e; flags = e.flags })
      ≡ drawn ws freed_after
  move_is =
      rw (below_again, ← (grant_queued moves.room).table)
      (ap (λ (x : Entry). given_up_m words (table_of heap) heap (placed (last_or outside spot_again.low).place x)) (sym here_again)
      ∙ give_up_is words heap passes_again (block_of e) live_again
      ∙ drawn_again)
