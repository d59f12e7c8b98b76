-- Giving back the chunk of a live block does to a heap that passes what the rules say: the words, the bins' ends and the record.
-- Used bytes and the answer are free's own and not looked at here. Assumes nothing.
use mathlib.Core.Path.{◌≡◌, refl, sym, ap, ◌∙◌}
use mathlib.Core.Bool.{true}
use mathlib.Core.List.{List, [], ◌∷◌}
use Prim.Native.Nat.{ℕ}
use Rattle.lists.specs.Lists.{last_or}
use Rattle.record.specs.declared.heap.Heap.{Heap}
use Rattle.record.specs.Heap.{summary_of}
use Rattle.rules.specs.Shape.{Entry, entry, shape}
use Rattle.rules.specs.Kinds.{holds_block, outside}
use Rattle.rules.specs.Check.{Passes}
use Rattle.rules.specs.Draft.{Draft, as_read, Spot}
use Rattle.rules.specs.Join.{release}
use Rattle.rules.specs.Free.{is_live, block_spot}
use Rattle.books.specs.Books.{books}
use Rattle.std.specs.Prelude.{Some}
use Rattle.seek.specs.Seek.{placed, sought_m, has_block_m}
use Rattle.seek.proofs.SeekLaws.{sought_spot, sought_block}
use Rattle.seek.specs.declared.Place.{Place}
use Rattle.release.specs.declared.Union.{Union}
use Rattle.release.specs.Release.{join_m}
use Rattle.drafts.proofs.JoinLaws.{LiveChunk, sides}
use Rattle.drafts.proofs.BlockLaws.{live_chunk}
use Rattle.drafts.proofs.ReleaseKept.{chunk_given}
use Rattle.settling.proofs.DraftLaws.{follows_begins}
use Rattle.release.proofs.JoinMeaning.{chunk_joined, chunk_joins, chunk_lies}
use Rattle.release.proofs.GivingMeaning.{Released, given_back_lem}

-- by the chain taken apart at the chunk
module _ {ws : List ℕ} {h : Heap} {low : List Entry} {e : Entry} {high : List Entry} (chunk : LiveChunk ws h low e high) where
  pub chunk_given_back : Released ws h (books ws h.heads h.tails) (placed (last_or outside low).place e) (chunk_joined chunk)
      (release low e high (as_read ws h))
  unfolding release as_read
  chunk_given_back =
      given_back_lem chunk.well (follows_begins ws h chunk.well) (λ i x m. m) (chunk_lies chunk) (chunk_joins chunk) (chunk_given chunk).sized
      (placed (last_or outside low).place e) refl (sym (sides chunk).above_place)

-- below the first chunk is nothing, at 0, for the walk as for the rules
last_place : (low : List Entry) → (last_or (entry 0 0 0) low).place ≡ (last_or outside low).place
last_place [] = refl
last_place (x ∷ xs) = refl

-- the chunk of the live block at b is given back
module _ (ws : List ℕ) (h : Heap) (p : Passes ws h) (b : ℕ) (l : is_live (as_read ws h) b ≡ true) where
  abbrev found : Spot
  found = block_spot (as_read ws h) b

  -- where the walk finds its chunk, what the code joins to it, and what the rule makes of the heap
  abbrev pub found_at : Place
  found_at = placed (last_or outside found.low).place found.here

  abbrev pub joined : Union
  joined = join_m ws (summary_of h) found_at

  abbrev pub free_after : Draft
  free_after = release found.low found.here found.high (as_read ws h)

  -- it is what a search for the block finds
  pub found_is : sought_m (has_block_m h.bytes b) 0 (shape ws h.bytes) ≡ Some found_at
  unfolding as_read
  found_is =
      sought_block h b 0 (shape ws h.bytes) ∙ sought_spot (holds_block h b) 0 (shape ws h.bytes) l
      ∙ ap (λ (c : ℕ). Some (placed c found.here)) (last_place found.low)

  pub released : Released ws h (books ws h.heads h.tails) found_at joined free_after
  released = chunk_given_back (live_chunk ws h p b l)
