-- The granted chunk in the heap after its grant: it is on the chain and live, overlaps no chunk that was live (`granted_beside`), lies inside the region
-- (`granted_lies`), and whatever is written into its block, the heap passes and is read as before (`granted_filled`). Assumes nothing.
use mathlib.Core.Path.{◌≡◌}
use mathlib.Core.Logic.{◌⊎◌}
use mathlib.Core.Bool.{true}
use mathlib.Core.List.{List, ◌++◌}
use Prim.Native.Nat.{ℕ, ◌*◌, ◌%◌, ◌≤◌}
use native.Mathlib.Omega.{arith}
use lib.ListN.{length}
use Rattle.lists.specs.Lists.{Mem}
use Rattle.record.specs.declared.heap.Heap.{Heap}
use Rattle.region.specs.Words.{Store, written}
use Rattle.region.proofs.WordsLaws.{written_append}
use Rattle.rules.specs.Shape.{Entry, shape, chunk_end}
use Rattle.rules.specs.Kinds.{live}
use Rattle.rules.proofs.SpotLaws.{bounds, inside, chunks_apart}
use Rattle.drafts.proofs.FillLaws.{Within, ReadAlike, written_inside}
use Rattle.drafts.proofs.PictureLaws.{Pictured}
use Rattle.drafts.proofs.SourceLaws.{Grantable}
use Rattle.drafts.proofs.GrantKept.{the_grant, grant_kept, granted_there, granted_live, granted_new, live_stays}

-- n bytes are granted
module _ {ws : List ℕ} {h : Heap} {n : ℕ} (room : Grantable ws h n) where
  abbrev pub new : Entry
  new = (the_grant room).granted

  -- the words and the record after the grant
  abbrev pub granted_words : List ℕ
  granted_words = written ws (the_grant room).draft.stores

  abbrev pub granted_heap : Heap
  granted_heap = (the_grant room).draft.heap

  pub granted_pictured : Pictured ws (the_grant room).draft
  granted_pictured = grant_kept room

  pub new_there : Mem new (shape granted_words granted_heap.bytes)
  new_there = rw granted_pictured.chain (granted_there room)

  pub new_live : live granted_heap new ≡ true
  new_live = granted_live room

  -- a chunk that was live before is still on the chain, and does not overlap the new one
  pub old_there : (e : Entry) → Mem e (shape ws h.bytes) → live h e ≡ true → Mem e (shape granted_words granted_heap.bytes)
  old_there e m l = rw granted_pictured.chain (live_stays room e m l).0

  pub granted_beside : (e : Entry) → Mem e (shape ws h.bytes) → live h e ≡ true → (chunk_end e ≤ new.place) ⊎ (chunk_end new ≤ e.place)
  granted_beside e m l =
      chunks_apart granted_words granted_heap granted_pictured.passes e new (old_there e m l) new_there (granted_new room e m l)

  -- where the granted chunk lies
  pub record GrantedLies : Type 0 where
    pub place : new.place % 8 ≡ 0
    pub size : new.size % 8 ≡ 0
    pub least : 8 ≤ new.size
    pub few : chunk_end new ≤ 65536
    pub fits : chunk_end new ≤ 4 * length granted_words

  pub granted_lies : GrantedLies
  granted_lies =
      let i = inside granted_words granted_heap granted_pictured.passes new new_there in
      let b = bounds granted_words granted_heap granted_pictured.passes in
      record { place = i.place; size = i.size; least = i.some; few = omega arith; fits = omega arith }

  -- stores into its block
  module _ (ss : List Store) (w : Within new ss) where
    abbrev pub filled_words : List ℕ
    filled_words = written ws ((the_grant room).draft.stores ++ ss)

    pub appended : filled_words ≡ written granted_words ss
    appended = written_append (the_grant room).draft.stores ss ws

    pub granted_filled : ReadAlike granted_words filled_words granted_heap
    granted_filled = rw appended (written_inside granted_pictured.passes new_there new_live ss w)
