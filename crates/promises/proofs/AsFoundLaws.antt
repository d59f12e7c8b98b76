-- The rules keep the promise `AsFound` (`as_found_lem`): a grant writes no word of the block that it grants, and a copy only as many as it copies. Assumes
-- nothing.
use mathlib.Core.Path.{◌≡◌, ap, ◌∙◌}
use mathlib.Core.List.{List}
use Prim.Native.Nat.{ℕ, ◌≤◌, ◌<◌}
use native.Mathlib.Omega.{arith}
use lib.IntN.{ℤ}
use Rattle.drafts.proofs.FillLaws.{fill_off}
use Rattle.drafts.proofs.GrantKept.{the_grant}
use Rattle.drafts.proofs.GrantSpared.{grant_spares_own}
use Rattle.drafts.proofs.GrantedChunk.{granted_words, granted_lies, appended}
use Rattle.drafts.proofs.MovedLaws.{Moving, copies, copies_within}
use Rattle.drafts.proofs.SourceLaws.{Grantable}
use Rattle.record.specs.declared.answers.Answer.TheVariants.{Granted}
use Rattle.record.specs.declared.heap.Heap.{Heap}
use Rattle.region.specs.declared.Block.{Block}
use Rattle.region.specs.Words.{word}
use Rattle.region.proofs.WordsLaws.{off}
use Rattle.rules.specs.Shape.{Entry}
use Rattle.rules.specs.Kinds.{overhead, block_of, block_words}
use Rattle.rules.specs.Check.{Passes}
use Rattle.rules.specs.Serve.{need}
use Rattle.rules.specs.Allocate.{as_found, allocate_with, allocate}
use Rattle.rules.specs.Reallocate.{reallocate}
use Rattle.rules.specs.Statements.{Left, left_by}
use Rattle.rules.specs.Calls.{Allocate, Reallocate, step}
use Rattle.promises.specs.Ways.{ours}
use Rattle.promises.specs.Room.{HoldsBlock}
use Rattle.promises.specs.AsFound.{AsFound}
use Rattle.promises.proofs.GrantedLaws.{new, new_held, to, moved_words, to_kept}
use Rattle.promises.proofs.KeptLaws.{of_its_chunk}
use Rattle.promises.proofs.ApartLaws.{grantable, granted_left, old_is, moving, moved_left}

-- the words of the block at b from number `first` to the end of the chunk e are those that were there
abbrev Found : ℕ → List ℕ → List ℕ → ℕ → Entry → Type 0
Found first ws after b e = (k : ℕ) → first ≤ k → k < block_words e → word after b k ≡ word ws b k

-- so it is of a chunk that holds the block
abbrev FoundIn : ℕ → List ℕ → ℕ → Left → Type 0
FoundIn first ws b left = (e : Entry) × HoldsBlock left.words left.heap b e × Found first ws left.words b e

-- n bytes are granted: no word of the new block is written
new_found : {ws : List ℕ} {h : Heap} {n : ℕ} (room : Grantable ws h n) → Found 0 ws (granted_words room) (block_of (new room)) (new room)
new_found {ws} room k _ l =
    let i = granted_lies room in
    off (the_grant room).draft.stores ws (block_of (new room)) k (grant_spares_own room _ (omega arith) (omega arith))

-- the block of the chunk e moves: it is copied, and the old block freed
moved_found : {ws : List ℕ} {h : Heap} {n : ℕ} {e : Entry} (moves : Moving ws h n e) → Found (block_words e) ws (moved_words moves) (block_of (to moves)) (to moves)
moved_found {ws} {e = e} moves k low l =
    (to_kept moves).same k l
    ∙ rw (appended moves.room (copies moves) (copies_within moves))
    (off (copies moves) (granted_words moves.room) (block_of (to moves)) k (fill_off (λ j. word ws (block_of e) j) (block_of (to moves)) (block_words e) 0 k (omega arith)))
    ∙ new_found moves.room k (omega arith) l

module _ {ws : List ℕ} {h : Heap} (p : Passes ws h) {block : Block} {change : ℤ} where
  plain_found : (z : ℕ) → (allocate_with as_found ws h z).answer ≡ Granted block change → FoundIn 0 ws block.0 (left_by ws (allocate_with as_found ws h z))
  plain_found z q =
      let room = grantable p as_found (λ e. tt) z q in
      granted_left p as_found (λ e. tt) z q (FoundIn 0 ws)
      (new room, new_held room (as_found (new room)) tt, rw (appended room (as_found (new room)) tt) (new_found room))

  outgrown_found : {b : ℕ} {e : Entry} (k : HoldsBlock ws h b e) (z : ℕ) → e.size < need overhead z → (q : (ours (Reallocate b z) ws h).answer ≡ Granted block change)
      → FoundIn (block_words e) ws block.0 (ours (Reallocate b z) ws h)
  outgrown_found {b} {e} k z less q =
      let moves = moving p k z q less in
      moved_left p k z q less (FoundIn (block_words e) ws)
      (to moves, (to_kept moves).held, λ j low l. moved_found moves j (omega (arith, ap block_words (old_is p k))) l)

pub as_found_lem : AsFound ours
unfolding ours step allocate reallocate
as_found_lem ws h p =
    record {
      allocate = λ z block change q. of_its_chunk (Found 0 ws (ours (Allocate z) ws h).words block.0) p (Allocate z) q (plain_found p z q);
      no_block = λ z block change q. of_its_chunk (Found 0 ws (ours (Reallocate 0 z) ws h).words block.0) p (Reallocate 0 z) q (plain_found p z q);
      moved =
          λ b z block change old k less q.
          of_its_chunk (Found (block_words old) ws (ours (Reallocate b z) ws h).words block.0) p (Reallocate b z) q (outgrown_found p k z less q);
    }
