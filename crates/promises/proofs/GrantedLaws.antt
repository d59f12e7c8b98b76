-- What the promise `Apart` says of a granted block whose words were written (`new_apart`), of a freed block (`others_kept`, `none_others`)
-- and of a moved one (`moved_apart`). Assumes nothing.
use mathlib.Core.Path.{◌≡◌, refl, ap, ◌∙◌}
use mathlib.Core.Logic.{◌≢◌, ◌⊎◌, inl, inr}
use mathlib.Core.Bool.{true}
use mathlib.Core.List.{List, ◌++◌}
use Prim.Native.Nat.{ℕ, ◌+◌, ◌/◌, ◌≤◌, ◌<◌}
use native.Mathlib.Omega.{arith}
use Rattle.drafts.proofs.SourceLaws.{Grantable}
use Rattle.drafts.proofs.GrantKept.{the_grant, source_chunk, can, source, cutting, grant_is, granted_large, granted_new, live_stays, granted_only}
use Rattle.drafts.proofs.GrantedChunk as granting
use Rattle.drafts.proofs.GrantSpared.{grant_spares}
use Rattle.record.specs.declared.answers.Answer.{Answer}
use Rattle.record.specs.declared.heap.Heap.{Heap}
use Rattle.region.specs.Words.{Store, word, written}
use Rattle.region.proofs.WordsLaws.{Off, off}
use Rattle.drafts.proofs.ReleaseKept.{free_kept, others_stay, none_new}
use Rattle.drafts.proofs.ReleaseSpared.{free_spares}
use Rattle.drafts.proofs.MovedLaws as moving
use Rattle.drafts.proofs.MovedLaws.{Moving}
use Rattle.rules.specs.Shape.{Entry, shape, chunk_end}
use Rattle.rules.specs.Kinds.{live, block_of, block_words}
use Rattle.rules.specs.Check.{Passes}
use Rattle.rules.specs.Draft.{Draft, as_read, also_writes}
use Rattle.rules.specs.Cut.{Grant}
use Rattle.rules.specs.Outcome.{made}
use Rattle.rules.specs.Allocate.{grant, cleared}
use Rattle.rules.specs.Free.{is_live, free_block}
use Rattle.rules.specs.Statements.{Left, left_by}
use Rattle.rules.proofs.SpotLaws.{inside}
use Rattle.drafts.proofs.FillLaws.{Within, filled_within, fill_reads, below_block, above_block}
use Rattle.promises.specs.Room.{OnChain, HoldsBlock}
use Rattle.promises.specs.Apart.{SameWords, Keeps, KeepsAll, KeepsOthers, Gone, NoneNewBut, CutFrom, New}
use Rattle.promises.proofs.ServeLaws.{source_serves}
use Rattle.promises.proofs.ReasonLaws.{one_block}

-- the block at b is new, and the live blocks are those of before and this one
abbrev pub NewApart : List ℕ → Heap → ℕ → ℕ → Left → Type 0
NewApart ws h n b left = New ws h n b left × KeepsAll ws h left × NoneNewBut ws h b left

-- where nothing is written every live block is kept
pub kept_still : (ws : List ℕ) (h : Heap) (e : Entry) → OnChain ws h e → live h e ≡ true → Keeps ws ws h e
kept_still ws h e m l = record { held = record { member = m; live = l; block = refl }; same = λ k r. refl }

-- a block kept by two steps is kept by both together
keeps_on : (ws us vs : List ℕ) (g h : Heap) (e : Entry) → Keeps ws us g e → Keeps us vs h e → Keeps ws vs h e
keeps_on ws us vs g h e a b = record { held = b.held; same = λ k l. b.same k l ∙ a.same k l }

-- n bytes are granted
module _ {ws : List ℕ} {h : Heap} {n : ℕ} (room : Grantable ws h n) where
  abbrev pub new : Entry
  new = granting.new room

  abbrev pub granted_heap : Heap
  granted_heap = granting.granted_heap room

  abbrev from : Entry
  from = source_chunk room

  -- the new chunk is cut from it
  pub cut_from : CutFrom ws h n new from
  cut_from =
      let c = cutting room in
      let i = ap (λ (x : Grant). x.granted) (grant_is room) in
      record {
        member = (can room).member;
        serves = source_serves ws h room.well n (source room) from room.some (can room);
        starts = rw i (omega arith);
        ends = rw i (omega arith);
        enough = granted_large room;
        apart = granting.granted_beside room;
      }

  -- stores ss into the new block
  module _ (ss : List Store) (w : Within new ss) where
    abbrev pub filled_words : List ℕ
    filled_words = granting.filled_words room ss w

    abbrev same_chain : shape filled_words granted_heap.bytes ≡ shape (granting.granted_words room) granted_heap.bytes
    same_chain = (granting.granted_filled room ss w).chain

    pub new_held : HoldsBlock filled_words granted_heap (block_of new) new
    new_held = record { member = rw same_chain (granting.new_there room); live = granting.new_live room; block = refl }

    -- they are to no word of a live block
    old_off : (e : Entry) → OnChain ws h e → live h e ≡ true → (k : ℕ) → k < block_words e → Off (block_of e / 4 + k) ss
    old_off e m l k r = go (granting.granted_beside room e m l)
      where
        go : (chunk_end e ≤ new.place) ⊎ (chunk_end new ≤ e.place) → Off (block_of e / 4 + k) ss
        go (inl q) = let i = inside ws h room.well e m in below_block new ss w _ (omega arith)
        go (inr q) = above_block new ss w _ (omega arith)

    -- so every live block is kept
    pub keeps_all : (e : Entry) → OnChain ws h e → live h e ≡ true → Keeps ws filled_words granted_heap e
    keeps_all e m l =
        record {
          held = record { member = rw same_chain (granting.old_there room e m l); live = (live_stays room e m l).1; block = refl };
          same = λ k r.
              let i = inside ws h room.well e m in
              rw (granting.appended room ss w)
              (off ss (granting.granted_words room) (block_of e) k (old_off e m l k r)
              ∙ off (the_grant room).draft.stores ws (block_of e) k (grant_spares room e m l _ (omega arith) (omega arith)));
        }

    -- no other chunk becomes live
    only_new : (e : Entry) → OnChain filled_words granted_heap e → live granted_heap e ≡ true → (block_of e ≡ block_of new) ⊎ (OnChain ws h e × (live h e ≡ true))
    only_new e m l = go (granted_only room e (rw (same_chain ∙ (granting.granted_pictured room).chain) at m) l)
      where
        go : (e ≡ new) ⊎ (OnChain ws h e × (live h e ≡ true)) → (block_of e ≡ block_of new) ⊎ (OnChain ws h e × (live h e ≡ true))
        go (inl q) = inl (ap block_of q)
        go (inr k) = inr k

    -- the promise about a new block
    pub new_apart : (a : Answer)
        → NewApart ws h n (block_of new) (left_by ws (made a (also_writes ss (the_grant room).draft)))
    new_apart a = ((new, from, (new_held, cut_from)), keeps_all, only_new)

-- clearing a block writes only inside it
pub cleared_within : (e : Entry) → Within e (cleared e)
cleared_within e = filled_within e (λ k. 0) (block_words e) (omega arith)

-- a cleared block reads 0
pub new_clear : {ws : List ℕ} {h : Heap} {n : ℕ} → Grantable ws h n
    → let g = grant n (as_read ws h) in let after = written ws (g.draft.stores ++ cleared g.granted) in
    (e : Entry) → HoldsBlock after g.draft.heap (block_of g.granted) e → (k : ℕ) → k < block_words e → word after (block_of g.granted) k ≡ 0
new_clear room e k j r =
    let x : Entry = new room in
    let w = cleared_within x in
    let f = granting.granted_filled room (cleared x) w in
    let q = one_block _ (granted_heap room) f.passes (block_of x) e x k (new_held room (cleared x) w) in
    let l = granting.granted_lies room in
    let u = granted_large room in
    rw (granting.appended room (cleared x) w)
    (fill_reads (λ i. 0) (block_of x) (block_words x) 0 (granting.granted_words room) (omega arith) j (omega arith)
    (omega (arith, ap block_words q)))

-- the live block at b is freed
module _ (ws : List ℕ) (h : Heap) (p : Passes ws h) (b : ℕ) (l : is_live (as_read ws h) b ≡ true) where
  abbrev freed : Draft
  freed = free_block b (as_read ws h)

  abbrev freed_words : List ℕ
  freed_words = written ws freed.stores

  -- every other live block is kept, and no other block is live
  pub others_kept : (e : Entry) → OnChain ws h e → live h e ≡ true → block_of e ≢ b → Keeps ws freed_words freed.heap e
  others_kept e m k o =
      let r = others_stay ws h p b l e m k o in
      record {
        held = record { member = rw (free_kept ws h p b l).chain r.0; live = r.1; block = refl };
        same = λ j q.
            let i = inside ws h p e m in
            off freed.stores ws (block_of e) j (free_spares ws h p b l e m k o _ (omega arith) (omega arith));
      }

  pub none_others : (e : Entry) → OnChain freed_words freed.heap e → live freed.heap e ≡ true → OnChain ws h e × (live h e ≡ true) × (block_of e ≢ b)
  none_others e m k = none_new ws h p b l e (rw (free_kept ws h p b l).chain at m) k

-- the block of the chunk e moves
module _ {ws : List ℕ} {h : Heap} {n : ℕ} {e : Entry} (moves : Moving ws h n e) where
  abbrev pub to : Entry
  to = moving.to moves

  -- the words and the record after the copy, and after the old block was freed
  abbrev pub copied_words : List ℕ
  copied_words = moving.copied_words moves

  abbrev pub copied_heap : Heap
  copied_heap = moving.copied_heap moves

  abbrev pub moved_words : List ℕ
  moved_words = moving.moved_words moves

  abbrev pub moved_heap : Heap
  moved_heap = (free_block (block_of e) (moving.copied_over moves)).heap

  abbrev copies : List Store
  copies = moving.copies moves

  abbrev within : Within to copies
  within = moving.copies_within moves

  abbrev longer : block_words e ≤ block_words to
  longer = moving.fits moves

  -- the copy keeps every live block, and the free every one but the old
  copied_keeps : (d : Entry) → OnChain ws h d → live h d ≡ true → Keeps ws copied_words copied_heap d
  copied_keeps = keeps_all moves.room copies within

  moved_keeps : (d : Entry) → OnChain copied_words copied_heap d → live copied_heap d ≡ true → block_of d ≢ block_of e → Keeps copied_words moved_words moved_heap d
  moved_keeps d k j o =
      rw ((moving.moved_reread moves).0, moving.moved_words_lem moves)
      (others_kept copied_words copied_heap (moving.copied_passes moves) (block_of e) (moving.still_live moves) d k j o)

  -- the free keeps the new block
  pub to_kept : Keeps copied_words moved_words moved_heap to
  to_kept =
      let r = new_held moves.room copies within in
      moved_keeps to r.member r.live (λ q. granted_new moves.room e moves.member moves.live (omega arith))

  -- the new block begins with the old one's words
  copied_reads : SameWords ws (block_of e) copied_words (block_of to) (block_words e)
  copied_reads k r =
      let x = granting.granted_lies moves.room in
      let y = longer in
      rw (granting.appended moves.room copies within)
      (fill_reads (λ j. word ws (block_of e) j) (block_of to) (block_words e) 0 (granting.granted_words moves.room) (omega arith) k (omega arith) (omega arith))

  -- afterwards the live blocks are those after the copy, without the old one
  moved_only : (d : Entry) → OnChain moved_words moved_heap d → live moved_heap d ≡ true
      → OnChain copied_words copied_heap d × (live copied_heap d ≡ true) × (block_of d ≢ block_of e)
  moved_only d k j =
      none_others copied_words copied_heap (moving.copied_passes moves) (block_of e) (moving.still_live moves) d
      (rw ((moving.moved_reread moves).0, moving.moved_words_lem moves) at k)
      (rw (moving.moved_reread moves).0 at j)

  -- the promise about a moved block
  pub moved_apart : (a : Answer) → let left = left_by ws (made a (free_block (block_of e) (moving.copied_over moves))) in
      New ws h n (block_of to) left × KeepsOthers ws h (block_of e) left × Gone (block_of e) left × NoneNewBut ws h (block_of to) left
      × SameWords ws (block_of e) moved_words (block_of to) (block_words e)
  moved_apart a = (
    (to, from moves.room, (to_kept.held, cut_from moves.room)),
    (λ d k j o. let r = copied_keeps d k j in keeps_on ws copied_words moved_words copied_heap moved_heap d r (moved_keeps d r.held.member r.held.live o)),
    (λ d k. (moved_only d k.member k.live).2 k.block),
    (λ d k j. let r = moved_only d k j in only_new moves.room copies within d r.0 r.1),
    λ k r. to_kept.same k (let y = longer in omega arith) ∙ copied_reads k r,
  )
