-- Giving back the tail of a live block that shrinks does to a heap that passes what the rules say. The tail is no chunk of the chain:
-- the kept chunk's forward link is stored first, and the tail's header was never written. Assumes nothing.
use mathlib.Core.Path.{◌≡◌, refl, sym, ap, ◌∙◌}
use mathlib.Core.Bool.{Bool, true, false, cond, false≢true}
use mathlib.Core.List.{List, [], ◌∷◌, ◌++◌}
use Prim.Native.Nat.{ℕ, ◌+◌, ◌%◌, ◌<◌}
use native.Mathlib.Omega.{arith}
use Rattle.lists.specs.Lists.{Mem, head_or}
use Rattle.lists.proofs.MembersLaws.{last_append}
use Rattle.record.specs.declared.heap.Heap.{Heap}
use Rattle.record.specs.declared.kinds.Kind.{Kind}
use Rattle.record.specs.declared.kinds.Kind.TheVariants.{InUse}
use Rattle.record.specs.Heap.{at, summary_of}
use Rattle.region.specs.Words.{Store, word, forward, backward}
use Rattle.region.proofs.WordsLaws.{off}
use Rattle.rules.specs.Shape.{Entry, chunk_end, flags_at, bin_list}
use Rattle.rules.specs.Kinds.{free_kind, used, outside}
use Rattle.rules.specs.Check.{Passes}
use Rattle.rules.specs.Draft.{Draft, as_read}
use Rattle.rules.specs.Join.{joining, release}
use Rattle.rules.proofs.KindsLaws.{kind_in_use}
use Rattle.rules.proofs.SpotLaws.{inside}
use Rattle.books.specs.Books.{books}
use Rattle.books.proofs.SegmentLaws.{PassBy}
use Rattle.books.proofs.WayLaws.{way_keeps}
use Rattle.settling.proofs.DraftLaws.{Follows, follows_begins}
use Rattle.seek.specs.declared.Place.{Place}
use Rattle.release.specs.declared.Union.{Union}
use Rattle.release.specs.Release.{neighbour_m, joined_m, join_m}
use Rattle.drafts.proofs.JoinLaws.{LiveChunk, sees, joining_sees, here, own, sides, seen_free, seen_above, part_far}
use Rattle.drafts.proofs.ShrinkLaws.{ShrinkingChunk, kept_chunk, tail_chunk, split_stores, split_words, split_draft, tail_after}
use Rattle.drafts.proofs.ShrinkKept.{tail_given}
use Rattle.release.proofs.JoinMeaning.{Agrees, UnionLies, neighbour_is, part_joins, part_lies}
use Rattle.release.proofs.GivingMeaning.{Released, given_back_lem}

-- a chunk in use is seen as one, with merging or without
in_use_seen : (t : Bool) → cond t InUse InUse ≡ InUse
in_use_seen true = refl
in_use_seen false = refl

module _ {ws : List ℕ} {h : Heap} {low : List Entry} {e : Entry} {high : List Entry} {n : ℕ} (shrinks : ShrinkingChunk ws h low e high n) where
  abbrev kept : Entry
  kept = kept_chunk shrinks

  abbrev tail : Entry
  tail = tail_chunk shrinks

  abbrev stores : List Store
  stores = split_stores shrinks

  abbrev words : List ℕ
  words = split_words shrinks

  abbrev after : Draft
  after = tail_after shrinks

  abbrev chunk : LiveChunk ws h low e high
  chunk = shrinks.chunk

  abbrev well : Passes ws h
  well = chunk.well

  -- where the tail lies, whatever its flags, and what the code joins to it
  abbrev pub tail_place : ℕ → Place
  tail_place flags = record { before = at e.place; chunk = at (e.place + n); end = chunk_end e; flags = flags }

  abbrev pub tail_joined : ℕ → Union
  tail_joined flags = join_m words (summary_of h) (tail_place flags)

  abbrev above : Entry
  above = head_or outside high

  place_eight : e.place % 8 ≡ 0
  place_eight = (inside ws h well e (here chunk)).place

  -- no chunk's flags stand in the word that was stored
  flags_stand : (c : ℕ) → c % 8 ≡ 0 → flags_at words c ≡ flags_at ws c
  flags_stand c z =
      let k = place_eight in
      ap (λ (v : ℕ). v % 8) (off stores ws c backward (omega arith))

  end_eight_lem : chunk_end e % 8 ≡ 0
  end_eight_lem = let i = inside ws h well e (here chunk) in omega arith

  neighbour_stands : (c : ℕ) → c % 8 ≡ 0 → neighbour_m words (summary_of h) c ≡ neighbour_m ws (summary_of h) c
  unfolding neighbour_m
  neighbour_stands c z = rw (flags_stand c z)

  -- a chunk in use where the block's chunk is, which joins nothing
  used_seen : (d : Entry) → d.place ≡ e.place → d.flags ≡ used → sees h d ≡ InUse
  used_seen d q f =
      let b = (own chunk).1 in
      ap (λ (k : Kind). cond h.merge k InUse) (sym (kind_in_use h.bytes h.donor.0 h.top.0 d (λ z. omega arith) (λ z. omega arith) (omega arith)))
      ∙ in_use_seen h.merge

  tail_lies_by : UnionLies ws h (e.place + n) kept above (joined_m ws InUse (sees h above) e.place (e.place + n) (chunk_end e))
  tail_lies_by =
      let z = place_eight in
      part_lies chunk (e.place + n) kept InUse (sees h above) (omega arith) (omega arith) (omega arith)
      (λ q. absurd (false≢true q)) (seen_free chunk) (seen_above chunk)

  -- what the code joins in the words so changed is what it would have joined before
  joined_stands : joined_m words InUse (sees h above) e.place (e.place + n) (chunk_end e)
      ≡ joined_m ws InUse (sees h above) e.place (e.place + n) (chunk_end e)
  unfolding joined_m
  joined_stands =
      let t = tail_lies_by.top in
      let i = inside ws h well t.0 t.1 in
      let z = place_eight in
      let y = end_eight_lem in
      let to : ℕ = cond (free_kind (sees h above)) (word ws (chunk_end e) forward) (chunk_end e) in
      rw (off stores ws (chunk_end e) forward (omega arith), flags_stand to (omega (arith, t.2)))

  join_sees : (flags : ℕ) → tail_joined flags ≡ joined_m ws InUse (sees h above) e.place (e.place + n) (chunk_end e)
  unfolding join_m
  join_sees flags =
      rw (
        neighbour_stands e.place place_eight,
        neighbour_stands (chunk_end e) end_eight_lem,
        neighbour_is ws h well e.place e (here chunk) refl,
        neighbour_is ws h well (chunk_end e) above (sides chunk).above (sides chunk).above_place,
        used_seen e refl (own chunk).0,
      )
      joined_stands

  tail_lies : (flags : ℕ) → UnionLies ws h (e.place + n) kept above (tail_joined flags)
  tail_lies flags = rw (join_sees flags) tail_lies_by

  tail_joins : (flags : ℕ) → Agrees (joining h (low ++ kept ∷ []) tail high) kept above (tail_joined flags)
  tail_joins flags =
      rw (joining_sees (low ++ kept ∷ []) tail high h, join_sees flags, last_append outside low (kept ∷ []), used_seen kept refl refl)
      (rw (last_append outside low (kept ∷ [])) at
      (part_joins chunk (low ++ kept ∷ []) tail InUse (sees h above) (omega arith) refl (seen_free chunk)))

  -- the stored word is none of a chunk that is in a bin
  follows : Follows ws h (split_draft shrinks)
  unfolding as_read
  follows =
      let f = follows_begins ws h well in
      record {
        way = way_keeps _ _ _ f.way stores clear;
        from = f.from;
        table = f.table;
        heap = f.heap;
      }
    where
      clear : (j x : ℕ) → j < h.bins → Mem x (bin_list ws h j) → PassBy stores x
      clear j x lj m =
          let a = part_far chunk e.place (omega arith) (omega arith) j x lj m in
          let z = place_eight in
          omega arith

  pub tail_released : (flags : ℕ) → Released ws h (books words h.heads h.tails) (tail_place flags) (tail_joined flags) after
  unfolding release as_read
  tail_released flags =
      given_back_lem well follows (λ i x m. m) (tail_lies flags) (tail_joins flags) (tail_given shrinks).sized (tail_place flags) refl (sym (sides chunk).above_place)
