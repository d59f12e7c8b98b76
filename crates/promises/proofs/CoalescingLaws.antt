-- The rules keep the promise `Coalescing` (`coalescing`): what joins when a live block is freed, and when the tail of one that shrinks is given back, by the
-- merge setting and the kinds of the two neighbours. Assumes nothing.
use mathlib.Core.Path.{◌≡◌, refl, sym, ap, ◌∙◌}
use mathlib.Core.Logic.{◌≢◌, ◌⊎◌, inl, inr}
use mathlib.Core.Bool.{Bool, true, false, cond, ◌&&◌, true≢false, and-false}
use mathlib.Core.List.{List, [], ◌∷◌, ◌++◌, append_assoc}
use Prim.Native.Nat.{ℕ, ◌+◌, ◌-◌, ◌≤◌}
use native.Mathlib.Omega.{arith}
use lib.IntN.{ℤ}
use borrow.Author.Tests.{le-leb, le-ltb}
use Rattle.lists.proofs.MembersLaws.{last_append}
use Rattle.lists.proofs.SplitLaws.{but_last_lem, split_second}
use Rattle.record.specs.declared.answers.Answer.TheVariants.{Granted}
use Rattle.record.specs.declared.heap.Heap.{Heap}
use Rattle.record.specs.declared.heap.Summary.{Summary}
use Rattle.record.specs.declared.kinds.Kind.{Kind}
use Rattle.record.specs.declared.kinds.Kind.TheVariants.{Start, InUse, Ordinary, Donor, Top, End}
use Rattle.record.specs.Heap.{summary_of}
use Rattle.region.specs.declared.Block.{Block}
use Rattle.region.specs.Words.{put, forward}
use Rattle.rules.specs.Shape.{Entry, entry, shape, chunk_end}
use Rattle.rules.specs.Kinds.{kind_of, free_kind, ordinary, is_free, is_at, overhead, used, unused, outside}
use Rattle.rules.specs.Check.{Passes}
use Rattle.rules.specs.Draft.{Draft, Spot, as_read, also_writes, now_uses, spot}
use Rattle.rules.specs.Serve.{need}
use Rattle.rules.specs.Cut.{Grant}
use Rattle.rules.specs.Join.{Joined, joined_as, joining, release}
use Rattle.rules.specs.Outcome.{made, grants}
use Rattle.rules.specs.Free.{block_spot, free_block}
use Rattle.rules.specs.Reallocate.{shrunk, resized}
use Rattle.rules.specs.Statements.{Left, left_by}
use Rattle.rules.specs.Calls.{Free, Reallocate}
use Rattle.rules.proofs.SpotLaws.{spot_cut}
use Rattle.drafts.proofs.StepLaws.{settled_as, released_chain, released_donor, released_top}
use Rattle.drafts.proofs.BlockLaws.{splits}
use Rattle.drafts.proofs.ReleaseKept.{free_kept}
use Rattle.drafts.proofs.ShrinkKept.{shrink_kept}
use Rattle.drafts.proofs.WantedLaws.{block_shrinks}
use Rattle.promises.specs.Ways.{ours}
use Rattle.promises.specs.Room.{HoldsBlock}
use Rattle.promises.specs.Splitting.{chain_left}
use Rattle.promises.specs.Coalescing.{begins_at, spanning, GivenBackAs, Coalescing}
use Rattle.promises.proofs.ApartLaws.{is_live_lem, free_left, old_is, resized_left}

-- a chunk at c that joined one of kind k above it, or nothing: which donor and which top there are then
abbrev joined_summary : Bool → Kind → ℕ → Summary → Summary
joined_summary merge k c s = settled_as (cond (merge && free_kind k) (joined_as k) Ordinary) c s

new_donor_lem : (merge : Bool) (k : Kind) (c : ℕ) (s : Summary) → merge ≡ true → k ≡ Donor → (joined_summary merge k c s).donor.0 ≡ c
new_donor_lem merge k c s m q = rw (m, q)

same_donor_lem : (merge : Bool) (k : Kind) (c : ℕ) (s : Summary) → (merge ≡ false) ⊎ (k ≢ Donor) → (joined_summary merge k c s).donor.0 ≡ s.donor.0
same_donor_lem false k c s n = refl
same_donor_lem true Start c s n = refl
same_donor_lem true InUse c s n = refl
same_donor_lem true Ordinary c s n = refl
same_donor_lem true Donor c s (inl n) = absurd (true≢false n)
same_donor_lem true Donor c s (inr n) = absurd (n refl)
same_donor_lem true Top c s n = refl
same_donor_lem true End c s n = refl

new_top_lem : (merge : Bool) (k : Kind) (c : ℕ) (s : Summary) → merge ≡ true → k ≡ Top → (joined_summary merge k c s).top.0 ≡ c
new_top_lem merge k c s m q = rw (m, q)

same_top_lem : (merge : Bool) (k : Kind) (c : ℕ) (s : Summary) → (merge ≡ false) ⊎ (k ≢ Top) → (joined_summary merge k c s).top.0 ≡ s.top.0
same_top_lem false k c s n = refl
same_top_lem true Start c s n = refl
same_top_lem true InUse c s n = refl
same_top_lem true Ordinary c s n = refl
same_top_lem true Donor c s n = refl
same_top_lem true Top c s (inl n) = absurd (true≢false n)
same_top_lem true Top c s (inr n) = absurd (n refl)
same_top_lem true End c s n = refl

-- the chunk e between `below` and `above` is given back
module _ (h : Heap) (low : List Entry) (below e above : Entry) (high : List Entry) where
  abbrev joined : Joined
  joined = joining h (low ++ below ∷ []) e (above ∷ high)

  -- what the rule leaves: the chain with the joined chunk, which is donor or top if it settled as such
  record LeftJoined (left : Left) : Type 0 where
    chain : chain_left left ≡ joined.low ++ joined.here ∷ [] ++ joined.high
    donor : left.heap.donor.0 ≡ (settled_as joined.becomes joined.here.place (summary_of h)).donor.0
    top : left.heap.top.0 ≡ (settled_as joined.becomes joined.here.place (summary_of h)).top.0

  -- that chain, by whether the chunk below joins, and the chunk above
  abbrev chain_with : Bool → Bool → List Entry
  chain_with down up =
      let from = cond down below.place e.place in
      let to = cond up (chunk_end above) (chunk_end e) in
      cond down low (low ++ below ∷ []) ++ entry from (to - from) unused ∷ [] ++ cond up high (above ∷ high)

  joined_chain : (down up : Bool) → (h.merge && ordinary h below) ≡ down → (h.merge && is_free h above) ≡ up
      → joined.low ++ joined.here ∷ [] ++ joined.high ≡ chain_with down up
  unfolding joining
  joined_chain down up q r = rw (last_append outside low (below ∷ []), but_last_lem low below, q, r)

  -- donor and top afterwards
  joined_summary_lem : settled_as joined.becomes joined.here.place (summary_of h) ≡ joined_summary h.merge (kind_of h above) (begins_at h below e) (summary_of h)
  unfolding joining
  joined_summary_lem = rw (last_append outside low (below ∷ []))

  -- so it is as the promise says
  module _ {left : Left} (k : LeftJoined left) where
    alone_chain : (h.merge && ordinary h below) ≡ false → (h.merge && is_free h above) ≡ false
        → chain_left left ≡ low ++ below ∷ spanning e e ∷ above ∷ high
    alone_chain q r = k.chain ∙ joined_chain false false q r ∙ simp append_assoc

    donor_is_lem : left.heap.donor.0 ≡ (joined_summary h.merge (kind_of h above) (begins_at h below e) (summary_of h)).donor.0
    donor_is_lem = k.donor ∙ ap (λ (s : Summary). s.donor.0) joined_summary_lem

    top_is_lem : left.heap.top.0 ≡ (joined_summary h.merge (kind_of h above) (begins_at h below e) (summary_of h)).top.0
    top_is_lem = k.top ∙ ap (λ (s : Summary). s.top.0) joined_summary_lem

    given_back_lem : GivenBackAs h low below e above high left
    given_back_lem =
        record {
          off = λ m. alone_chain (rw m refl) (rw m refl);
          alone = λ o f. alone_chain (rw (o, and-false) refl) (rw (f, and-false) refl);
          down = λ m o f. k.chain ∙ joined_chain true false (rw (m, o) refl) (rw (m, f) refl) ∙ simp append_assoc;
          up = λ m o f. k.chain ∙ joined_chain false true (rw (m, o) refl) (rw (m, f) refl) ∙ simp append_assoc;
          both = λ m o f. k.chain ∙ joined_chain true true (rw (m, o) refl) (rw (m, f) refl) ∙ simp append_assoc;
          new_donor = λ m q. donor_is_lem ∙ new_donor_lem h.merge (kind_of h above) (begins_at h below e) (summary_of h) m q;
          same_donor = λ n. donor_is_lem ∙ same_donor_lem h.merge (kind_of h above) (begins_at h below e) (summary_of h) n;
          new_top = λ m q. top_is_lem ∙ new_top_lem h.merge (kind_of h above) (begins_at h below e) (summary_of h) m q;
          same_top = λ n. top_is_lem ∙ same_top_lem h.merge (kind_of h above) (begins_at h below e) (summary_of h) n;
        }

module _ {ws : List ℕ} {h : Heap} (p : Passes ws h) {b : ℕ} {e : Entry} (k : HoldsBlock ws h b e) where
  abbrev before : Draft
  before = as_read ws h

  -- where the chain is cut at the chunk of a live block, the rule cuts it so too
  block_cut : (low high : List Entry) → shape ws h.bytes ≡ low ++ e ∷ high → block_spot before b ≡ record { low = low; here = e; high = high }
  block_cut low high split =
      let s = block_spot before b in
      sym (spot_cut ws h p s.low s.here s.high (splits ws h p b (is_live_lem p k)).split)
      ∙ ap (λ (x : Entry). spot (is_at x.place) (shape ws h.bytes)) (old_is p k) ∙ spot_cut ws h p low e high split

  -- the block is freed
  module _ (low : List Entry) (below above : Entry) (high : List Entry) (split : shape ws h.bytes ≡ low ++ below ∷ e ∷ above ∷ high) where
    free_cut : block_spot before b ≡ record { low = low ++ below ∷ []; here = e; high = above ∷ high }
    free_cut = block_cut (low ++ below ∷ []) (above ∷ high) (split_second low below e (above ∷ high) split)

    free_is : free_block b before ≡ now_uses e.size 0 (release (low ++ below ∷ []) e (above ∷ high) before)
    unfolding free_block
    free_is = ap (λ (s : Spot). now_uses s.here.size 0 (release s.low s.here s.high before)) free_cut

    free_joined : LeftJoined h low below e above high (ours (Free b) ws h)
    unfolding as_read
    free_joined =
        rw (free_left p k)
        (record {
          chain = (free_kept ws h p b (is_live_lem p k)).chain ∙ ap (λ (d : Draft). d.chain) free_is ∙ released_chain (low ++ below ∷ []) e (above ∷ high) before;
          donor = ap (λ (d : Draft). d.heap.donor.0) free_is ∙ released_donor (low ++ below ∷ []) e (above ∷ high) before;
          top = ap (λ (d : Draft). d.heap.top.0) free_is ∙ released_top (low ++ below ∷ []) e (above ∷ high) before;
        })

  -- the block shrinks, and its chunk keeps n bytes
  module _ {block : Block} {change : ℤ} (z : ℕ) (q : (ours (Reallocate b z) ws h).answer ≡ Granted block change) (spare : need overhead z + 24 ≤ e.size)
      (low : List Entry) (above : Entry) (high : List Entry) (split : shape ws h.bytes ≡ low ++ e ∷ above ∷ high) where
    abbrev n : ℕ
    n = need overhead z

    abbrev kept : Entry
    kept = entry e.place n used

    abbrev tail : Entry
    tail = entry (e.place + n) (e.size - n) used

    abbrev begun : Draft
    begun = also_writes (put e.place forward (e.place + n) ∷ []) before

    abbrev at : Spot
    at = block_spot before b

    room : n + 24 ≤ at.here.size
    room = rw (old_is p k) spare

    shrunk_is : resized ws at n before ≡ shrunk at n before
    unfolding resized
    shrunk_is = rw (le-ltb at.here.size n (let r = room in omega arith), le-leb (n + 24) at.here.size room)

    shrunk_left : ours (Reallocate b z) ws h ≡ left_by ws (made (grants at.here.size (shrunk at n before).granted) (shrunk at n before).draft)
    shrunk_left = resized_left p k z q ∙ ap (λ (g : Grant). left_by ws (made (grants at.here.size g.granted) g.draft)) shrunk_is

    tail_is : (shrunk at n before).draft ≡ now_uses e.size n (release (low ++ kept ∷ []) tail (above ∷ high) begun)
    tail_is = ap (λ (s : Spot). (shrunk s n before).draft) (block_cut low (above ∷ high) split)

    tail_joined_lem : LeftJoined h low kept tail above high (ours (Reallocate b z) ws h)
    unfolding as_read
    tail_joined_lem =
        rw shrunk_left
        (record {
          chain =
              (shrink_kept (block_shrinks p b (is_live_lem p k) z room)).chain ∙ ap (λ (d : Draft). d.chain) tail_is
              ∙ released_chain (low ++ kept ∷ []) tail (above ∷ high) begun;
          donor = ap (λ (d : Draft). d.heap.donor.0) tail_is ∙ released_donor (low ++ kept ∷ []) tail (above ∷ high) begun;
          top = ap (λ (d : Draft). d.heap.top.0) tail_is ∙ released_top (low ++ kept ∷ []) tail (above ∷ high) begun;
        })

pub coalescing : Coalescing ours
coalescing ws h p =
    record {
      free = λ b low below e above high split k. given_back_lem h low below e above high (free_joined p k low below above high split);
      tail = λ b z block change low e above high split k spare q.
          let n = need overhead z in
          given_back_lem h low (entry e.place n used) (entry (e.place + n) (e.size - n) used) above high
          (tail_joined_lem p k z q spare low above high split);
    }
