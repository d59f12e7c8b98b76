-- Joining (coalescing) by the kinds of a chunk's two neighbours; and the chunk of a live block between its neighbours. Assumes nothing.
use mathlib.Core.Path.{◌≡◌, refl, ap, ◌∙◌}
use mathlib.Core.Logic.{◌⊎◌, inl, inr}
use mathlib.Core.Bool.{Bool, true, false, cond, ◌&&◌, false≢true, and-false}
use mathlib.Core.List.{List, [], ◌∷◌, ◌++◌, append_assoc}
use Prim.Native.Nat.{ℕ, ◌+◌, ◌-◌, ◌≤◌, ◌<◌}
use native.Mathlib.Decide.{dec_lt}
use native.Mathlib.Omega.{arith}
use lib.Dec.{ltb}
use lib.ListN.{drop}
use borrow.Author.Tests.{lt-ltb, le-ltb}
use Rattle.lists.specs.Lists.{Mem, head_or, last_or, but_last}
use Rattle.lists.proofs.SplitLaws.{in_split, split_second}
use Rattle.record.specs.declared.heap.Heap.{Heap}
use Rattle.record.specs.declared.kinds.Kind.{Kind}
use Rattle.record.specs.declared.kinds.Kind.TheVariants.{Start, InUse, Ordinary, Donor, Top, End}
use Rattle.region.specs.Words.{word, forward}
use Rattle.rules.specs.Shape.{Entry, entry, shape, bin_list, chunk_end}
use Rattle.rules.specs.Kinds.{kind_of, ordinary_kind, free_kind, ordinary, is_free, live, unused, outside}
use Rattle.rules.specs.Check.{Passes}
use Rattle.rules.specs.Draft.{Draft, relink, settle}
use Rattle.rules.specs.Join.{Joined, joined_as, joining, leave_bins, moved_down, swallowing}
use Rattle.rules.proofs.SpotLaws.{Between, Around, around, chunks_apart, one_chunk}
use Rattle.rules.proofs.NamedLaws.{live_between, kind_free}
use Rattle.books.proofs.BooksLaws.{Far}
use Rattle.books.proofs.HeapBooks.{member_entry}

-- the kind of a neighbour as joining sees it: with merging off all count as in use
abbrev pub sees : Heap → Entry → Kind
sees h e = cond h.merge (kind_of h e) InUse

-- the rule `joining`, by the two neighbours' kinds as it sees them
abbrev pub joined_by : Kind → Kind → List Entry → Entry → List Entry → Joined
joined_by under over low e high =
    let from = cond (ordinary_kind under) (last_or outside low).place e.place in
    let to = cond (free_kind over) (chunk_end (head_or outside high)) (chunk_end e) in
    record {
      low = cond (ordinary_kind under) (but_last low) low;
      here = entry from (to - from) unused;
      becomes = joined_as over;
      high = cond (free_kind over) (drop 1 high) high;
      leaving = cond (ordinary_kind under) (last_or outside low ∷ []) [] ++ cond (ordinary_kind over) (head_or outside high ∷ []) [];
    }

module _ (low : List Entry) (e : Entry) (high : List Entry) where
  -- the rule as it is written, over the merge setting and the two kinds
  abbrev ruled : Bool → Kind → Kind → Joined
  ruled t a b =
      let down = t && ordinary_kind a in
      let up = t && free_kind b in
      let from = cond down (last_or outside low).place e.place in
      let to = cond up (chunk_end (head_or outside high)) (chunk_end e) in
      record {
        low = cond down (but_last low) low;
        here = entry from (to - from) unused;
        becomes = cond up (joined_as b) Ordinary;
        high = cond up (drop 1 high) high;
        leaving = cond down (last_or outside low ∷ []) [] ++ cond (up && ordinary_kind b) (head_or outside high ∷ []) [];
      }

  seen : (t : Bool) (a b : Kind) → ruled t a b ≡ joined_by (cond t a InUse) (cond t b InUse) low e high
  seen false a b = refl
  seen true a Start = refl
  seen true a InUse = refl
  seen true a Ordinary = refl
  seen true a Donor = refl
  seen true a Top = refl
  seen true a End = refl

  pub joining_sees : (h : Heap) → joining h low e high ≡ joined_by (sees h (last_or outside low)) (sees h (head_or outside high)) low e high
  unfolding joining
  joining_sees h = seen h.merge (kind_of h (last_or outside low)) (kind_of h (head_or outside high))

-- a neighbour that it sees as ordinary, or as free, is so
pub sees_ordinary : (t : Bool) (k : Kind) → ordinary_kind (cond t k InUse) ≡ true → ordinary_kind k ≡ true
sees_ordinary true k e = e
sees_ordinary false k e = absurd (false≢true e)

pub sees_free : (t : Bool) (k : Kind) → free_kind (cond t k InUse) ≡ true → free_kind k ≡ true
sees_free true k e = e
sees_free false k e = absurd (false≢true e)

-- the rest of the rule `release`, after joining: the result is linked into the chain; then it settles
abbrev pub linked_back : Joined → Draft → Draft
linked_back j d = relink j.low (j.here ∷ []) j.high (leave_bins j.leaving d)

abbrev pub given_back : Joined → Draft → Draft
given_back j d = swallowing j.here (settle j.becomes j.here (linked_back j d))

-- a place in a chunk, its own included, moves down to it; any other stays
pub inside_moves : (e : Entry) (c : ℕ) → e.place ≤ c → c < chunk_end e → moved_down e c ≡ e.place
unfolding moved_down
inside_moves e c lo hi = go (dec_lt e.place c)
  where
    go : Dec (e.place < c) → cond (ltb e.place c && ltb c (chunk_end e)) e.place c ≡ e.place
    go (yes l) = rw (lt-ltb e.place c l, lt-ltb c (chunk_end e) hi)
    go (no n) = rw (le-ltb e.place c (omega arith)) (omega arith)

pub outside_stays : (e : Entry) (c : ℕ) → (c ≤ e.place) ⊎ (chunk_end e ≤ c) → moved_down e c ≡ c
unfolding moved_down
outside_stays e c (inl l) = rw (le-ltb e.place c l)
outside_stays e c (inr l) = rw (le-ltb c (chunk_end e) l, and-false (ltb e.place c))

-- the joined chunk ends at `to`; y is the chunk above it, and `named` the place that the words give for it
pub record Summit (es : List Entry) (e : Entry) (to named : ℕ) (y : Entry) : Type 0 where
  pub member : Mem y es
  pub place : y.place ≡ to
  pub up : chunk_end e ≤ to
  pub link : named ≡ to

-- the chunk e of a live block; the chain is split there
pub record LiveChunk (ws : List ℕ) (h : Heap) (low : List Entry) (e : Entry) (high : List Entry) : Type 0 where
  pub well : Passes ws h
  pub split : shape ws h.bytes ≡ low ++ e ∷ high
  pub live : live h e ≡ true

module _ {ws : List ℕ} {h : Heap} {low : List Entry} {e : Entry} {high : List Entry} (chunk : LiveChunk ws h low e high) where
  abbrev well : Passes ws h
  well = chunk.well

  abbrev pub es : List Entry
  es = shape ws h.bytes

  abbrev below : Entry
  below = last_or outside low

  abbrev above : Entry
  above = head_or outside high

  pub here : Mem e es
  here = in_split low e high chunk.split

  pub own : (e.flags ≡ 1) × Between h.bytes e
  own = live_between ws h well e here chunk.live

  pub sides : Around ws es low e high
  sides = let b = own.1 in around ws h well low e high chunk.split (omega arith) (omega arith)

  -- the chain split at the chunk below e, and at the chunk above it
  pub split_low : es ≡ but_last low ++ below ∷ e ∷ high
  split_low =
      chunk.split ∙ ap (λ (x : List Entry). x ++ e ∷ high) sides.lows ∙ append_assoc (but_last low) (below ∷ []) (e ∷ high)

  pub split_high : es ≡ (low ++ e ∷ []) ++ above ∷ drop 1 high
  split_high =
      split_second low e above (drop 1 high) (chunk.split ∙ ap (λ (x : List Entry). low ++ e ∷ x) sides.highs)

  pub summit : (u : Bool) → (u ≡ true → is_free h above ≡ true)
      → Summit es e (cond u (chunk_end above) (chunk_end e)) (cond u (word ws (chunk_end e) forward) (chunk_end e)) (head_or outside (cond u (drop 1 high) high))
  summit false o =
      record { member = sides.above; place = sides.above_place; up = omega arith; link = refl }
  summit true o =
      let f = kind_free ws h well above sides.above (o refl) in
      let s = sides.above_place in
      let a = around ws h well (low ++ e ∷ []) above (drop 1 high) split_high (omega arith) (omega arith) in
      record {
        member = a.above;
        place = a.above_place;
        up = omega arith;
        link = rw (← s) (a.own_forward ∙ a.above_place);
      }

  -- neighbours that joining sees as ordinary or free are so
  pub seen_below : ordinary_kind (sees h below) ≡ true → ordinary h below ≡ true
  seen_below q = sees_ordinary h.merge (kind_of h below) q

  pub seen_free : free_kind (sees h above) ≡ true → is_free h above ≡ true
  seen_free q = sees_free h.merge (kind_of h above) q

  pub seen_above : ordinary_kind (sees h above) ≡ true → ordinary h above ≡ true
  seen_above q = sees_ordinary h.merge (kind_of h above) q

  -- a member of a bin is far from every part of e of 24 bytes
  pub part_far : (c : ℕ) → e.place ≤ c → c + 24 ≤ chunk_end e → (j x : ℕ) → j < h.bins → Mem x (bin_list ws h j) → Far c x
  part_far c lo hi j x lj m =
      let (d, r) = member_entry ws h well j x lj m in
      let b = r.is.free.between in
      let ne : e.place ≡ d.place → ⊥ =
      λ s. let g = ap (λ (y : Entry). y.flags) (one_chunk ws h well e d here r.member s) in omega (arith, r.is.free.flags, own.0) in
      go d r.place b.some (chunks_apart ws h well e d here r.member ne)
    where
      go : (d : Entry) → d.place ≡ x → 24 ≤ d.size → (chunk_end e ≤ d.place) ⊎ (chunk_end d ≤ e.place) → Far c x
      go d q s (inl k) = omega arith
      go d q s (inr k) = omega arith
