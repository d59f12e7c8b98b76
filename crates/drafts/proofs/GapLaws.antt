-- A chain with a gap, which one free chunk will fill. An ordinary chunk below the gap leaves its bin and widens it, and so does a free chunk
-- above it (coalescing). Live chunks stay the same. Assumes nothing.
use mathlib.Core.Path.{◌≡◌, refl, sym, ap, subst, ◌∙◌}
use mathlib.Core.Logic.{◌≢◌, ◌⊎◌, inl, inr}
use mathlib.Core.Bool.{true, false, false≢true}
use mathlib.Core.List.Memᴰ
use mathlib.Core.List.{List, [], ◌∷◌, ◌++◌, append_assoc}
use Prim.Native.Nat.{ℕ, ◌+◌, ◌-◌, ◌%◌, ◌≤◌, ◌<◌}
use native.Mathlib.Decide.{ℕ_discrete}
use native.Mathlib.Omega.{arith}
use Rattle.lists.specs.Lists.{Mem}
use Rattle.lists.proofs.SplitLaws.{among, middle_in, all_but}
use Rattle.record.specs.declared.heap.Heap.{Heap}
use Rattle.region.specs.Words.{written}
use Rattle.rules.specs.Shape.{Entry, entry, shape, chunk_end}
use Rattle.rules.specs.Kinds.{ordinary_kind, ordinary, unused, outside}
use Rattle.rules.specs.Check.{IsChunk, Passes}
use Rattle.rules.specs.Draft.{Draft, leave_bin}
use Rattle.rules.proofs.KindsLaws.{Used, kind_top, kind_donor, ordinary_free}
use Rattle.rules.proofs.SpotLaws.{Between, one_chunk, chunks_apart}
use Rattle.rules.proofs.TiledLaws.{Tiled, tiled_empty}
use Rattle.drafts.proofs.LivesLaws.{lives, lives_free}
use Rattle.drafts.proofs.PostsLaws.{Posts, top_at, donor_at}
use Rattle.drafts.proofs.LayoutLaws.{Beside, Laid, Layout, cuts, outer_elsewhere, layout_replaced, laid_between}
use Rattle.drafts.proofs.HeaderLaws.{headed_cut, headed_below}
use Rattle.drafts.proofs.HalfwayLaws.{Halfway, Opened}
use Rattle.drafts.proofs.OpenLaws.{Loose, opened_kept, opened_left}

-- the free chunk from one place to another
abbrev pub gap_chunk : ℕ → ℕ → Entry
gap_chunk from to = entry from (to - from) unused

-- the place c is that of a chunk outside the gap, or lies in the gap
abbrev pub Placed : ℕ → List Entry → ℕ → ℕ → Type 0
Placed c outer from to = IsChunk outer c ⊎ ((from ≤ c) × (c < to))

-- the chunk x joins the gap, which then runs from `from` to `to`
placed_wider : {c : ℕ} (low : List Entry) (x : Entry) (high : List Entry) {a b from to : ℕ} → Placed c (low ++ x ∷ [] ++ high) a b
    → from ≤ a → b ≤ to → from ≤ x.place → x.place < to → Placed c (low ++ high) from to
placed_wider low x high (inr (lo, hi)) l m n k = inr (omega arith, omega arith)
placed_wider {c} low x high {a} {b} {from} {to} (inl (y, member, q)) l m n k = go (among low (x ∷ []) high member)
  where
    go : Mem y (low ++ high) ⊎ Mem y (x ∷ []) → Placed c (low ++ high) from to
    go (inl r) = inl (y, r, q)
    go (inr r) = let s = ap (λ (e : Entry). e.place) (Memᴰ.eq_of_singleton r) in inr (omega arith, omega arith)

-- a chunk in use of the heap before the call reaches into the bytes between two places
pub record Crossed (ws : List ℕ) (h : Heap) (from to : ℕ) : Type 0 where
  pub chunk : Entry
  pub member : Mem chunk (shape ws h.bytes)
  pub used : Used chunk
  pub below : from < chunk_end chunk
  pub above : chunk.place < to

crossed_wider : {ws : List ℕ} {h : Heap} {a b from to : ℕ} → Crossed ws h a b → from ≤ a → b ≤ to → Crossed ws h from to
crossed_wider c l m =
    record { chunk = c.chunk; member = c.member; used = c.used; below = omega (arith, c.below); above = omega (arith, c.above) }

-- so no free chunk lay there
pub crossed_fresh : {ws : List ℕ} {h : Heap} {from to : ℕ} → Passes ws h → Crossed ws h from to → Mem (gap_chunk from to) (shape ws h.bytes) → ⊥
crossed_fresh {ws} {h} {from} {to} p c m = go (ℕ_discrete c.chunk.place from)
  where
    apart : Beside c.chunk (gap_chunk from to) → ⊥
    apart (inl b) = omega (arith, c.below)
    apart (inr b) = omega (arith, c.above)

    go : Dec (c.chunk.place ≡ from) → ⊥
    go (yes q) =
        let s = ap (λ (e : Entry). e.flags) (one_chunk ws h p c.chunk (gap_chunk from to) c.member m q) in
        omega (arith, c.used)
    go (no n) = apart (chunks_apart ws h p c.chunk (gap_chunk from to) c.member m n)

-- the chain is `low`, a gap, and `high`; with the gap filled it is a layout; the live chunks are those of `base`;
-- the patrol's place is a chunk's, or lies in the gap; a chunk in use lay in it before the call
pub record Gap (ws : List ℕ) (h : Heap) (base low : List Entry) (from to : ℕ) (high : List Entry) (d : Draft) : Type 0 where
  pub layout : Layout h.bytes (low ++ gap_chunk from to ∷ [] ++ high)
  pub last : Entry
  pub opened : Opened ws h low (gap_chunk from to) last high d
  pub alive : lives h (low ++ high) ≡ lives h base
  pub patrol : Placed h.patrol.0 (low ++ high) from to
  pub crossed : Crossed ws h from to

-- top and donor stay when an ordinary chunk leaves, which is neither
pub posts_stay : (h : Heap) (low : List Entry) (x : Entry) (high : List Entry) → Laid h.bytes x → ordinary h x ≡ true
    → Posts h (low ++ x ∷ [] ++ high) → Posts h (low ++ high)
posts_stay h low x high y o posts =
    record {
      top = let t = posts.top in top_at t (other t.chunk t.place not_top_lem t.member);
      donor = λ some. let t = posts.donor some in donor_at t (other t.chunk t.place not_donor_lem t.member) t.below;
    }
  where
    other : (t : Entry) {c : ℕ} → t.place ≡ c → x.place ≢ c → Mem t (low ++ x ∷ [] ++ high) → Mem t (low ++ high)
    other t q n m = all_but low x high m (λ r. n (ap (λ (e : Entry). e.place) (sym r) ∙ q))

    flags : x.flags ≡ 0
    flags = ordinary_free h x o y.flags

    between : Between h.bytes x
    between = y.free flags

    start : x.place ≢ 0
    start q = omega (arith, between)

    end : x.place + 8 ≢ h.bytes
    end q = omega (arith, between)

    even : x.flags % 2 ≢ 1
    even q = omega (arith, flags)

    not_top_lem : x.place ≢ h.top.0
    not_top_lem q = false≢true (ap ordinary_kind (kind_top h.bytes h.donor.0 h.top.0 x start end even q) ∙ o)

    not_donor_lem : x.place ≢ h.donor.0
    not_donor_lem q = false≢true (ap ordinary_kind (kind_donor h.bytes h.donor.0 h.top.0 x start end even not_top_lem q) ∙ o)

-- one free chunk in place of the chunks `two`
filled : {bytes : ℕ} (low two high : List Entry) (from to : ℕ) → Layout bytes (low ++ two ++ high)
    → ((a b : ℕ) → Tiled a two b → Tiled a (gap_chunk from to ∷ []) b) → Between bytes (gap_chunk from to) → from % 8 ≡ 0
    → Layout bytes (low ++ gap_chunk from to ∷ [] ++ high)
filled {bytes} low two high from to y whole b eight =
    let c = cuts low two high y in
    let w = whole c.from c.to c.middle in
    layout_replaced low two (gap_chunk from to ∷ []) high y
    (λ z. let q = tiled_empty 0 c.from low c.below z in omega (arith, b, w.0))
    (λ z. let q = tiled_empty c.to bytes high c.above z in omega (arith, b, w.2))
    whole (λ e m. rw (Memᴰ.eq_of_singleton m) (laid_between bytes (gap_chunk from to) eight (omega arith) b))

-- two neighbouring chunks as one
two_as_one : (d e : Entry) (from to : ℕ) → from ≡ d.place → to ≡ chunk_end e → (a b : ℕ) → Tiled a (d ∷ e ∷ []) b → Tiled a (gap_chunk from to ∷ []) b
two_as_one d e from to p q a b (begins, some, (next, more, ends)) = (omega arith, omega arith, omega arith)

both_between : (bytes : ℕ) (d e : Entry) (from to : ℕ) → from ≡ d.place → to ≡ chunk_end e → e.place ≡ chunk_end d → Between bytes d → Between bytes e
    → Between bytes (gap_chunk from to)
both_between bytes d e from to p q n b c = record { some = omega arith; above = omega arith; below = omega arith }

module _ {ws : List ℕ} {h : Heap} {base : List Entry} where
  -- the ordinary chunk x below the gap joins it
  module _ (low : List Entry) (x : Entry) {from to : ℕ} {high : List Entry} {d : Draft} (g : Gap ws h base (low ++ x ∷ []) from to high d) (o : ordinary h x ≡ true) where
    abbrev two : List Entry
    two = x ∷ gap_chunk from to ∷ []

    two_laid : Layout h.bytes (low ++ two ++ high)
    two_laid = subst (λ (l : List Entry). Layout h.bytes (l ++ high)) (append_assoc low (x ∷ []) (gap_chunk from to ∷ [])) g.layout

    pub below_laid : Laid h.bytes x
    below_laid = two_laid.chunks x (middle_in low two high (Memᴰ.head refl))

    free : x.flags ≡ 0
    free = ordinary_free h x o below_laid.flags

    next : from ≡ chunk_end x
    next = let (_, _, (place, _, _)) = (cuts low two high two_laid).middle in place

    loose : Loose ws h low x high (gap_chunk x.place to) g.last d
    loose =
        record {
          halfway = g.opened.halfway;
          lower =
              headed_below (written ws d.stores) outside low x (gap_chunk x.place to) refl
              (headed_cut (written ws d.stores) outside low (x ∷ []) (gap_chunk from to) g.opened.lower).0;
          upper = g.opened.upper;
          same = g.opened.same;
        }

    pub below_joins : Gap ws h base low x.place to high (leave_bin x d)
    below_joins =
        let q = next in
        let f = (two_laid.chunks (gap_chunk from to) (middle_in low two high (Memᴰ.tail (Memᴰ.head refl)))).free refl in
        let e : to ≡ chunk_end (gap_chunk from to) = omega (arith, f) in
        record {
          layout =
              filled low two high x.place to two_laid (two_as_one x (gap_chunk from to) x.place to refl e)
              (both_between h.bytes x (gap_chunk from to) x.place to refl e q (below_laid.free free) f) below_laid.eight;
          last = g.last;
          opened = opened_left loose two two_laid (Memᴰ.head refl) o;
          alive = sym (lives_free h low x high free) ∙ g.alive;
          patrol =
              placed_wider low x high g.patrol
              (let s = below_laid.some in omega arith) (omega arith) (omega arith) (let s = below_laid.some in omega (arith, f));
          crossed = crossed_wider g.crossed (omega arith) (omega arith);
        }

  -- the free chunk x above the gap
  module _ {low : List Entry} {from to : ℕ} {x : Entry} {high : List Entry} {d : Draft} (g : Gap ws h base low from to (x ∷ high) d) where
    pub above_laid : Laid h.bytes x
    above_laid = g.layout.chunks x (Memᴰ.append_right (low ++ gap_chunk from to ∷ []) (Memᴰ.head refl))

    module _ (free : x.flags ≡ 0) where
      abbrev pair : List Entry
      pair = gap_chunk from to ∷ x ∷ []

      pair_chain : low ++ gap_chunk from to ∷ [] ++ x ∷ high ≡ low ++ pair ++ high
      pair_chain =
          sym (append_assoc (low ++ gap_chunk from to ∷ []) (x ∷ []) high)
          ∙ ap (λ (l : List Entry). l ++ high) (append_assoc low (gap_chunk from to ∷ []) (x ∷ []))

      pair_laid : Layout h.bytes (low ++ pair ++ high)
      pair_laid = subst (λ (l : List Entry). Layout h.bytes l) pair_chain g.layout

      above_next : x.place ≡ chunk_end (gap_chunk from to)
      above_next = let (_, _, (place, _, _)) = (cuts low pair high pair_laid).middle in place

      gap_between : Between h.bytes (gap_chunk from to)
      gap_between = (pair_laid.chunks (gap_chunk from to) (middle_in low pair high (Memᴰ.head refl))).free refl

      pub gap_around : low ++ x ∷ high ≡ low ++ x ∷ [] ++ high
      gap_around = sym (append_assoc low (x ∷ []) high)

      above_loose : Loose ws h low x high (gap_chunk from (chunk_end x)) x d
      above_loose =
          record {
            halfway = subst (λ (l : List Entry). Halfway ws h l d) gap_around g.opened.halfway;
            lower = headed_below (written ws d.stores) outside low (gap_chunk from to) (gap_chunk from (chunk_end x)) refl g.opened.lower;
            upper = g.opened.upper.1;
            same = g.opened.same;
          }

      widened : {after : Draft} → Opened ws h low (gap_chunk from (chunk_end x)) x high after → Gap ws h base low from (chunk_end x) high after
      widened o =
          record {
            layout =
                filled low pair high from (chunk_end x) pair_laid (two_as_one (gap_chunk from to) x from (chunk_end x) refl refl)
                (both_between h.bytes (gap_chunk from to) x from (chunk_end x) refl refl above_next gap_between (above_laid.free free))
                (pair_laid.chunks (gap_chunk from to) (middle_in low pair high (Memᴰ.head refl))).eight;
            last = x;
            opened = o;
            alive = sym (lives_free h low x high free) ∙ ap (lives h) (sym gap_around) ∙ g.alive;
            patrol =
                let n = above_next in
                let s = above_laid.some in
                let b = gap_between in
                placed_wider low x high (subst (λ (l : List Entry). Placed h.patrol.0 l from to) gap_around g.patrol)
                (omega arith) (omega arith) (omega arith) (omega arith);
            crossed = let n = above_next in crossed_wider g.crossed (omega arith) (omega arith);
          }

      -- it joins: an ordinary chunk leaves its bin; the donor and the top are in none
      pub above_joins : ordinary h x ≡ true → Gap ws h base low from (chunk_end x) high (leave_bin x d)
      above_joins o = widened (opened_left above_loose pair pair_laid (Memᴰ.tail (Memᴰ.head refl)) o)

      pub above_widens : ordinary h x ≡ false → Gap ws h base low from (chunk_end x) high d
      above_widens o = widened (opened_kept above_loose o)

      pub above_apart : (z : Entry) → Mem z (low ++ high) → z.place ≢ x.place
      above_apart z m = outer_elsewhere low pair high pair_laid m (Memᴰ.tail (Memᴰ.head refl))

      pub above_higher : from < x.place
      above_higher = let b = gap_between in let n = above_next in omega arith

      pub above_else : (z : Entry) → Mem z (low ++ x ∷ high) → Mem z (low ++ high) ⊎ (z ≡ x)
      above_else z m = go (among low (x ∷ []) high (subst (λ (l : List Entry). Mem z l) gap_around m))
        where
          go : Mem z (low ++ high) ⊎ Mem z (x ∷ []) → Mem z (low ++ high) ⊎ (z ≡ x)
          go (inl k) = inl k
          go (inr k) = inr (Memᴰ.eq_of_singleton k)
