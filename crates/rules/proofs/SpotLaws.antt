-- Where the chunks of a heap that passes lie: they tile the heap bytes, so no two overlap, and each chunk's links name its neighbours.
-- Also start and end, and the chain split at one of its chunks. What is known of a chunk by its kind is in `NamedLaws`. Assumes nothing.
use mathlib.Core.Path.{◌≡◌, refl, sym, ap, ◌∙◌}
use mathlib.Core.Logic.{◌⊎◌, inl, inr}
use mathlib.Core.Bool.{Bool, true, false}
use mathlib.Core.List.Memᴰ
use mathlib.Core.List.{List, [], ◌∷◌, ◌++◌}
use Prim.Native.Nat.{ℕ, ◌+◌, ◌*◌, ◌-◌, ◌%◌, ◌≤◌, ◌<◌}
use native.Mathlib.Decide.{ℕ_discrete}
use native.Mathlib.Omega.{arith}
use lib.ListN.{length, drop}
use borrow.Author.Tests.{eqb-true, eq-eqb, ne_eqb}
use Rattle.lists.specs.Lists.{Mem, head_or, last_or, but_last, any, up_to, past}
use Rattle.lists.proofs.ListsLaws.{number_is, for_some}
use Rattle.lists.proofs.SplitLaws.{begins_with, ends_with, in_split, split_second, split_before, first_splits, up_to_first, past_first}
use Rattle.record.specs.declared.heap.Heap.{Heap}
use Rattle.region.specs.Words.{word, forward, backward}
use Rattle.rules.specs.Shape.{Entry, flags_at, shape, chunk_end}
use Rattle.rules.specs.Kinds.{live, is_at, outside, size_on}
use Rattle.rules.specs.Check.{Backed, Passes}
use Rattle.rules.specs.Draft.{spot}
use Rattle.rules.proofs.ChainLaws.{same_place, shape_chain}
use Rattle.rules.proofs.TiledLaws.{Tiled, Forwards, chain_tiled, tiled_cut, tiled_up, tiled_in, tiled_apart, tiled_eights, tiled_empty, tiled_few, tiled_some}

-- a list split at the first member for which a test holds
module _ (q : Entry → Bool) where
  pub spot_splits : (l : List Entry) → any q l ≡ true
      → (l ≡ (spot q l).low ++ (spot q l).here ∷ (spot q l).high) × (q (spot q l).here ≡ true)
  spot_splits l a = first_splits q outside l a

  pub spot_member : (l : List Entry) → any q l ≡ true → Mem (spot q l).here l
  spot_member l a = in_split (spot q l).low (spot q l).here (spot q l).high (spot_splits l a).0

-- a chunk's backward link names the chunk before it
backed_next : (ws : List ℕ) (q : ℕ) (low : List Entry) (e d : Entry) (high : List Entry) → Backed ws q (low ++ e ∷ d ∷ high)
    → word ws d.place backward ≡ e.place + d.flags
backed_next ws q [] e d high (_, (back, _)) = back
backed_next ws q (x ∷ low) e d high (_, rest) = backed_next ws x.place low e d high rest

-- what is known of the heap bytes
pub record Bounds (ws : List ℕ) (h : Heap) : Type 0 where
  pub eights : h.bytes % 8 ≡ 0
  pub some : 40 ≤ h.bytes
  pub few : h.bytes ≤ 65536
  pub fits : h.bytes ≤ 4 * length ws

-- what is known of every chunk; the last one's forward link is 0
pub record Inside (ws : List ℕ) (h : Heap) (e : Entry) : Type 0 where
  pub place : e.place % 8 ≡ 0
  pub size : e.size % 8 ≡ 0
  pub some : 8 ≤ e.size
  pub ends : chunk_end e ≤ h.bytes
  pub stands : e.flags ≡ flags_at ws e.place
  pub flags : e.flags ≤ 1
  pub next : chunk_end e < h.bytes → word ws e.place forward ≡ chunk_end e

-- what is known of a chunk that is neither start nor end
pub record Between (bytes : ℕ) (e : Entry) : Type 0 where
  pub some : 24 ≤ e.size
  pub above : 8 ≤ e.place
  pub below : chunk_end e + 8 ≤ bytes

-- what is known of start and end
pub record Ends (h : Heap) (es : List Entry) : Type 0 where
  pub begins : es ≡ head_or outside es ∷ drop 1 es
  pub start : Mem (head_or outside es) es
  pub start_place : (head_or outside es).place ≡ 0
  pub start_size : (head_or outside es).size ≡ 8
  pub start_flags : (head_or outside es).flags ≡ 1
  pub end : Mem (last_or outside es) es
  pub end_place : (last_or outside es).place + 8 ≡ h.bytes
  pub end_size : (last_or outside es).size ≡ 8
  pub end_flags : (last_or outside es).flags ≡ 1

-- the two neighbours of a chunk e that is neither start nor end, and e's links to them
pub record Around (ws : List ℕ) (es low : List Entry) (e : Entry) (high : List Entry) : Type 0 where
  pub lows : low ≡ but_last low ++ last_or outside low ∷ []
  pub highs : high ≡ head_or outside high ∷ drop 1 high
  pub below : Mem (last_or outside low) es
  pub above : Mem (head_or outside high) es
  pub below_end : chunk_end (last_or outside low) ≡ e.place
  pub above_place : (head_or outside high).place ≡ chunk_end e
  pub own_forward : word ws e.place forward ≡ (head_or outside high).place
  pub own_backward : word ws e.place backward ≡ (last_or outside low).place + e.flags

-- the chain, low ++ e ∷ high, cut at the chunk e, which begins at `from`
pub record TiledAt (bytes : ℕ) (low : List Entry) (e : Entry) (high : List Entry) : Type 0 where
  pub from : ℕ
  pub below : Tiled 0 low from
  pub place : e.place ≡ from
  pub above : Tiled (chunk_end e) high bytes

-- the chain es split at the chunk e at c, as the rules split it
pub record SpotAt (es : List Entry) (c : ℕ) (e : Entry) : Type 0 where
  pub found : any (is_at c) es ≡ true
  pub here : (spot (is_at c) es).here ≡ e
  pub split : es ≡ (spot (is_at c) es).low ++ e ∷ (spot (is_at c) es).high

-- the chunk d is next above e, and the links between them
pub record NextIs (ws : List ℕ) (e d : Entry) : Type 0 where
  pub place : d.place ≡ chunk_end e
  pub forth : word ws e.place forward ≡ d.place
  pub back : word ws d.place backward ≡ e.place + d.flags

module _ (ws : List ℕ) (h : Heap) (p : Passes ws h) where
  abbrev pub es : List Entry
  es = shape ws h.bytes

  pub bounds : Bounds ws h
  bounds =
      record { eights = omega arith; some = omega arith; few = omega arith; fits = omega arith }

  lies : Tiled 0 es h.bytes × Forwards ws h.bytes es
  lies = let b = bounds in chain_tiled ws h.bytes (omega arith)

  pub tiled : Tiled 0 es h.bytes
  tiled = lies.0

  -- two chunks at one place are the same
  pub one_chunk : (d e : Entry) → Mem d es → Mem e es → d.place ≡ e.place → d ≡ e
  one_chunk d e m k s = same_place 0 es (shape_chain ws h.bytes).rising m k s

  pub inside : (e : Entry) → Mem e es → Inside ws h e
  inside e m =
      let b = bounds in
      let t = tiled_in 0 h.bytes es tiled m in
      let z = p.chain.eights e m in
      let y = tiled_eights 0 h.bytes es tiled b.eights p.chain.eights m in
      let s : e.size % 8 ≡ 0 = omega arith in
      record {
        place = z;
        size = s;
        some = omega arith;
        ends = t.2;
        stands = (shape_chain ws h.bytes).flags e m;
        flags = (p.chunks e m).flags;
        next = lies.1 e m;
      }

  -- each chunk has at least 8 bytes
  pub few_chunks : 8 * length es ≤ h.bytes
  few_chunks = let t = tiled_few 0 h.bytes es tiled (λ e m. (inside e m).some) in omega arith

  -- the used bytes are bytes of the heap
  pub used_few : h.used ≤ h.bytes
  used_few = let t = tiled_some (live h) 0 h.bytes es tiled in omega arith

  pub chunks_apart : (d e : Entry) → Mem d es → Mem e es → (d.place ≡ e.place → ⊥) → (chunk_end d ≤ e.place) ⊎ (chunk_end e ≤ d.place)
  chunks_apart d e m k n = tiled_apart 0 h.bytes es tiled m k n

  -- a place lies in one chunk at most
  pub one_around : (b : ℕ) (d e : Entry) → Mem d es → Mem e es → (d.place ≤ b) × (b < chunk_end d) → (e.place ≤ b) × (b < chunk_end e) → d ≡ e
  one_around b d e m k (low, high) (lower, upper) = go (ℕ_discrete d.place e.place)
    where
      never : (chunk_end d ≤ e.place) ⊎ (chunk_end e ≤ d.place) → ⊥
      never (inl l) = omega arith
      never (inr l) = omega arith

      go : Dec (d.place ≡ e.place) → d ≡ e
      go (yes q) = one_chunk d e m k q
      go (no n) = absurd (never (chunks_apart d e m k n))

  pub tiled_at : (low : List Entry) (e : Entry) (high : List Entry) → es ≡ low ++ e ∷ high → TiledAt h.bytes low e high
  tiled_at low e high split =
      let (from, below, (place, _, above)) = tiled_cut 0 h.bytes low (e ∷ high) (rw split at tiled) in
      record { from = from; below = below; place = place; above = above }

  pub next_is : (low : List Entry) (e d : Entry) (high : List Entry) → es ≡ low ++ e ∷ d ∷ high → NextIs ws e d
  next_is low e d high s =
      let (place, some, above) = (tiled_at low e (d ∷ high) s).above in
      let u = tiled_up (chunk_end d) h.bytes high above in
      let f = lies.1 e (in_split low e (d ∷ high) s) (omega arith) in
      record { place = place; forth = f ∙ sym place; back = backed_next ws 0 low e d high (rw s at p.backward) }

  pub ends : Ends h es
  ends =
      let c = shape_chain ws h.bytes in
      let some : es ≡ [] → ⊥ = λ z. Memᴰ.not-nil (rw z at (c.has_last outside)) in
      let l = inside _ (c.has_last outside) in
      let r = p.chain.reaches_end in
      record {
        begins = begins_with outside es some;
        start = c.has_first;
        start_place = c.first;
        start_size = p.ends.start_size;
        start_flags = p.ends.start_used;
        end = c.has_last outside;
        end_place = r;
        end_size = omega arith;
        end_flags = p.ends.end_used;
      }

  pub between : (e : Entry) → Mem e es → 0 < e.place → e.place + 8 < h.bytes → Between h.bytes e
  between e m lo hi =
      let i = inside e m in
      let l = ends in
      record {
        some = (p.chunks e m).room lo hi;
        above = omega arith;
        below = go (chunks_apart e (last_or outside es) m l.end (λ q. omega arith));
      }
    where
      go : (chunk_end e ≤ (last_or outside es).place) ⊎ (chunk_end (last_or outside es) ≤ e.place) → chunk_end e + 8 ≤ h.bytes
      go (inl k) = omega arith
      go (inr k) = let l = ends in absurd (omega arith)

  -- two chunks other than start and end are so far apart that no header reaches into the other chunk
  pub far : (d e : Entry) → Mem d es → Mem e es → (d.place ≡ e.place → ⊥)
      → 0 < d.place → d.place + 8 < h.bytes → 0 < e.place → e.place + 8 < h.bytes
      → 24 ≤ (d.place - e.place) + (e.place - d.place)
  far d e m k n dlo dhi elo ehi = go (between d m dlo dhi) (between e k elo ehi) (chunks_apart d e m k n)
    where
      go : Between h.bytes d → Between h.bytes e → (chunk_end d ≤ e.place) ⊎ (chunk_end e ≤ d.place)
          → 24 ≤ (d.place - e.place) + (e.place - d.place)
      go x y (inl l) = omega arith
      go x y (inr l) = omega arith

  pub spot_at : (c : ℕ) (e : Entry) → Mem e es → e.place ≡ c → SpotAt es c e
  spot_at c e m q =
      let a : any (is_at c) es ≡ true = (for_some (λ x. number_is x.place c) es).1 (e, m, q) in
      let s = spot_splits (is_at c) es a in
      let i : (spot (is_at c) es).here ≡ e = one_chunk _ e (spot_member (is_at c) es a) m (eqb-true _ _ s.1 ∙ sym q) in
      record { found = a; here = i; split = s.0 ∙ ap (λ (x : Entry). (spot (is_at c) es).low ++ x ∷ (spot (is_at c) es).high) i }

  -- where the chain is cut at a chunk, the chunk's spot is that cut: no chunk below has its place
  module _ (low : List Entry) (e : Entry) (high : List Entry) (split : es ≡ low ++ e ∷ high) where
    none_below : (d : Entry) → Mem d low → is_at e.place d ≡ false
    none_below d m =
        let t = tiled_at low e high split in
        let (_, some, end) = tiled_in 0 t.from low t.below m in
        ne_eqb d.place e.place (omega (arith, t.place))

    pub spot_cut : spot (is_at e.place) es ≡ record { low = low; here = e; high = high }
    spot_cut =
        let itself = eq-eqb e.place e.place refl in
        let below : up_to (is_at e.place) es ≡ low = ap (up_to (is_at e.place)) split ∙ up_to_first (is_at e.place) low e high none_below itself in
        let above : past (is_at e.place) es ≡ high = ap (past (is_at e.place)) split ∙ past_first (is_at e.place) low e high none_below itself in
        rw ((spot_at e.place e (in_split low e high split) refl).here, below, above) refl

  -- `size_on` is the size of the chunk at c
  pub size_on_lem : (c : ℕ) (e : Entry) → Mem e es → e.place ≡ c → size_on es c ≡ e.size
  size_on_lem c e m q = ap (λ (d : Entry). d.size) (spot_at c e m q).here

  -- a chunk that is neither start nor end has both neighbours
  pub around : (low : List Entry) (e : Entry) (high : List Entry) → es ≡ low ++ e ∷ high → 0 < e.place → e.place + 8 < h.bytes
      → Around ws es low e high
  around low e high s lo hi =
      let b = between e (in_split low e high s) lo hi in
      let c = tiled_at low e high s in
      let some : low ≡ [] → ⊥ = λ z. let k = tiled_empty 0 c.from low c.below z in omega arith in
      let hs = begins_with outside high (λ z. let k = tiled_empty (chunk_end e) h.bytes high c.above z in omega arith) in
      let es_low = split_before outside low e high some s in
      let es_high : es ≡ low ++ e ∷ head_or outside high ∷ drop 1 high = s ∙ ap (λ (l : List Entry). low ++ e ∷ l) hs in
      let down = next_is (but_last low) (last_or outside low) e high es_low in
      let up = next_is low e (head_or outside high) (drop 1 high) es_high in
      record {
        lows = ends_with outside low some;
        highs = hs;
        below = in_split (but_last low) _ (e ∷ high) es_low;
        above = in_split (low ++ e ∷ []) _ (drop 1 high) (split_second low e _ (drop 1 high) es_high);
        below_end = sym down.place;
        above_place = up.place;
        own_forward = up.forth;
        own_backward = down.back;
      }
