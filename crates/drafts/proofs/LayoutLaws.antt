-- The layout of a chain, with no word read: the chunks tile the heap bytes, each has room for its header, start and end are in use.
-- Replacing some chunks by others that fill the same bytes keeps a layout (`layout_replaced`). Assumes nothing.
use mathlib.Core.Path.{◌≡◌, refl, sym, ap, ◌∙◌}
use mathlib.Core.Logic.{◌≢◌, ◌⊎◌, inl, inr}
use mathlib.Core.List.Memᴰ
use mathlib.Core.List.{List, [], ◌∷◌, ◌++◌, append_assoc}
use Prim.Native.Nat.{ℕ, ◌+◌, ◌*◌, ◌%◌, ◌≤◌, ◌<◌}
use native.Mathlib.Omega.{arith}
use lib.ListN.{length}
use Rattle.lists.specs.Lists.{Mem, head_or, last_or}
use Rattle.lists.proofs.MembersLaws.{last_append}
use Rattle.lists.proofs.SplitLaws.{first_stays, last_stays, among, outer_in, middle_in, all_but}
use Rattle.record.specs.declared.heap.Heap.{Heap}
use Rattle.rules.specs.Shape.{Entry, shape, chunk_end}
use Rattle.rules.specs.Kinds.{outside, size_on}
use Rattle.rules.specs.Check.{Ended, Passes}
use Rattle.rules.proofs.ChainLaws.{same_place}
use Rattle.rules.proofs.OrderLaws.{size_there}
use Rattle.rules.proofs.SpotLaws.{Between, tiled, inside}
use Rattle.rules.proofs.NamedLaws.{free_between}
use Rattle.rules.proofs.TiledLaws.{Tiled, tiled_cut, tiled_in, tiled_apart, tiled_eights, tiled_few, tiled_joined, tiled_rising}

-- a chunk at another place than the middle one is in an outer part
pub every_other : (low : List Entry) (e : Entry) (high : List Entry) (x : Entry) → Mem x (low ++ e ∷ [] ++ high) → x.place ≢ e.place → Mem x (low ++ high)
every_other low e high x m n = all_but low e high m (λ q. n (ap (λ (d : Entry). d.place) q))

-- no overlap: one chunk ends where the other begins, or below it
abbrev pub Beside : Entry → Entry → Type 0
Beside d e = (chunk_end d ≤ e.place) ⊎ (chunk_end e ≤ d.place)

beside_elsewhere : (d e : Entry) → Beside d e → 8 ≤ d.size → 8 ≤ e.size → d.place ≢ e.place
beside_elsewhere d e (inl b) s t q = omega arith
beside_elsewhere d e (inr b) s t q = omega arith

-- a chunk lies inside the heap with room for its header: two words, and six if it is free; start and end are never free
pub record Laid (bytes : ℕ) (e : Entry) : Type 0 where
  pub eight : e.place % 8 ≡ 0
  pub some : 8 ≤ e.size
  pub ends : chunk_end e ≤ bytes
  pub flags : e.flags ≤ 1
  pub room : 0 < e.place → e.place + 8 < bytes → 24 ≤ e.size
  pub free : e.flags ≡ 0 → Between bytes e

-- a chunk that is neither start nor end, in use or free
pub laid_between : (bytes : ℕ) (e : Entry) → e.place % 8 ≡ 0 → e.flags ≤ 1 → Between bytes e → Laid bytes e
laid_between bytes e eight flags b =
    record { eight = eight; some = omega arith; ends = omega arith; flags = flags; room = λ _ _. b.some; free = λ _. b }

-- the layout of a whole chain
pub record Layout (bytes : ℕ) (es : List Entry) : Type 0 where
  pub tiled : Tiled 0 es bytes
  pub chunks : (e : Entry) → Mem e es → Laid bytes e
  pub ended : Ended es
  pub reaches : (last_or outside es).place + 8 ≡ bytes

-- the chain of a heap that passes has a layout
pub layout_read : (ws : List ℕ) (h : Heap) → Passes ws h → Layout h.bytes (shape ws h.bytes)
layout_read ws h p =
    record {
      tiled = tiled ws h p;
      chunks = λ e m. laid e m;
      ended = p.ends;
      reaches = p.chain.reaches_end;
    }
  where
    laid : (e : Entry) → Mem e (shape ws h.bytes) → Laid h.bytes e
    laid e m =
        let i = inside ws h p e m in
        record {
          eight = i.place;
          some = i.some;
          ends = i.ends;
          flags = i.flags;
          room = (p.chunks e m).room;
          free = free_between ws h p e m;
        }

module _ {bytes : ℕ} {es : List Entry} (y : Layout bytes es) where
  pub laid_once : {d e : Entry} → Mem d es → Mem e es → d.place ≡ e.place → d ≡ e
  laid_once m k q = same_place 0 es (tiled_rising 0 bytes es y.tiled) m k q

  pub laid_sized : {e : Entry} → Mem e es → size_on es e.place ≡ e.size
  laid_sized {e} m = size_there 0 es (tiled_rising 0 bytes es y.tiled) e m e.place refl

  pub laid_beside : {d e : Entry} → Mem d es → Mem e es → (d.place ≡ e.place → ⊥) → Beside d e
  laid_beside m k n = tiled_apart 0 bytes es y.tiled m k n

  -- each chunk has at least 8 bytes
  pub laid_few : 8 * length es ≤ bytes
  laid_few = let t = tiled_few 0 bytes es y.tiled (λ e m. (y.chunks e m).some) in omega arith

  -- if the heap bytes are a multiple of 8, so is every size
  pub laid_eights : bytes % 8 ≡ 0 → {e : Entry} → Mem e es → e.size % 8 ≡ 0
  laid_eights z {e} m =
      let ends = tiled_eights 0 bytes es y.tiled z (λ d k. (y.chunks d k).eight) m in
      let begins = (y.chunks e m).eight in
      omega arith

  -- a free chunk ends below the chunks above it
  pub laid_below : {d e : Entry} → Mem d es → Mem e es → d.flags ≡ 0 → d.place < e.place → d.place + 24 ≤ e.place
  laid_below {d} {e} m k f l = go (laid_beside m k (λ q. omega arith)) ((y.chunks d m).free f) (y.chunks e k).some
    where
      go : Beside d e → Between bytes d → 8 ≤ e.size → d.place + 24 ≤ e.place
      go (inl b) r s = omega arith
      go (inr b) r s = absurd (omega arith)

-- the places where a chain in three parts is cut
pub record Cuts (bytes : ℕ) (low mid high : List Entry) : Type 0 where
  pub from : ℕ
  pub to : ℕ
  pub below : Tiled 0 low from
  pub middle : Tiled from mid to
  pub above : Tiled to high bytes

module _ {bytes : ℕ} (low mid high : List Entry) (y : Layout bytes (low ++ mid ++ high)) where
  pub cuts : Cuts bytes low mid high
  cuts =
      let (to, lower, above) = tiled_cut 0 bytes (low ++ mid) high y.tiled in
      let (from, below, middle) = tiled_cut 0 to low mid lower in
      record { from = from; to = to; below = below; middle = middle; above = above }

  -- a chunk of an outer part overlaps none of the middle
  pub outer_beside : {d e : Entry} → Mem d (low ++ high) → Mem e mid → Beside d e
  outer_beside {d} {e} m k = go (Memᴰ.append_cases low m)
    where
      go : Mem d low ⊎ Mem d high → Beside d e
      go (inl j) =
          let (_, _, ends) = tiled_in 0 cuts.from low cuts.below j in
          let (begins, _, _) = tiled_in cuts.from cuts.to mid cuts.middle k in
          inl (omega arith)
      go (inr j) =
          let (begins, _, _) = tiled_in cuts.to bytes high cuts.above j in
          let (_, _, ends) = tiled_in cuts.from cuts.to mid cuts.middle k in
          inr (omega arith)

  pub outer_elsewhere : {d e : Entry} → Mem d (low ++ high) → Mem e mid → d.place ≢ e.place
  outer_elsewhere {d} {e} m k =
      beside_elsewhere d e (outer_beside m k) (y.chunks d (outer_in low mid high m)).some (y.chunks e (middle_in low mid high k)).some

-- the chunks `olds` are replaced by the chunks `news`, which fill the same bytes
module _ {bytes : ℕ} (low olds news high : List Entry) (y : Layout bytes (low ++ olds ++ high))
    (lows : low ≡ [] → ⊥) (highs : high ≡ [] → ⊥) (same : (a b : ℕ) → Tiled a olds b → Tiled a news b)
    (fit : (e : Entry) → Mem e news → Laid bytes e) where
  first_is : (mid : List Entry) → head_or outside (low ++ mid ++ high) ≡ head_or outside low
  first_is mid = ap (head_or outside) (append_assoc low mid high) ∙ first_stays outside low (mid ++ high) lows

  last_is : (mid : List Entry) → last_or outside (low ++ mid ++ high) ≡ last_or outside high
  last_is mid = last_append outside (low ++ mid) high ∙ last_stays _ outside high highs

  first_same : head_or outside (low ++ news ++ high) ≡ head_or outside (low ++ olds ++ high)
  first_same = first_is news ∙ sym (first_is olds)

  last_same : last_or outside (low ++ news ++ high) ≡ last_or outside (low ++ olds ++ high)
  last_same = last_is news ∙ sym (last_is olds)

  laid_new : (e : Entry) → Mem e (low ++ high) ⊎ Mem e news → Laid bytes e
  laid_new e (inl m) = y.chunks e (outer_in low olds high m)
  laid_new e (inr m) = fit e m

  pub layout_replaced : Layout bytes (low ++ news ++ high)
  layout_replaced =
      let c = cuts low olds high y in
      record {
        tiled =
            tiled_joined 0 c.to bytes (low ++ news) high
            (tiled_joined 0 c.from c.to low news c.below (same c.from c.to c.middle)) c.above;
        chunks = λ e m. laid_new e (among low news high m);
        ended =
            record {
              start_size = rw first_same y.ended.start_size;
              start_used = rw first_same y.ended.start_used;
              end_used = rw last_same y.ended.end_used;
            };
        reaches = rw last_same y.reaches;
      }
