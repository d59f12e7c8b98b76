-- A chunk is taken out, which opens the chain there: a chunk in no bin (`opened_kept`), and one that leaves its bin (`opened_left`).
-- The same for a chunk of a heap that passes, neither start nor end (`InnerChunk`), with the layout and the headers of the others. Assumes nothing.
use mathlib.Core.Path.{◌≡◌, refl, sym, ap, subst, ◌∙◌}
use mathlib.Core.Logic.{◌≢◌, ◌⊎◌, inl, inr}
use mathlib.Core.Bool.{true, false, false≢true}
use mathlib.Core.List.Memᴰ
use mathlib.Core.List.{List, [], ◌∷◌, ◌++◌, append_assoc}
use Prim.Native.Nat.{ℕ, ◌<◌}
use native.Mathlib.Omega.{arith}
use Rattle.lists.specs.Lists.{Mem, head_or, last_or}
use Rattle.lists.proofs.SplitLaws.{among, outer_in, all_but, middle_in}
use Rattle.record.specs.declared.heap.Heap.{Heap}
use Rattle.region.specs.Words.{written}
use Rattle.rules.specs.Shape.{Entry, shape}
use Rattle.rules.specs.Kinds.{ordinary_kind, ordinary, outside}
use Rattle.rules.specs.Check.{Passes}
use Rattle.rules.specs.Draft.{Draft, as_read, leave_bin}
use Rattle.rules.proofs.SpotLaws.{Between}
use Rattle.rules.proofs.TiledLaws.{tiled_empty}
use Rattle.drafts.proofs.PostsLaws.{TopAmong, DonorAmong}
use Rattle.drafts.proofs.LayoutLaws.{Beside, Layout, Cuts, layout_read, cuts, outer_beside, outer_elsewhere, every_other}
use Rattle.drafts.proofs.HeaderLaws.{Header, Headed, headed_cut, headed_read}
use Rattle.drafts.proofs.HalfwayLaws.{record_midway, EndsAlone, same_kind, Halfway, halfway_begins, halfway_fewer, Opened}
use Rattle.drafts.proofs.LeaveLaws.{Among, leave_headed, leave_halfway, leave_same}

-- the chain is open around the chunk x, which still stays: headers are right along `low`, up to the chunk `first`, and along `high`,
-- from the chunk `last` on
pub record Loose (ws : List ℕ) (h : Heap) (low : List Entry) (x : Entry) (high : List Entry) (first last : Entry) (d : Draft) : Type 0 where
  pub halfway : Halfway ws h (low ++ x ∷ [] ++ high) d
  pub lower : Headed (written ws d.stores) outside low first
  pub upper : Headed (written ws d.stores) last high outside
  pub same : EndsAlone h d

-- x no longer stays: it was in no bin; or it leaves its bin
module _ {ws : List ℕ} {h : Heap} {low : List Entry} {x : Entry} {high : List Entry} {first last : Entry} {d : Draft} (l : Loose ws h low x high first last d) where
  pub opened_kept : ordinary h x ≡ false → Opened ws h low first last high d
  opened_kept o =
      record {
        halfway =
            halfway_fewer l.halfway (λ z m. outer_in low (x ∷ []) high m)
            (λ z m u. all_but low x high m (λ q. false≢true (sym o ∙ ap (ordinary h) (sym q) ∙ ap ordinary_kind (sym (same_kind h d l.same z)) ∙ u)));
        lower = l.lower;
        upper = l.upper;
        same = l.same;
      }

  -- x is one of the chunks `two`, which close the chain in a layout
  module _ (two : List Entry) (y : Layout h.bytes (low ++ two ++ high)) (there : Mem x two) (o : ordinary h x ≡ true) where
    own : Mem x (low ++ x ∷ [] ++ high)
    own = middle_in low (x ∷ []) high (Memᴰ.head refl)

    was_ordinary : ordinary (record_midway h d) x ≡ true
    was_ordinary = ap ordinary_kind (same_kind h d l.same x) ∙ o

    stays : (z : Entry) → Mem z (low ++ x ∷ [] ++ high) → Mem z (low ++ two ++ high)
    stays z m = go (among low (x ∷ []) high m)
      where
        go : Mem z (low ++ high) ⊎ Mem z (x ∷ []) → Mem z (low ++ two ++ high)
        go (inl k) = outer_in low two high k
        go (inr k) = middle_in low two high (rw (Memᴰ.eq_of_singleton k) there)

    among_two : Among ws h (low ++ x ∷ [] ++ high) d (low ++ two ++ high)
    among_two = record { halfway = l.halfway; layout = y; sub = stays }

    apart : (z : Entry) → Mem z (low ++ high) → z.place ≢ x.place
    apart z m = outer_elsewhere low two high y m there

    same_headed : (b : Entry) (es : List Entry) (n : Entry) → ((z : Entry) → Mem z es → Mem z (low ++ high)) → Headed (written ws d.stores) b es n
        → Headed (written ws (leave_bin x d).stores) b es n
    same_headed b es n g k = leave_headed among_two own was_ordinary b es n (λ z m. outer_in low two high (g z m)) k

    pub opened_left : Opened ws h low first last high (leave_bin x d)
    opened_left =
        record {
          halfway =
              leave_halfway among_two own was_ordinary (λ z m. (outer_in low (x ∷ []) high m, apart z m)) (every_other low x high);
          lower = same_headed outside low first (λ z m. Memᴰ.append_left high m) l.lower;
          upper = same_headed last high outside (λ z m. Memᴰ.append_right low m) l.upper;
          same = leave_same among_two own was_ordinary l.same;
        }

-- a chunk e of a heap that passes, neither start nor end; the chain is split there
pub record InnerChunk (ws : List ℕ) (h : Heap) (low : List Entry) (e : Entry) (high : List Entry) : Type 0 where
  pub well : Passes ws h
  pub split : shape ws h.bytes ≡ low ++ e ∷ high
  pub between : Between h.bytes e

-- before the call
module _ {ws : List ℕ} {h : Heap} {low : List Entry} {e : Entry} {high : List Entry} (chunk : InnerChunk ws h low e high) where
  abbrev well : Passes ws h
  well = chunk.well

  pub whole : shape ws h.bytes ≡ low ++ e ∷ [] ++ high
  whole = chunk.split ∙ sym (append_assoc low (e ∷ []) high)

  pub laid_out : Layout h.bytes (low ++ e ∷ [] ++ high)
  laid_out = subst (λ (l : List Entry). Layout h.bytes l) whole (layout_read ws h well)

  pub beside : (x : Entry) → Mem x (low ++ high) → Beside x e
  beside x m = outer_beside low (e ∷ []) high laid_out m (Memᴰ.head refl)

  pub elsewhere : (x : Entry) → Mem x (low ++ high) → x.place ≢ e.place
  elsewhere x m = outer_elsewhere low (e ∷ []) high laid_out m (Memᴰ.head refl)

  pub outer : (x : Entry) → Mem x (shape ws h.bytes) → x.place ≢ e.place → Mem x (low ++ high)
  outer x m n = every_other low e high x (subst (λ (l : List Entry). Mem x l) whole m) n

  -- chunks are below it and above it
  parts : Cuts h.bytes low (e ∷ []) high
  parts = cuts low (e ∷ []) high laid_out

  pub lows : low ≡ [] → ⊥
  lows z = let q = tiled_empty 0 parts.from low parts.below z in omega (arith, parts.middle.0)

  pub highs : high ≡ [] → ⊥
  highs z = let q = tiled_empty parts.to h.bytes high parts.above z in omega (arith, parts.middle.2)

  -- the invariant before the call
  pub start : Halfway ws h (low ++ e ∷ [] ++ high) (as_read ws h)
  start = subst (λ (l : List Entry). Halfway ws h l (as_read ws h)) whole (halfway_begins ws h well)

  -- the headers of the chunks below e, of e, and of the chunks above e
  pub record HeadersAround : Type 0 where
    pub lower : Headed ws outside low e
    pub own : Header ws (last_or outside low) e (head_or outside high)
    pub upper : Headed ws e high outside

  pub headers_around : HeadersAround
  headers_around =
      let (lower, (own, upper)) =
      headed_cut ws outside low (e ∷ high) outside (subst (λ (l : List Entry). Headed ws outside l outside) chunk.split (headed_read ws h well)) in
      record { lower = lower; own = own; upper = upper }

  loose : Loose ws h low e high e e (as_read ws h)
  unfolding as_read
  loose = record { halfway = start; lower = headers_around.lower; upper = headers_around.upper; same = refl }

  pub opens_kept : ordinary h e ≡ false → Opened ws h low e e high (as_read ws h)
  opens_kept o = opened_kept loose o

  pub opens_left : ordinary h e ≡ true → Opened ws h low e e high (leave_bin e (as_read ws h))
  opens_left o = opened_left loose (e ∷ []) laid_out (Memᴰ.head refl) o

  -- top and donor, if they are other chunks than e
  pub top_outer : e.place ≢ h.top.0 → TopAmong h.bytes h.top.0 (low ++ high)
  top_outer n =
      let (t, m, (r, reaches)) = well.top in
      record { chunk = t; member = outer t m (λ q. n (sym q ∙ r.here)); place = r.here; free = r.free; reaches = reaches }

  pub donor_outer : e.place ≢ h.donor.0 → 0 < h.donor.0 → DonorAmong h.donor.0 h.top.0 (low ++ high)
  donor_outer n some =
      let (t, m, (r, below)) = well.donor some in
      record { chunk = t; member = outer t m (λ q. n (sym q ∙ r.here)); place = r.here; free = r.free; below = below }
