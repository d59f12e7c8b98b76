-- What is known of a chunk of a heap that passes by its kind: free, of a live block, ordinary, the top, the donor.
-- `SpotLaws` says where chunks lie. Assumes nothing.
use mathlib.Core.Path.{◌≡◌, sym, ap, ◌∙◌}
use mathlib.Core.Bool.{true, false≢true}
use mathlib.Core.List.{List, [], ◌∷◌, ◌++◌}
use Prim.Native.Nat.{ℕ, ◌+◌, ◌%◌, ◌<◌}
use native.Mathlib.Omega.{arith}
use Rattle.lists.specs.Lists.{Mem, head_or, last_or}
use Rattle.record.specs.declared.heap.Heap.{Heap}
use Rattle.record.specs.declared.kinds.Kind.TheVariants.{InUse, Donor, Top}
use Rattle.region.specs.Words.{word, size}
use Rattle.rules.specs.Shape.{Entry, shape, chunk_end}
use Rattle.rules.specs.Kinds.{ordinary_kind, free_kind, kind_of, ordinary, is_free, live, is_at, outside}
use Rattle.rules.specs.Check.{Unbinned, Passes}
use Rattle.rules.specs.Draft.{Spot, spot}
use Rattle.rules.proofs.KindsLaws.{Being, being, kind_top, kind_donor, ordinary_kind_lem, live_kind_lem, free_kinds, being_as}
use Rattle.rules.proofs.SpotLaws.{Between, Around, one_chunk, inside, tiled_at, ends, between, spot_at, around}
use Rattle.rules.proofs.TiledLaws.{tiled_one}

-- what is known of a free chunk
pub record Free (ws : List ℕ) (h : Heap) (e : Entry) : Type 0 where
  pub flags : e.flags ≡ 0
  pub sized : word ws e.place size ≡ e.size
  pub between : Between h.bytes e

-- what is known of an ordinary chunk
pub record IsOrdinary (ws : List ℕ) (h : Heap) (e : Entry) : Type 0 where
  pub free : Free ws h e
  pub not_top : e.place ≡ h.top.0 → ⊥
  pub not_donor : e.place ≡ h.donor.0 → ⊥

-- what is known of the top: only the end chunk is above it
pub record IsTop (ws : List ℕ) (h : Heap) (es : List Entry) (e : Entry) : Type 0 where
  pub member : Mem e es
  pub place : e.place ≡ h.top.0
  pub free : Free ws h e
  pub out : Unbinned ws h.top.0
  pub reaches : chunk_end e + 8 ≡ h.bytes
  pub kind : kind_of h e ≡ Top
  pub here : (spot (is_at h.top.0) es).here ≡ e
  pub high : (spot (is_at h.top.0) es).high ≡ last_or outside es ∷ []
  pub split : es ≡ (spot (is_at h.top.0) es).low ++ e ∷ last_or outside es ∷ []

-- what is known of the donor
pub record IsDonor (ws : List ℕ) (h : Heap) (es : List Entry) (e : Entry) : Type 0 where
  pub member : Mem e es
  pub place : e.place ≡ h.donor.0
  pub free : Free ws h e
  pub out : Unbinned ws h.donor.0
  pub below : h.donor.0 < h.top.0
  pub kind : kind_of h e ≡ Donor
  pub here : (spot (is_at h.donor.0) es).here ≡ e
  pub split : es ≡ (spot (is_at h.donor.0) es).low ++ e ∷ (spot (is_at h.donor.0) es).high

-- a free chunk at the record's top or donor is of that kind
module _ (ws : List ℕ) (h : Heap) (e : Entry) (f : Free ws h e) where
  top_kind : e.place ≡ h.top.0 → kind_of h e ≡ Top
  top_kind q = sym (kind_top h.bytes h.donor.0 h.top.0 e (λ z. omega arith) (λ z. omega arith) (λ z. omega arith) q)

  donor_kind : (e.place ≡ h.top.0 → ⊥) → e.place ≡ h.donor.0 → kind_of h e ≡ Donor
  donor_kind n q =
      sym (kind_donor h.bytes h.donor.0 h.top.0 e (λ z. omega arith) (λ z. omega arith) (λ z. omega arith) n q)

module _ (ws : List ℕ) (h : Heap) (p : Passes ws h) where
  abbrev es : List Entry
  es = shape ws h.bytes

  -- a free chunk is neither start nor end: those are in use
  pub free_between : (e : Entry) → Mem e es → e.flags ≡ 0 → Between h.bytes e
  free_between e m f =
      let l = ends ws h p in
      let i = inside ws h p e m in
      let not_start : e.place ≡ 0 → ⊥ =
      λ q. let s = ap (λ (x : Entry). x.flags) (one_chunk ws h p e (head_or outside es) m l.start (q ∙ sym l.start_place)) in omega arith in
      let not_end_lem : e.place + 8 ≡ h.bytes → ⊥ =
      λ q. let s = ap (λ (x : Entry). x.flags) (one_chunk ws h p e (last_or outside es) m l.end (omega arith)) in omega arith in
      between ws h p e m (omega arith) (omega arith)

  -- a chunk that is free by its flags; by its kind
  pub flags_free : (e : Entry) → Mem e es → e.flags ≡ 0 → Free ws h e
  flags_free e m f = record { flags = f; sized = (p.chunks e m).sized f; between = free_between e m f }

  pub kind_free : (e : Entry) → Mem e es → is_free h e ≡ true → Free ws h e
  kind_free e m f =
      let z =
      free_kinds (λ k. Being h.bytes h.donor.0 h.top.0 e k → e.flags % 2 ≡ 0) (λ b. b.2) (λ b. b.2) (λ b. b.2)
      (kind_of h e) f (being h.bytes h.donor.0 h.top.0 e) in
      let i = inside ws h p e m in
      flags_free e m (omega arith)

  -- the chunk of a live block
  pub live_between : (e : Entry) → Mem e es → live h e ≡ true → (e.flags ≡ 1) × Between h.bytes e
  live_between e m f =
      let i = inside ws h p e m in
      let b = being_as h e InUse (live_kind_lem (kind_of h e) f) in
      (omega arith, between ws h p e m b.0 (omega arith))

  pub is_ordinary_lem : (e : Entry) → Mem e es → ordinary h e ≡ true → IsOrdinary ws h e
  is_ordinary_lem e m o =
      let f = kind_free e m (ap free_kind (ordinary_kind_lem (kind_of h e) o)) in
      let not_top_lem : e.place ≡ h.top.0 → ⊥ = λ q. false≢true (ap ordinary_kind (sym (top_kind ws h e f q)) ∙ o) in
      record {
        free = f;
        not_top = not_top_lem;
        not_donor = λ q. false≢true (ap ordinary_kind (sym (donor_kind ws h e f not_top_lem q)) ∙ o);
      }

  the_top : IsTop ws h es p.top.0
  the_top =
      let (t, m, (r, reaches)) = p.top in
      let f = flags_free t m r.free in
      let s = spot_at ws h p h.top.0 t m r.here in
      let a : Spot = spot (is_at h.top.0) es in
      let high = only_end a.low t a.high s.split reaches (around ws h p a.low t a.high s.split (omega arith) (omega arith)) in
      record {
        member = m;
        place = r.here;
        free = f;
        out = r.out;
        reaches = reaches;
        kind = top_kind ws h t f r.here;
        here = s.here;
        high = high;
        split = s.split ∙ ap (λ (l : List Entry). a.low ++ t ∷ l) high;
      }
    where
      only_end : (low : List Entry) (e : Entry) (high : List Entry) → es ≡ low ++ e ∷ high → chunk_end e + 8 ≡ h.bytes
          → Around ws es low e high → high ≡ last_or outside es ∷ []
      only_end low e high s r a =
          let l = ends ws h p in
          let i = inside ws h p _ a.above in
          tiled_one (chunk_end e) h.bytes high (tiled_at ws h p low e high s).above (omega arith) (omega arith)
          ∙ ap (λ (d : Entry). d ∷ []) (one_chunk ws h p _ _ a.above l.end (omega arith))

  pub is_top : (e : Entry) → Mem e es → e.place ≡ h.top.0 → IsTop ws h es e
  is_top e m q = rw (one_chunk ws h p e p.top.0 m the_top.member (q ∙ sym the_top.place)) the_top

  pub top_here : IsTop ws h es (spot (is_at h.top.0) es).here
  top_here = rw the_top.here the_top

  the_donor : (l : 0 < h.donor.0) → IsDonor ws h es (p.donor l).0
  the_donor l =
      let (t, m, (r, below)) = p.donor l in
      let f = flags_free t m r.free in
      let s = spot_at ws h p h.donor.0 t m r.here in
      record {
        member = m;
        place = r.here;
        free = f;
        out = r.out;
        below = below;
        kind = donor_kind ws h t f (λ q. omega arith) r.here;
        here = s.here;
        split = s.split;
      }

  pub is_donor : (e : Entry) → Mem e es → 0 < h.donor.0 → e.place ≡ h.donor.0 → IsDonor ws h es e
  is_donor e m l q =
      let d = the_donor l in rw (one_chunk ws h p e (p.donor l).0 m d.member (q ∙ sym d.place)) d

  pub donor_here : 0 < h.donor.0 → IsDonor ws h es (spot (is_at h.donor.0) es).here
  donor_here l = rw (the_donor l).here (the_donor l)
