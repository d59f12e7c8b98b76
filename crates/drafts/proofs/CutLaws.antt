-- A free chunk cut at any place into a part below, the granted part and a part above; a part is empty or has at least 24 bytes (`cut_parts`).
-- Where the parts lie (`part_in`, `parts_tiled`), and which of them is live (`lives_parts`). Plain grants cut at 0: the draft that the rule
-- makes then (`grants_part`, `grants_all`). Assumes nothing.
use mathlib.Core.Path.{◌≡◌, refl, ap, subst, ◌∙◌}
use mathlib.Core.Logic.{◌⊎◌, inl, inr}
use mathlib.Core.Bool.{Bool, true, false, not, cond}
use mathlib.Core.List.Memᴰ
use mathlib.Core.List.{List, [], ◌∷◌, ◌++◌}
use Prim.Native.Nat.{ℕ, ◌+◌, ◌-◌, ◌%◌, ◌≤◌, ◌<◌}
use native.Mathlib.Decide.{ℕ_discrete, dec_le}
use native.Mathlib.Nat.{add-zero, sub-zero}
use native.Mathlib.Omega.{arith}
use lib.Dec.{eqb}
use borrow.Author.Tests.{eq-eqb, ne_eqb, eqb-true, eqb-false, le-leb, lt-leb}
use Rattle.lists.specs.Lists.{Mem, keep, Distinct}
use Rattle.lists.proofs.MembersLaws.{kept_from, kept_has, kept_distinct}
use Rattle.record.specs.declared.heap.Heap.{Heap}
use Rattle.record.specs.declared.kinds.Kind.{Kind}
use Rattle.rules.specs.Shape.{Entry, entry, chunk_end, shape}
use Rattle.rules.specs.Kinds.{unused, used, live}
use Rattle.rules.specs.Check.{Passes}
use Rattle.rules.specs.Draft.{Draft, now_uses, relink, settle}
use Rattle.rules.specs.Cut.{Parts, Grant, cut, chunks_of, grant_at, leave_as}
use Rattle.rules.proofs.KindsLaws.{free_not_live_lem}
use Rattle.rules.proofs.NamedLaws.{Free}
use Rattle.rules.proofs.TiledLaws.{Tiled}
use Rattle.drafts.proofs.LivesLaws.{lives}

-- a free chunk e of a heap that passes; the chain is split there
pub record FreeChunk (ws : List ℕ) (h : Heap) (low : List Entry) (e : Entry) (high : List Entry) : Type 0 where
  pub well : Passes ws h
  pub split : shape ws h.bytes ≡ low ++ e ∷ high
  pub free : Free ws h e

-- the parts of the chunk e, cut for n bytes that begin `skip` bytes above its place
pub record Cutting (e : Entry) (skip n : ℕ) (p : Parts) : Type 0 where
  pub bottom : p.below.place ≡ e.place
  pub skipped : p.below.size ≡ skip
  pub bottom_free : p.below.flags ≡ 0
  pub place : p.granted.place ≡ e.place + skip
  pub flags : p.granted.flags ≡ 1
  pub enough : n ≤ p.granted.size
  pub next : p.above.place ≡ e.place + skip + p.granted.size
  pub free : p.above.flags ≡ 0
  pub sum : skip + p.granted.size + p.above.size ≡ e.size
  -- what is left above is empty or large enough for a chunk; if it is empty, there was too little for one
  pub exact : 0 < p.above.size → (p.granted.size ≡ n) × (24 ≤ p.above.size)
  pub near : p.above.size ≡ 0 → e.size < skip + n + 24

pub cut_parts : (e : Entry) (skip n : ℕ) → skip + n ≤ e.size → Cutting e skip n (cut e skip n)
unfolding cut
cut_parts e skip n enough = go (dec_le (n + 24) (e.size - skip))
  where
    -- with so many bytes granted
    granting : (given : ℕ) → n ≤ given → skip + given ≤ e.size
        → (skip + given < e.size → (given ≡ n) × (skip + n + 24 ≤ e.size)) → (skip + given ≡ e.size → e.size < skip + n + 24)
        → Cutting e skip n
        (record {
          below = entry e.place skip unused;
          granted = entry (e.place + skip) given used;
          above = entry (e.place + skip + given) (e.size - skip - given) unused;
        })
    granting given least most exact near =
        record {
          bottom = refl;
          skipped = refl;
          bottom_free = refl;
          place = refl;
          flags = refl;
          enough = least;
          next = refl;
          free = refl;
          sum = omega arith;
          exact = λ some. let (same, large) = exact (omega arith) in (same, omega arith);
          near = λ none. near (omega arith);
        }

    go : Dec (n + 24 ≤ e.size - skip) → Cutting e skip n (cut e skip n)
    go (yes l) =
        rw (le-leb (n + 24) (e.size - skip) l) (granting n (omega arith) (omega arith) (λ _. (refl, omega arith)) (λ z. absurd (omega arith)))
    go (no m) =
        rw (lt-leb (n + 24) (e.size - skip) (omega arith))
        (granting (e.size - skip) (omega arith) (omega arith) (λ l. absurd (omega arith)) (λ z. omega arith))

-- the part is not empty
abbrev there : Entry → Bool
there x = not (eqb x.size 0)

there_some : (x : Entry) → there x ≡ true → 0 < x.size
there_some x q = go (eqb x.size 0) refl q
  where
    go : (t : Bool) → eqb x.size 0 ≡ t → not t ≡ true → 0 < x.size
    go false r q = let n = eqb-false x.size 0 r in omega arith
    go true r q = absurd (let z : ◌≡◌ {A = ℕ} 0 1 = cc in omega arith)

-- the free parts that are not empty
abbrev pub rest_of : Parts → List Entry
rest_of p = keep there (p.below ∷ p.above ∷ [])

-- chunks and empty parts, each beginning where the one before ends
abbrev Abutting : ℕ → List Entry → ℕ → Type 0
Abutting a [] b = a ≡ b
Abutting a (e ∷ es) b = (e.place ≡ a) × Abutting (chunk_end e) es b

abutting_tiled : (a b : ℕ) (es : List Entry) → Abutting a es b → Tiled a (keep there es) b
abutting_tiled a b [] t = t
abutting_tiled a b (e ∷ es) t = go (eqb e.size 0) refl (abutting_tiled (chunk_end e) b es t.1)
  where
    go : (t : Bool) → eqb e.size 0 ≡ t → Tiled (chunk_end e) (keep there es) b → Tiled a (cond (not t) (e ∷ keep there es) (keep there es)) b
    go true q r =
        let z = eqb-true e.size 0 q in
        let s : chunk_end e ≡ a = omega arith in
        subst (λ (v : ℕ). Tiled v (keep there es) b) s r
    go false q r = let n = eqb-false e.size 0 q in (t.0, omega arith, r)

-- where a part that is not empty lies in the chunk e
pub record PartIn (e x : Entry) : Type 0 where
  pub eight : x.place % 8 ≡ 0
  pub flags : x.flags ≤ 1
  pub starts : e.place ≤ x.place
  pub large : 24 ≤ x.size
  pub ends : chunk_end x ≤ chunk_end e

module _ {e : Entry} {skip n : ℕ} {p : Parts} (c : Cutting e skip n p) where
  pub parts_tiled : Tiled e.place (chunks_of p) (chunk_end e)
  parts_tiled =
      abutting_tiled e.place (chunk_end e) (p.below ∷ p.granted ∷ p.above ∷ []) (omega arith, (omega arith, (omega arith, omega arith)))

  -- the chunks that the cut makes are the granted one and the free parts
  pub rest_among : (x : Entry) → Mem x (rest_of p) → Mem x (chunks_of p) × (x.flags ≡ 0)
  rest_among x m = let k = kept_from there (p.below ∷ p.above ∷ []) m in go k.0 k.1
    where
      go : Mem x (p.below ∷ p.above ∷ []) → there x ≡ true → Mem x (chunks_of p) × (x.flags ≡ 0)
      go (Memᴰ.head q) t = (kept_has there {xs = p.below ∷ p.granted ∷ p.above ∷ []} (Memᴰ.head q) t, ap (λ (y : Entry). y.flags) q ∙ c.bottom_free)
      go (Memᴰ.tail k) t =
          let q = Memᴰ.eq_of_singleton k in
          (kept_has there {xs = p.below ∷ p.granted ∷ p.above ∷ []} (Memᴰ.tail (Memᴰ.tail k)) t, ap (λ (y : Entry). y.flags) q ∙ c.free)

  pub chunks_among : (x : Entry) → Mem x (chunks_of p) → (x ≡ p.granted) ⊎ Mem x (rest_of p)
  chunks_among x m = let k = kept_from there (p.below ∷ p.granted ∷ p.above ∷ []) m in go k.0 k.1
    where
      go : Mem x (p.below ∷ p.granted ∷ p.above ∷ []) → there x ≡ true → (x ≡ p.granted) ⊎ Mem x (rest_of p)
      go (Memᴰ.head q) t = inr (kept_has there {xs = p.below ∷ p.above ∷ []} (Memᴰ.head q) t)
      go (Memᴰ.tail (Memᴰ.head q)) t = inl q
      go (Memᴰ.tail (Memᴰ.tail k)) t = inr (kept_has there {xs = p.below ∷ p.above ∷ []} (Memᴰ.tail k) t)

  pub granted_among : 0 < n → Mem p.granted (chunks_of p)
  granted_among some =
      kept_has there {xs = p.below ∷ p.granted ∷ p.above ∷ []} (Memᴰ.tail (Memᴰ.head refl)) (rw (ne_eqb p.granted.size 0 (λ z. omega arith)) refl)

  pub rest_once : 0 < n → Distinct (rest_of p)
  rest_once some = kept_distinct there (p.below ∷ p.above ∷ []) (differ, ((λ m. Memᴰ.not-nil m), tt))
    where
      differ : Mem p.below (p.above ∷ []) → ⊥
      differ m =
          let q = ap (λ (y : Entry). y.place) (Memᴰ.eq_of_singleton m) in
          omega arith

  -- a free part is smaller than the whole
  pub rest_smaller : 0 < n → (x : Entry) → Mem x (rest_of p) → x.size < e.size
  rest_smaller some x m = go (kept_from there (p.below ∷ p.above ∷ []) m).0
    where
      go : Mem x (p.below ∷ p.above ∷ []) → x.size < e.size
      go (Memᴰ.head q) = let s = ap (λ (y : Entry). y.size) q in omega arith
      go (Memᴰ.tail k) = let s = ap (λ (y : Entry). y.size) (Memᴰ.eq_of_singleton k) in omega arith

  -- all figures are multiples of 8, and the part below is empty or large enough for a chunk
  module _ (place : e.place % 8 ≡ 0) (size : e.size % 8 ≡ 0) (skips : skip % 8 ≡ 0) (room : 0 < skip → 24 ≤ skip) (eight : n % 8 ≡ 0) (large : 24 ≤ n) where
    granted_in_lem : PartIn e p.granted
    granted_in_lem =
        record { eight = omega arith; flags = omega arith; starts = omega arith; large = omega arith; ends = omega arith }

    pub part_in : (x : Entry) → Mem x (chunks_of p) → PartIn e x
    part_in x m = let k = kept_from there (p.below ∷ p.granted ∷ p.above ∷ []) m in go k.0 (there_some x k.1)
      where
        go : Mem x (p.below ∷ p.granted ∷ p.above ∷ []) → 0 < x.size → PartIn e x
        go (Memᴰ.head q) l =
            rw q
            (let s = ap (λ (y : Entry). y.size) q in
            let r = room (omega arith) in
            record { eight = omega arith; flags = omega arith; starts = omega arith; large = omega arith; ends = omega arith })
        go (Memᴰ.tail (Memᴰ.head q)) l = rw q granted_in_lem
        go (Memᴰ.tail (Memᴰ.tail k)) l =
            let q = Memᴰ.eq_of_singleton k in
            rw q
            (let s = ap (λ (y : Entry). y.size) q in
            let r = c.exact (omega arith) in
            record { eight = omega arith; flags = omega arith; starts = omega arith; large = r.1; ends = omega arith })

  -- only the granted part is live
  pub lives_parts : (h : Heap) → 0 < n → live h p.granted ≡ true → lives h (chunks_of p) ≡ p.granted ∷ []
  lives_parts h some l =
      rw (ne_eqb p.granted.size 0 (λ z. omega arith)) (go (there p.below) (there p.above))
    where
      go : (a b : Bool) → lives h (cond a (p.below ∷ p.granted ∷ cond b (p.above ∷ []) []) (p.granted ∷ cond b (p.above ∷ []) [])) ≡ p.granted ∷ []
      go true true = rw (free_not_live_lem h p.below c.bottom_free, l, free_not_live_lem h p.above c.free) refl
      go true false = rw (free_not_live_lem h p.below c.bottom_free, l) refl
      go false true = rw (l, free_not_live_lem h p.above c.free) refl
      go false false = rw l refl

-- a cut at 0 leaves nothing below
module _ {e : Entry} {n : ℕ} {p : Parts} (c : Cutting e 0 n p) where
  pub rest_none : p.above.size ≡ 0 → rest_of p ≡ []
  rest_none z = rw (eq-eqb p.below.size 0 c.skipped, eq-eqb p.above.size 0 z) refl

  pub rest_above : (p.above.size ≡ 0 → ⊥) → rest_of p ≡ p.above ∷ []
  rest_above n = rw (eq-eqb p.below.size 0 c.skipped, ne_eqb p.above.size 0 n) refl

  -- where enough for a chunk is left, it lies n bytes up
  pub rest_place : n + 24 ≤ e.size → p.above.place ≡ e.place + n
  rest_place l = go (ℕ_discrete p.above.size 0)
    where
      go : Dec (p.above.size ≡ 0) → p.above.place ≡ e.place + n
      go (yes z) = absurd (omega (arith, c.near z))
      go (no some) = omega (arith, c.exact (omega arith))

-- what the rule makes if something is left of the chunk, and if nothing is
abbrev pub partly : Kind → List Entry → Entry → List Entry → ℕ → Draft → Grant
partly k low e high n d =
    let given = entry e.place n used in
    let rest = entry (e.place + n) (e.size - n) unused in
    record {
      granted = given;
      draft = now_uses 0 n (settle k rest (relink low (given ∷ rest ∷ []) high (leave_as k e d)));
    }

abbrev pub wholly : Kind → List Entry → Entry → List Entry → Draft → Grant
wholly k low e high d =
    let given = entry e.place e.size used in
    record { granted = given; draft = now_uses 0 e.size (relink low (given ∷ []) high (leave_as k e d)) }

module _ (k : Kind) (low : List Entry) (e : Entry) (high : List Entry) {n : ℕ} (d : Draft) (large : 24 ≤ n) where
  abbrev pub ruled_cut : Grant
  ruled_cut = grant_at k (record { low = low; here = e; high = high }) n d

  pub cut_in_two : n + 24 ≤ e.size → chunks_of (cut e 0 n) ≡ entry e.place n used ∷ entry (e.place + n) (e.size - n) unused ∷ []
  unfolding cut
  cut_in_two l =
      rw (add-zero e.place, sub-zero e.size, le-leb (n + 24) e.size l, ne_eqb n 0 (λ z. omega arith), ne_eqb (e.size - n) 0 (λ z. omega arith))

  pub cut_whole : n ≤ e.size → e.size < n + 24 → chunks_of (cut e 0 n) ≡ entry e.place e.size used ∷ []
  unfolding cut
  cut_whole m l =
      let z : e.size - e.size ≡ 0 = omega arith in
      rw (add-zero e.place, sub-zero e.size, lt-leb (n + 24) e.size l, ne_eqb e.size 0 (λ q. omega arith), z)

  pub grants_part : n + 24 ≤ e.size → ruled_cut ≡ partly k low e high n d
  unfolding grant_at cut
  grants_part l =
      rw (add-zero e.place, sub-zero e.size, le-leb (n + 24) e.size l, ne_eqb n 0 (λ z. omega arith), ne_eqb (e.size - n) 0 (λ z. omega arith))

  pub grants_all : n ≤ e.size → e.size < n + 24 → ruled_cut ≡ wholly k low e high d
  unfolding grant_at cut
  grants_all m l =
      let z : e.size - e.size ≡ 0 = omega arith in
      rw (add-zero e.place, sub-zero e.size, lt-leb (n + 24) e.size l, ne_eqb e.size 0 (λ q. omega arith), z)
