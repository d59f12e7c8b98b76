-- The heap bytes, shared out: what is used, what is free, and 8 bytes each for start and end (`bytes_shared`). It asks of the chain
-- only that it begins with a start chunk of 8 bytes and ends with the end chunk. Assumes nothing.
use mathlib.Core.Path.{◌≡◌, refl, ap, ◌∙◌}
use mathlib.Core.Bool.{cond}
use mathlib.Core.List.{List, [], ◌∷◌}
use Prim.Native.Nat.{ℕ, ◌+◌, ◌-◌, ◌<◌}
use native.Mathlib.Omega.{arith}
use Rattle.lists.specs.Lists.{head_or, last_or, keep, total}
use Rattle.record.specs.declared.heap.Heap.{Heap}
use Rattle.record.specs.declared.kinds.Kind.{Kind}
use Rattle.record.specs.declared.kinds.Kind.TheVariants.{Start, InUse, Ordinary, Donor, Top, End}
use Rattle.region.specs.Words.{word, forward}
use Rattle.rules.specs.Check.{used_bytes, free_bytes}
use Rattle.rules.specs.Kinds.{kind_of, live, is_free, live_kind, free_kind, outside}
use Rattle.rules.specs.Shape.{Entry, shape}
use Rattle.rules.proofs.KindsLaws.{Being, being, kind_start}
use Rattle.rules.proofs.ShapeLaws.{Up, up?, up_entry, last_entry, chain_from, chain_by, shape_goes, shape_stops, shape_is}

module _ (ws : List ℕ) (h : Heap) where
  -- what a list of chunks holds, used and free
  abbrev held : List Entry → ℕ
  held es = used_bytes h es + free_bytes h es

  -- the same, with a chunk of this kind before them
  abbrev with_chunk : Kind → Entry → List Entry → ℕ
  with_chunk k e es =
      total (λ d. d.size) (cond (live_kind k) (e ∷ keep (live h) es) (keep (live h) es))
      + total (λ d. d.size) (cond (free_kind k) (e ∷ keep (is_free h) es) (keep (is_free h) es))

  -- a chunk at c: the last one, and one behind which the chain goes on
  abbrev last : ℕ → Entry
  last c = last_entry ws h.bytes c

  abbrev inner : ℕ → Entry
  inner c = up_entry ws h.bytes c

  abbrev Is : Entry → Kind → Type 0
  Is e k = Being h.bytes h.donor.0 h.top.0 e k

  is : (e : Entry) → Is e (kind_of h e)
  is e = being h.bytes h.donor.0 h.top.0 e

  -- the chain from a place above the start on, up to the end chunk; the first argument stands in where a list has no last member
  abbrev Shares : ℕ → List Entry → Type 0
  Shares c es = (d : Entry) → 0 < c → (last_or d es).place + 8 ≡ h.bytes → held es + 8 + c ≡ h.bytes

  last_shares : (c : ℕ) → Shares c (last c ∷ [])
  last_shares c d some end = go (kind_of h (last c)) (is (last c))
    where
      go : (k : Kind) → Is (last c) k → with_chunk k (last c) [] + 8 + c ≡ h.bytes
      go Start b = absurd (omega arith)
      go InUse (_, below, _) = absurd (below end)
      go Ordinary (_, below, _) = absurd (below end)
      go Donor (_, below, _, _) = absurd (below end)
      go Top (_, below, _, _) = absurd (below end)
      go End b = omega arith

  more_shares : (c : ℕ) (es : List Entry) → Up ws h.bytes c → Shares (word ws c forward) es → Shares c (inner c ∷ es)
  more_shares c es (up, inside) rest d some end =
      go (kind_of h (inner c)) (is (inner c)) (rest (inner c) (omega arith) end)
    where
      go : (k : Kind) → Is (inner c) k → held es + 8 + word ws c forward ≡ h.bytes → with_chunk k (inner c) es + 8 + c ≡ h.bytes
      go Start b r = absurd (omega arith)
      go InUse b r = omega arith
      go Ordinary b r = omega arith
      go Donor b r = omega arith
      go Top b r = omega arith
      go End b r = absurd (omega arith)

  shares : (c : ℕ) → Shares c (chain_from ws h.bytes c)
  shares = chain_by ws h.bytes Shares (λ c n. last_shares c) more_shares

  -- the start chunk counts neither as used nor as free
  start_share : (e : Entry) (es : List Entry) → e.place ≡ 0 → held (e ∷ es) ≡ held es
  start_share e es z = rw (← kind_start h.bytes h.donor.0 h.top.0 e z)

  pub bytes_shared : 8 < h.bytes → (head_or outside (shape ws h.bytes)).size ≡ 8
      → (last_or outside (shape ws h.bytes)).place + 8 ≡ h.bytes → held (shape ws h.bytes) + 16 ≡ h.bytes
  bytes_shared big first end = go (up? ws h.bytes 0) (rw (shape_is ws h.bytes) at first) (rw (shape_is ws h.bytes) at end)
    where
      go : Dec (Up ws h.bytes 0) → (head_or outside (chain_from ws h.bytes 0)).size ≡ 8
          → (last_or outside (chain_from ws h.bytes 0)).place + 8 ≡ h.bytes → held (shape ws h.bytes) + 16 ≡ h.bytes
      go (yes u) first end =
          let goes = shape_goes ws h.bytes 0 u in
          let size : word ws 0 forward - 0 ≡ 8 = rw goes at first in
          let rest = shares (word ws 0 forward) (inner 0) u.0 (rw goes at end) in
          rw (shape_is ws h.bytes, goes)
          (ap (λ (x : ℕ). x + 16) (start_share (inner 0) (chain_from ws h.bytes (word ws 0 forward)) refl) ∙ omega arith)
      go (no n) first end =
          let size : h.bytes - 0 ≡ 8 = rw (shape_stops ws h.bytes 0 n) at first in
          absurd (omega arith)
