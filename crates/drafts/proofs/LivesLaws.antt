-- The list of a chain's live chunks. Free chunks, donor and top do not matter to it, so one equation says which live blocks a call leaves
-- and how many bytes are used. Assumes nothing.
use mathlib.Core.Path.{◌≡◌, refl, ap, ◌∙◌}
use mathlib.Core.Bool.{true}
use mathlib.Core.List.{List, [], ◌∷◌, ◌++◌, append-nil}
use Prim.Native.Nat.{ℕ, ◌+◌}
use native.Mathlib.Omega.{arith}
use Rattle.lists.specs.Lists.{Mem, keep}
use Rattle.lists.proofs.MembersLaws.{kept_from, kept_has, kept_both, kept_same}
use Rattle.lists.proofs.TotalLaws.{total_both}
use Rattle.record.specs.declared.heap.Heap.{Heap}
use Rattle.rules.specs.Shape.{Entry}
use Rattle.rules.specs.Kinds.{live_kind, kind_at, live}
use Rattle.rules.specs.Check.{used_bytes}
use Rattle.rules.proofs.KindsLaws.{free_not_live_lem, live_always}

abbrev pub lives : Heap → List Entry → List Entry
lives h es = keep (live h) es

-- two records with the same heap bytes find the same chunks live
module _ (g h : Heap) (q : g.bytes ≡ h.bytes) where
  pub live_same : (e : Entry) → live g e ≡ live h e
  live_same e =
      ap (λ (bytes : ℕ). live_kind (kind_at bytes g.donor.0 g.top.0 e)) q
      ∙ live_always h.bytes g.donor.0 g.top.0 h.donor.0 h.top.0 e

  pub lives_same : (es : List Entry) → lives g es ≡ lives h es
  lives_same es = kept_same (live g) (live h) es (λ e m. live_same e)

module _ (h : Heap) where
  -- a live chunk is on both of two chains with the same live chunks
  pub live_in : (xs ys : List Entry) → lives h xs ≡ lives h ys → {e : Entry} → Mem e xs → live h e ≡ true → Mem e ys
  live_in xs ys q {e} m l = (kept_from (live h) ys (rw q at (kept_has (live h) m l))).0

  pub lives_both : (xs ys : List Entry) → lives h (xs ++ ys) ≡ lives h xs ++ lives h ys
  lives_both xs ys = kept_both (live h) xs ys

  -- a free chunk is not among them
  pub lives_free : (low : List Entry) (e : Entry) (high : List Entry) → e.flags ≡ 0 → lives h (low ++ e ∷ [] ++ high) ≡ lives h (low ++ high)
  lives_free low e high f =
      let none : lives h (e ∷ []) ≡ [] = rw (free_not_live_lem h e f) refl in
      rw (lives_both (low ++ e ∷ []) high, lives_both low (e ∷ []), none, append-nil (lives h low), lives_both low high) refl

  -- used bytes of a chain in three parts, and of a chain with another middle part
  pub used_parts : (low mid high : List Entry) → used_bytes h (low ++ mid ++ high) ≡ used_bytes h low + used_bytes h mid + used_bytes h high
  used_parts low mid high =
      rw (lives_both (low ++ mid) high, lives_both low mid, total_both (λ (e : Entry). e.size) (lives h low ++ lives h mid) (lives h high), total_both (λ (e : Entry). e.size) (lives h low) (lives h mid))
      refl

  pub used_replaced : (low olds news high : List Entry)
      → used_bytes h (low ++ news ++ high) + used_bytes h olds ≡ used_bytes h (low ++ olds ++ high) + used_bytes h news
  used_replaced low olds news high = let a = used_parts low olds high in let b = used_parts low news high in omega arith
