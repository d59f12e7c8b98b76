-- The chain from a chunk on is that chunk alone, or goes on where it ends: the step of every walk of the chain. Assumes nothing.
use mathlib.Core.Path.{◌≡◌, sym, ◌∙◌}
use mathlib.Core.List.{List, [], ◌∷◌}
use Prim.Native.Nat.{ℕ, ◌-◌, ◌≤◌, ◌<◌}
use native.Mathlib.Decide.{ℕ_discrete}
use native.Mathlib.Omega.{arith}
use borrow.Author.Tests.{lt-ltb}
use Rattle.lists.proofs.ListsLaws.{less, both, not_so}
use Rattle.region.specs.Words.{word, forward}
use Rattle.rules.specs.Shape.{Entry, entry, flags_at}
use Rattle.rules.proofs.ShapeLaws.{Up, up?, chain_from, shape_goes, shape_stops}
use Rattle.chain.specs.Chain.{end_m}

module _ (ws : List ℕ) (bytes : ℕ) where
  -- the chunk at c, as the code finds it
  abbrev pub end_at : ℕ → ℕ
  end_at c = end_m bytes c (word ws c forward)

  abbrev pub here_at : ℕ → Entry
  here_at c = entry c (end_at c - c) (flags_at ws c)

  pub end_up : (c : ℕ) → Up ws bytes c → end_at c ≡ word ws c forward
  unfolding end_m
  end_up c u = rw (lt-ltb c (word ws c forward) u.0, lt-ltb (word ws c forward) bytes u.1)

  pub end_stop : (c : ℕ) → (Up ws bytes c → ⊥) → end_at c ≡ bytes
  unfolding end_m
  end_stop c n = rw (not_so (both (less c (word ws c forward)) (less (word ws c forward) bytes)) n)

  -- the chain from c on is this chunk alone, or goes on where it ends
  pub chain_here : (c : ℕ) → end_at c ≡ bytes → chain_from ws bytes c ≡ here_at c ∷ []
  chain_here c e = shape_stops ws bytes c stop ∙ rw e
    where
      stop : Up ws bytes c → ⊥
      stop u = let a = end_up c u in omega (arith, u.1)

  pub chain_next : (c : ℕ) → (end_at c ≡ bytes → ⊥)
      → (c < end_at c) × (end_at c < bytes) × (chain_from ws bytes c ≡ here_at c ∷ chain_from ws bytes (end_at c))
  chain_next c n = go (up? ws bytes c)
    where
      go : Dec (Up ws bytes c)
          → (c < end_at c) × (end_at c < bytes) × (chain_from ws bytes c ≡ here_at c ∷ chain_from ws bytes (end_at c))
      go (yes u) = rw (end_up c u) (u.0, u.1, shape_goes ws bytes c u)
      go (no k) = absurd (n (end_stop c k))

  -- where it goes on, it ends at its forward link
  pub end_link : (c : ℕ) → (end_at c ≡ bytes → ⊥) → word ws c forward ≡ end_at c
  end_link c n = go (up? ws bytes c)
    where
      go : Dec (Up ws bytes c) → word ws c forward ≡ end_at c
      go (yes u) = sym (end_up c u)
      go (no k) = absurd (n (end_stop c k))

-- a chunk does not end below its place
pub end_above : (ws : List ℕ) (bytes c : ℕ) {n e : ℕ} → n ≡ word ws c forward → e ≡ end_m bytes c n → c ≤ bytes → c ≤ e
end_above ws bytes c en ee h = rw (ee, en) (go (ℕ_discrete (end_at ws bytes c) bytes))
  where
    go : Dec (end_at ws bytes c ≡ bytes) → c ≤ end_at ws bytes c
    go (yes q) = omega arith
    go (no m) = omega (arith, (chain_next ws bytes c m).0)
