-- The fuel of both readings always suffices, so the laws here do without it: how the chain goes on from a chunk,
-- and which list is read from a bin. Assumes nothing.
use mathlib.Core.Path.{◌≡◌, refl, sym, ap, ◌∙◌}
use mathlib.Core.Bool.{Bool, ◌&&◌}
use mathlib.Core.List.{List, [], ◌∷◌}
use Prim.Native.Nat.{ℕ, zero, suc, ◌+◌, ◌-◌, ◌≤◌, ◌<◌}
use native.Mathlib.Decide.{ℕ_discrete}
use native.Mathlib.Numerals.{sub-one}
use native.Mathlib.Omega.{arith}
use lib.Dec.{ltb}
use lib.ListN.{length}
use borrow.Author.Tests.{ne_eqb}
use Rattle.lists.specs.Lists.{head_or}
use Rattle.lists.proofs.ListsLaws.{Decides, less, both, not_so, decided}
use Rattle.region.specs.Words.{word, forward, next_in_bin}
use Rattle.rules.specs.Shape.{Entry, entry, flags_at, shape_from, shape, members_from}

module _ (ws : List ℕ) (bytes : ℕ) where
  -- the forward link of c goes up and stays inside the heap
  abbrev pub Up : ℕ → Type 0
  Up c = (c < word ws c forward) × (word ws c forward < bytes)

  abbrev up : ℕ → Bool
  up c = ltb c (word ws c forward) && ltb (word ws c forward) bytes

  up_iff : (c : ℕ) → Decides (up c) (Up c)
  up_iff c = both (less c (word ws c forward)) (less (word ws c forward) bytes)

  pub up? : (c : ℕ) → Dec (Up c)
  up? c = decided (up_iff c)

  abbrev pub last_entry : ℕ → Entry
  last_entry c = entry c (bytes - c) (flags_at ws c)

  abbrev pub up_entry : ℕ → Entry
  up_entry c = entry c (word ws c forward - c) (flags_at ws c)

  stops : (k c : ℕ) → (Up c → ⊥) → shape_from k ws bytes c ≡ last_entry c ∷ []
  stops zero c n = refl
  stops (suc k) c n = rw (not_so (up_iff c) n, shape_from)

  goes : (k c : ℕ) → Up c → shape_from (suc k) ws bytes c ≡ up_entry c ∷ shape_from k ws bytes (word ws c forward)
  goes k c u = rw ((up_iff c).1 u, shape_from)

  -- any two amounts of fuel that suffice read the same chain
  pub shape_steps : (j k c : ℕ) → bytes ≤ c + j → bytes ≤ c + k → shape_from j ws bytes c ≡ shape_from k ws bytes c
  shape_steps zero k c hj hk = sym (stops k c (λ u. omega arith))
  shape_steps (suc j) zero c hj hk = stops (suc j) c (λ u. omega arith)
  shape_steps (suc j) (suc k) c hj hk =
      go (up? c) (λ u. shape_steps j k (word ws c forward) (omega arith) (omega arith))
    where
      go : Dec (Up c) → (Up c → shape_from j ws bytes (word ws c forward) ≡ shape_from k ws bytes (word ws c forward))
          → shape_from (suc j) ws bytes c ≡ shape_from (suc k) ws bytes c
      go (yes u) f = goes j c u ∙ ap (λ (es : List Entry). up_entry c ∷ es) (f u) ∙ sym (goes k c u)
      go (no n) f = stops (suc j) c n ∙ sym (stops (suc k) c n)

  -- the chain from c on: what it is where the link goes up, and where it does not
  pub chain_from : ℕ → List Entry
  chain_from c = shape_from bytes ws bytes c

  pub shape_goes : (c : ℕ) → Up c → chain_from c ≡ up_entry c ∷ chain_from (word ws c forward)
  unfolding chain_from
  shape_goes c u =
      shape_steps bytes (suc bytes) c (omega arith) (omega arith) ∙ goes bytes c u

  pub shape_stops : (c : ℕ) → (Up c → ⊥) → chain_from c ≡ last_entry c ∷ []
  unfolding chain_from
  shape_stops c n = stops bytes c n

  pub shape_is : shape ws bytes ≡ chain_from 0
  unfolding shape chain_from
  shape_is = refl

  -- induction along the chain: P holds of the chain from every place on, if it holds of the last chunk alone
  -- and passes from the rest of a chain to the chain with one more chunk below
  module _ (P : ℕ → List Entry → Type 0) (last : (c : ℕ) → (Up c → ⊥) → P c (last_entry c ∷ []))
      (more : (c : ℕ) (es : List Entry) → Up c → P (word ws c forward) es → P c (up_entry c ∷ es)) where
    along : (k c : ℕ) → bytes ≤ c + k → P c (shape_from k ws bytes c)
    along zero c h = last c (λ u. omega arith)
    along (suc k) c h = go (up? c) (λ u. along k (word ws c forward) (omega arith))
      where
        go : Dec (Up c) → (Up c → P (word ws c forward) (shape_from k ws bytes (word ws c forward))) → P c (shape_from (suc k) ws bytes c)
        go (yes u) f = rw (goes k c u) (more c _ u (f u))
        go (no n) f = rw (stops (suc k) c n) (last c n)

    pub chain_by : (c : ℕ) → P c (chain_from c)
    unfolding chain_from
    chain_by c = along bytes c (omega arith)

-- how a bin's list is read on
module _ (ws : List ℕ) where
  pub read_none : (k : ℕ) → members_from k ws 0 ≡ []
  read_none zero = refl
  read_none (suc k) = refl

  pub read_spent : (k c : ℕ) → k ≡ 0 → members_from k ws c ≡ []
  read_spent zero c e = refl
  read_spent (suc k) c e = absurd (omega arith)

  -- the reading goes on at every place but 0
  pub read_on : (k c : ℕ) → (c ≡ 0 → ⊥) → members_from (suc k) ws c ≡ c ∷ members_from k ws (word ws c next_in_bin)
  read_on k c n = rw (ne_eqb c 0 n, members_from)

  pub read_more : (k c : ℕ) → (c ≡ 0 → ⊥) → 0 < k → members_from k ws c ≡ c ∷ members_from (k - 1) ws (word ws c next_in_bin)
  read_more zero c n h = absurd (omega arith)
  read_more (suc k) c n h = rw (sub-one (suc k)) (read_on k c n)

  -- with fuel left it begins at the place from which it is read
  pub read_head : (k c : ℕ) → 0 < k → c ≡ head_or 0 (members_from k ws c)
  read_head zero c l = absurd (omega arith)
  read_head (suc k) c l = elim (ℕ_discrete c 0) [ yes z ↦ rw z refl | no n ↦ rw (read_on k c n) ]

-- the forward bin links lead from each member of the list to the next, and from the last to 0
abbrev pub Leads : List ℕ → List ℕ → Type 0
Leads ws [] = Unit {0}
Leads ws (c ∷ cs) = (0 < c) × (word ws c next_in_bin ≡ head_or 0 cs) × Leads ws cs

-- such a list is what is read, if there is at least as much fuel as members
pub members_steps : (k : ℕ) (ws cs : List ℕ) → length cs ≤ k → Leads ws cs → members_from k ws (head_or 0 cs) ≡ cs
members_steps zero ws [] h l = refl
members_steps zero ws (c ∷ cs) h l = absurd (omega arith)
members_steps (suc k) ws [] h l = refl
members_steps (suc k) ws (c ∷ cs) h (some, next, rest) =
    rw (read_on ws k c (omega arith), next)
    (ap (λ (ds : List ℕ). c ∷ ds) (members_steps k ws cs (omega arith) rest))
