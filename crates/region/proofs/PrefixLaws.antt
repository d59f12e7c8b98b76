-- A run of stores that all fall below word m acts on the first m words alone: the words from m on are as they were. Assumes nothing.
use mathlib.Core.Path.{◌≡◌}
use mathlib.Core.List.{List, [], ◌∷◌, ◌++◌}
use Prim.Native.Nat.{ℕ, ◌+◌, ◌/◌, ◌<◌}
use lib.ListN.{take, drop, take-append-drop}
use lib.Seq.{take-set-lt, drop-set-lt}
use Rattle.region.specs.Words.{store, Store, written}
use Rattle.region.proofs.WordsLaws.{Fall, fall_both}

-- every store is to a word below m
abbrev pub Below : ℕ → List Store → Type 0
Below m ss = Fall (λ w. w < m) ss

pub below_both : (m : ℕ) (ss ts : List Store) → Below m ss → Below m ts → Below m (ss ++ ts)
below_both m ss ts f g = fall_both (λ w. w < m) ss ts f g

module _ (m : ℕ) (ws : List ℕ) (c k v : ℕ) (h : c / 4 + k < m) where
  pub take_store : take m (store ws c k v) ≡ store (take m ws) c k v
  unfolding store
  take_store = take-set-lt m ws (c / 4 + k) v h

  pub drop_store : drop m (store ws c k v) ≡ drop m ws
  unfolding store
  drop_store = drop-set-lt m ws (c / 4 + k) v h

pub written_prefix : (m : ℕ) (ss : List Store) (ws : List ℕ) → Below m ss → written (take m ws) ss ++ drop m ws ≡ written ws ss
written_prefix m [] ws h = take-append-drop m ws
written_prefix m (s ∷ ss) ws h =
    rw (
      ← take_store m ws s.chunk s.number s.value h.0,
      ← drop_store m ws s.chunk s.number s.value h.0,
    )
    (written_prefix m ss _ h.1)
