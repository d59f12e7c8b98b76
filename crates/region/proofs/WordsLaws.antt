-- Words after a store, and after a run of stores. Assumes nothing.
-- All are stated by a chunk's place and a word's number: what is asked of two words is that their indices differ.
use mathlib.Core.Path.{◌≡◌, refl, ◌∙◌, subst}
use mathlib.Core.Logic.{◌≢◌}
use mathlib.Core.List.{List, [], ◌∷◌, ◌++◌}
use Prim.Native.Nat.{ℕ, zero, suc, ◌+◌, ◌/◌, ◌<◌}
use lib.ListN.{length, length-set}
use lib.Seq.{get_or-set_same, get_or-set_other}
use Rattle.region.specs.Words.{word, store, Store, written}

module _ (ws : List ℕ) (c k v : ℕ) where
  pub length_store : length (store ws c k v) ≡ length ws
  unfolding store
  length_store = length-set ws (c / 4 + k) v

  pub word_same : c / 4 + k < length ws → word (store ws c k v) c k ≡ v
  unfolding word store
  word_same h = get_or-set_same ws (c / 4 + k) v 0 h

  pub word_other : (d j : ℕ) → d / 4 + j ≢ c / 4 + k → word (store ws c k v) d j ≡ word ws d j
  unfolding word store
  word_other d j h = get_or-set_other ws (c / 4 + k) (d / 4 + j) v 0 h

pub length_written : (ss : List Store) (ws : List ℕ) → length (written ws ss) ≡ length ws
length_written [] ws = refl
length_written (s ∷ ss) ws = length_written ss _ ∙ length_store ws s.chunk s.number s.value

pub written_append : (ss ts : List Store) (ws : List ℕ) → written ws (ss ++ ts) ≡ written (written ws ss) ts
written_append [] ts ws = refl
written_append (s ∷ ss) ts ws = written_append ss ts _

-- every store is to a word whose index has the property
abbrev pub Fall : (ℕ → Type 0) → List Store → Type 0
Fall P [] = Unit {0}
Fall P (s ∷ ss) = P (s.chunk / 4 + s.number) × Fall P ss

pub fall_both : (P : ℕ → Type 0) (ss ts : List Store) → Fall P ss → Fall P ts → Fall P (ss ++ ts)
fall_both P [] ts f g = g
fall_both P (s ∷ ss) ts f g = (f.0, fall_both P ss ts f.1 g)

pub fall_so : (P Q : ℕ → Type 0) → ((i : ℕ) → P i → Q i) → (ss : List Store) → Fall P ss → Fall Q ss
fall_so P Q so [] f = tt
fall_so P Q so (s ∷ ss) f = (so _ f.0, fall_so P Q so ss f.1)

-- none of the stores is to the word at index i
abbrev pub Off : ℕ → List Store → Type 0
Off i ss = Fall (λ w. i ≢ w) ss

pub off_both : (i : ℕ) (ss ts : List Store) → Off i ss → Off i ts → Off i (ss ++ ts)
off_both i ss ts f g = fall_both (λ w. i ≢ w) ss ts f g

pub off : (ss : List Store) (ws : List ℕ) (d j : ℕ) → Off (d / 4 + j) ss → word (written ws ss) d j ≡ word ws d j
off [] ws d j h = refl
off (s ∷ ss) ws d j h =
    off ss _ d j h.1 ∙ word_other ws s.chunk s.number s.value d j h.0

-- what store number i left, if it fell into the region and no later one is to its word:
-- `got 3 ss ws (omega arith) (omega arith)` for a list that is written out
abbrev pub Got : List ℕ → ℕ → ℕ → List Store → Type 0
Got fin n i [] = Unit {0}
Got fin n zero (s ∷ ss) =
    s.chunk / 4 + s.number < n → Off (s.chunk / 4 + s.number) ss
    → word fin s.chunk s.number ≡ s.value
Got fin n (suc i) (s ∷ ss) = Got fin n i ss

pub got : (i : ℕ) (ss : List Store) (ws : List ℕ) → Got (written ws ss) (length ws) i ss
got i [] ws = tt
got zero (s ∷ ss) ws =
    λ h o. off ss _ s.chunk s.number o ∙ word_same ws s.chunk s.number s.value h
got (suc i) (s ∷ ss) ws = subst (λ (n : ℕ). Got (written ws (s ∷ ss)) n i ss) (length_store ws s.chunk s.number s.value) (got i ss _)
