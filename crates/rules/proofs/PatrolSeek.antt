-- The backward walk of the patrol, step by step (`seek_near`, `seek_low`, `seek_here`, `seek_down`); that its fuel always suffices
-- (`seek_steps`); and what it finds: a multiple of 8 above c, at least the least distance away, whose backward link names c (`seek_finds`).
-- Assumes nothing.
use mathlib.Core.Path.{◌≡◌, refl, sym, ◌∙◌}
use mathlib.Core.Bool.{Bool, true, false, ◌||◌}
use mathlib.Core.List.{List}
use Rattle.std.specs.Prelude.{Some, None}
use Rattle.std.proofs.lemmas.Option.{same_Some, none-some}
use Prim.Native.Nat.{ℕ, zero, suc, ◌+◌, ◌-◌, ◌/◌, ◌%◌, ◌≤◌, ◌<◌}
use native.Mathlib.Decide.{ℕ_discrete, dec_lt}
use native.Mathlib.Omega.{arith}
use lib.Dec.{ltb}
use borrow.Author.Tests.{eq-eqb, ne_eqb, lt-ltb, le-ltb}
use Rattle.region.specs.Words.{word, backward}
use Rattle.rules.specs.Patrol.{back_offset, least_size, seek_from}

-- the least distance: 8 at the start, 24 above it
pub least_above : (c : ℕ) → 0 < c → least_size c ≡ 24
least_above c l = rw (ne_eqb c 0 (λ q. omega arith))

pub least_some : (c : ℕ) → 8 ≤ least_size c
least_some zero = omega arith
least_some (suc c) = let f = least_above (suc c) (omega arith) in omega arith

-- a backward link leads to a multiple of 8
pub back_eights : (ws : List ℕ) (x : ℕ) → back_offset ws x % 8 ≡ 0
back_eights ws x = let e : (word ws x backward - word ws x backward % 8) % 8 ≡ 0 = omega arith in e

either_true : (a : Bool) → (a || true) ≡ true
either_true true = refl
either_true false = refl

-- the walk stands at x
module _ (ws : List ℕ) (c x : ℕ) where
  abbrev below : ℕ
  below = back_offset ws x

  pub seek_near : x < below + least_size below → (k : ℕ) → seek_from k ws c x ≡ None
  seek_near l zero = refl
  seek_near l (suc k) = rw (seek_from, lt-ltb x (below + least_size below) l)

  pub seek_low : below < c → (k : ℕ) → seek_from k ws c x ≡ None
  seek_low l zero = refl
  seek_low l (suc k) = rw (seek_from, lt-ltb below c l, either_true (ltb x (below + least_size below)))

  module _ (far : below + least_size below ≤ x) where
    pub seek_here : below ≡ c → (k : ℕ) → seek_from (suc k) ws c x ≡ Some x
    seek_here q k = rw (seek_from, le-ltb x (below + least_size below) far, le-ltb below c (omega arith), eq-eqb below c q)

    pub seek_down : c < below → (k : ℕ) → seek_from (suc k) ws c x ≡ seek_from k ws c below
    seek_down l k =
        rw (seek_from, le-ltb x (below + least_size below) far, le-ltb below c (omega arith), ne_eqb below c (λ q. omega arith))

  -- which of these it is
  pub data Step : Type 0 where
    near : x < below + least_size below → Step
    low : below < c → Step
    here : below + least_size below ≤ x → below ≡ c → Step
    down : below + least_size below ≤ x → c < below → Step

  pub step : Step
  step = go (dec_lt x (below + least_size below)) (dec_lt below c) (ℕ_discrete below c)
    where
      go : Dec (x < below + least_size below) → Dec (below < c) → Dec (below ≡ c) → Step
      go (yes l) b d = near l
      go (no n) (yes l) d = low l
      go (no n) (no m) (yes q) = here (omega arith) q
      go (no n) (no m) (no d) = down (omega arith) (omega arith)

-- any two amounts of fuel that suffice find the same
pub seek_steps : (ws : List ℕ) (c j k x : ℕ) → x / 8 ≤ j → x / 8 ≤ k → seek_from j ws c x ≡ seek_from k ws c x
seek_steps ws c zero k x hj hk = sym (seek_near ws c x (let s = least_some (back_offset ws x) in omega arith) k)
seek_steps ws c (suc j) zero x hj hk = seek_near ws c x (let s = least_some (back_offset ws x) in omega arith) (suc j)
seek_steps ws c (suc j) (suc k) x hj hk = go (step ws c x) (λ a b. seek_steps ws c j k (back_offset ws x) a b)
  where
    go : Step ws c x
        → (back_offset ws x / 8 ≤ j → back_offset ws x / 8 ≤ k → seek_from j ws c (back_offset ws x) ≡ seek_from k ws c (back_offset ws x))
        → seek_from (suc j) ws c x ≡ seek_from (suc k) ws c x
    go (near l) f = seek_near ws c x l (suc j) ∙ sym (seek_near ws c x l (suc k))
    go (low l) f = seek_low ws c x l (suc j) ∙ sym (seek_low ws c x l (suc k))
    go (here a q) f = seek_here ws c x a q j ∙ sym (seek_here ws c x a q k)
    go (down a l) f =
        let s = least_some (back_offset ws x) in
        seek_down ws c x a l j ∙ f (omega arith) (omega arith) ∙ sym (seek_down ws c x a l k)

-- v can be the place of the chunk above c, where the end chunk is at `end`
pub record NextPlace (end c v : ℕ) : Type 0 where
  pub eights : v % 8 ≡ 0
  pub room : c + least_size c ≤ v
  pub inside : v ≤ end

module _ {end c v : ℕ} (n : NextPlace end c v) where
  pub next_above : c + 8 ≤ v
  next_above = let s = least_some c in let r = n.room in omega arith

  pub next_far : 0 < c → c + 24 ≤ v
  next_far l = let s = least_above c l in let r = n.room in omega arith

-- what the walk finds is such a place, and its backward link names c
pub seek_finds : (ws : List ℕ) (end c k x : ℕ) → x ≤ end → x % 8 ≡ 0 → (v : ℕ) → seek_from k ws c x ≡ Some v
    → NextPlace end c v × (back_offset ws v ≡ c)
seek_finds ws end c zero x l e v f = absurd (none-some v f)
seek_finds ws end c (suc k) x l e v f =
    go (step ws c x) (λ a. seek_finds ws end c k (back_offset ws x) a (back_eights ws x) v)
  where
    go : Step ws c x
        → (back_offset ws x ≤ end → seek_from k ws c (back_offset ws x) ≡ Some v → NextPlace end c v × (back_offset ws v ≡ c))
        → NextPlace end c v × (back_offset ws v ≡ c)
    go (near m) g = absurd (none-some v (sym (seek_near ws c x m (suc k)) ∙ f))
    go (low m) g = absurd (none-some v (sym (seek_low ws c x m (suc k)) ∙ f))
    go (here a q) g =
        let same = same_Some x v (sym (seek_here ws c x a q k) ∙ f) in
        rw (← same) (record { eights = e; room = rw q at a; inside = l }, q)
    go (down a m) g = g (omega arith) (sym (seek_down ws c x a m k) ∙ f)
