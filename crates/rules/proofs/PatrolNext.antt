-- When the patrol believes a forward link (`believed`, `unbroken`), and which chunk it takes for the next one: `next_believed`,
-- `next_sought`; that one lies above c at a multiple of 8, up to the end chunk (`next_place`). Assumes nothing.
use mathlib.Core.Path.{◌≡◌, refl, sym, ◌∙◌}
use mathlib.Core.Bool.{Bool, true, false, not, ◌&&◌, ◌||◌, true≢false, false≢true}
use mathlib.Core.List.{List}
use Rattle.std.specs.Prelude.{Some}
use Rattle.std.proofs.lemmas.Option.{same_Some}
use Prim.Native.Nat.{ℕ, ◌+◌, ◌%◌, ◌≤◌, ◌<◌}
use native.Mathlib.Omega.{arith}
use lib.Dec.{eqb, ltb}
use borrow.Author.Tests.{eq-eqb, le-ltb, eqb-true, ltb-true, ltb-false}
use Rattle.region.specs.Words.{word, forward}
use Rattle.rules.specs.Patrol.{back_offset, least_size, skips, broken, seek_from, next_of}
use Rattle.rules.proofs.PatrolSeek.{NextPlace, seek_finds}

-- a link has the sign of a skipped chunk: the backward link at v leads between c and v, and from there forward to v
pub record Skips (ws : List ℕ) (c v : ℕ) : Type 0 where
  pub above : c < back_offset ws v
  pub below : back_offset ws v < v
  pub back : word ws (back_offset ws v) forward ≡ v

pub skips_is : (ws : List ℕ) (c v : ℕ) → skips ws c v ≡ true → Skips ws c v
unfolding skips
skips_is ws c v h =
    go (ltb c (back_offset ws v)) refl (ltb (back_offset ws v) v) refl (eqb (word ws (back_offset ws v) forward) v) refl h
  where
    go : (r : Bool) → ltb c (back_offset ws v) ≡ r → (s : Bool) → ltb (back_offset ws v) v ≡ s
        → (t : Bool) → eqb (word ws (back_offset ws v) forward) v ≡ t → (r && s && t) ≡ true → Skips ws c v
    go true a true b true d q = record { above = ltb-true _ _ a; below = ltb-true _ _ b; back = eqb-true _ _ d }
    go true a true b false d q = absurd (false≢true q)
    go true a false b t d q = absurd (false≢true q)
    go false a s b t d q = absurd (false≢true q)

-- where the backward link at v leads no higher than c there is no such sign
pub no_skip_lem : (ws : List ℕ) (c v : ℕ) → back_offset ws v ≤ c → skips ws c v ≡ false
unfolding skips
no_skip_lem ws c v l = rw (le-ltb c (back_offset ws v) l)

-- a link that is not broken
pub record Believed (ws : List ℕ) (end c v : ℕ) : Type 0 where
  pub place : NextPlace end c v
  pub no_skip : skips ws c v ≡ false

module _ (ws : List ℕ) (end c v : ℕ) where
  pub unbroken : broken ws end c v ≡ false → Believed ws end c v
  unfolding broken
  unbroken h = go (ltb end v) refl (eqb (v % 8) 0) refl (ltb v (c + least_size c)) refl (skips ws c v) refl h
    where
      go : (r : Bool) → ltb end v ≡ r → (s : Bool) → eqb (v % 8) 0 ≡ s → (t : Bool) → ltb v (c + least_size c) ≡ t
          → (u : Bool) → skips ws c v ≡ u → (r || not s || t || u) ≡ false → Believed ws end c v
      go true a s b t d u f q = absurd (true≢false q)
      go false a false b t d u f q = absurd (true≢false q)
      go false a true b true d u f q = absurd (true≢false q)
      go false a true b false d true f q = absurd (true≢false q)
      go false a true b false d false f q =
          record {
            place = record { eights = eqb-true _ _ b; room = ltb-false _ _ d; inside = ltb-false _ _ a };
            no_skip = f;
          }

  pub believed : Believed ws end c v → broken ws end c v ≡ false
  unfolding broken
  believed b =
      let n = b.place in
      rw (le-ltb end v n.inside, eq-eqb (v % 8) 0 n.eights, le-ltb v (c + least_size c) n.room, b.no_skip)

module _ (ws : List ℕ) (end c : ℕ) where
  pub next_believed : broken ws end c (word ws c forward) ≡ false → next_of ws end c ≡ Some (word ws c forward)
  unfolding next_of
  next_believed h = rw (h, next_of)

  pub next_sought : broken ws end c (word ws c forward) ≡ true → next_of ws end c ≡ seek_from end ws c end
  unfolding next_of
  next_sought h = rw (h, next_of)

  -- either the link is believed, and names v; or it is broken, and v's backward link names c
  pub data NextBy (v : ℕ) : Type 0 where
    by_link : word ws c forward ≡ v → skips ws c v ≡ false → NextBy v
    by_walk : broken ws end c (word ws c forward) ≡ true → back_offset ws v ≡ c → NextBy v

  pub next_by : end % 8 ≡ 0 → (v : ℕ) → next_of ws end c ≡ Some v → NextPlace end c v × NextBy v
  next_by e v h = go (broken ws end c (word ws c forward)) refl
    where
      go : (t : Bool) → broken ws end c (word ws c forward) ≡ t → NextPlace end c v × NextBy v
      go true b =
          let (place, back) = seek_finds ws end c end end (omega arith) e v (sym (next_sought b) ∙ h) in
          (place, by_walk b back)
      go false b =
          let same = same_Some (word ws c forward) v (sym (next_believed b) ∙ h) in
          let u : Believed ws end c v = rw same at (unbroken ws end c (word ws c forward) b) in
          (u.place, by_link same u.no_skip)

  pub next_place : end % 8 ≡ 0 → (v : ℕ) → next_of ws end c ≡ Some v → NextPlace end c v
  next_place e v h = (next_by e v h).0
