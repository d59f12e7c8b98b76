-- Passing chunks at which there is nothing to mend, step by step (`Skimming`), and that a run loses nothing by it (`skim_keeps`).
-- Assumes nothing.
use mathlib.Core.Path.{◌≡◌, refl, sym, ap, subst, ◌∙◌}
use mathlib.Core.Bool.{Bool, true, false, cond, ◌||◌, false≢true}
use mathlib.Core.List.{List}
use Prim.Native.Nat.{ℕ, zero, suc, ◌+◌, ◌-◌, ◌%◌, ◌≤◌, ◌<◌}
use native.Mathlib.Omega.{arith}
use lib.Dec.{eqb}
use borrow.Author.Tests.{eq-eqb, ne_eqb, eqb-true, eqb-false}
use Rattle.lists.proofs.ListsLaws.{number_is, less, itself, both}
use Rattle.region.specs.declared.Links.{Links}
use Rattle.region.specs.Words.{word, forward, backward, size}
use Rattle.rules.specs.Kinds.{in_use}
use Rattle.rules.specs.Patrol.{patrol_from}
use Rattle.rules.specs.Shape.{flags_at}
use Rattle.rules.proofs.PatrolSeek.{NextPlace, next_above, least_above}
use Rattle.rules.proofs.PatrolMends.{Right}
use Rattle.rules.proofs.PatrolParts.{run_right}
use Rattle.patrol.specs.declared.skim.Rest.{Rest}
use Rattle.patrol.specs.Links.{can_follow_m}
use Rattle.patrol.specs.Skim.{links_at, is_right_m, is_whole_m, is_start_whole_m, whole_at, start_whole, rest, skim_above_m, skim_m}
use Rattle.patrol.proofs.LinksLaws.{follow_place}

-- the two links that the code read
pub links_are : (ws : List ℕ) (c : ℕ) {l : Links} → (l.forward ≡ word ws c forward) × (l.backward ≡ word ws c backward) → l ≡ links_at ws c
links_are ws c (f, b) = λ i. record { forward = f i; backward = b i }

skim_on : (ws : List ℕ) (end c k : ℕ) → whole_at ws end c ≡ true → skim_above_m (suc k) ws end c ≡ skim_above_m k ws end (word ws c forward)
unfolding skim_above_m
skim_on ws end c k h = rw h

-- where the loop stands: from here it does what it does from the first chunk
pub record Skimming (ws : List ℕ) (end from count c passed : ℕ) (l : Links) : Type 0 where
  pub links : l ≡ links_at ws c
  pub same : skim_above_m (count - passed) ws end c ≡ skim_above_m count ws end from

-- the chunk at c, whose links are l, and whose next one has the links a; t is the code's test of it
module _ {ws : List ℕ} {end from count c passed : ℕ} {l : Links} (o : Skimming ws end from count c passed l) where
  pub skim_spent : count ≤ passed → rest c 0 ≡ skim_above_m count ws end from
  unfolding skim_above_m
  skim_spent h =
      let none : count - passed ≡ 0 = omega arith in
      rw (← o.same, none)

  module _ (some : passed < count) {a : Links} (above : (a.forward ≡ word ws l.forward forward) × (a.backward ≡ word ws l.forward backward))
      {t : Bool} (et : t ≡ is_whole_m ws end c l a) where
    more : count - passed ≡ suc (count - (passed + 1))
    more = omega arith

    above_are : a ≡ links_at ws (word ws c forward)
    above_are = links_are ws l.forward above ∙ ap (λ (k : Links). links_at ws k.forward) o.links

    tested : t ≡ whole_at ws end c
    unfolding whole_at
    tested = rw (← above_are, ← o.links) et

    pub skim_stops : t ≡ false → rest c (count - passed) ≡ skim_above_m count ws end from
    unfolding skim_above_m
    skim_stops h = rw (← o.same, more, sym tested ∙ h)

    pub skim_goes : t ≡ true → Skimming ws end from count l.forward (passed + 1) a
    skim_goes h =
        let link = ap (λ (k : Links). k.forward) o.links in
        let on =
        ap (λ (k : ℕ). skim_above_m k ws end c) more ∙ skim_on ws end c (count - (passed + 1)) (sym tested ∙ h) in
        record {
          links = links_are ws l.forward above;
          same = rw link (sym on) ∙ o.same;
        }

-- the code of `skim`
module _ (ws : List ℕ) (end c k : ℕ) where
  pub above_start_lem : (c ≡ 0 → ⊥) → {s : Rest} → s ≡ skim_above_m k ws end c → s ≡ skim_m k ws end c
  unfolding skim_m
  above_start_lem n e = rw (ne_eqb c 0 n) e

  module _ (z : c ≡ 0) where
    pub none_asked : k ≡ 0 → rest c k ≡ skim_m k ws end c
    unfolding skim_m
    none_asked e = rw (eq-eqb c 0 z, eq-eqb k 0 e)

    -- the links of the start and of the chunk above it, and the code's test of them
    module _ (some : k ≡ 0 → ⊥) {l a : Links} (links : (l.forward ≡ word ws c forward) × (l.backward ≡ word ws c backward))
        (above : (a.forward ≡ word ws l.forward forward) × (a.backward ≡ word ws l.forward backward))
        {t : Bool} (et : t ≡ is_start_whole_m end l a) where
      start_links : l ≡ links_at ws 0
      start_links = rw z at (links_are ws c links)

      start_tested : t ≡ start_whole ws end
      unfolding start_whole
      start_tested =
          let upper = links_are ws l.forward above ∙ ap (λ (x : Links). links_at ws x.forward) start_links in
          rw (← upper, ← start_links) et

      pub start_stops : t ≡ false → rest c k ≡ skim_m k ws end c
      unfolding skim_m
      start_stops h = rw (eq-eqb c 0 z, ne_eqb k 0 some, sym start_tested ∙ h)

      pub start_goes : t ≡ true → {s : Rest} → s ≡ skim_above_m (k - 1) ws end l.forward → s ≡ skim_m k ws end c
      unfolding skim_m
      start_goes h e =
          let link = ap (λ (x : Links). x.forward) start_links in
          rw (eq-eqb c 0 z, ne_eqb k 0 some, sym start_tested ∙ h) (rw link at e)

-- a chunk above the start that passes the test has nothing to mend
module _ (ws : List ℕ) (end c : ℕ) (above : 0 < c) (h : whole_at ws end c ≡ true) where
  abbrev next : ℕ
  next = word ws c forward

  abbrev back : ℕ
  back = word ws next backward

  parts : ((can_follow_m end c 24 next ≡ true) × (back - back % 8 ≡ c)) × (is_right_m ws c (word ws c backward) (next - c) ≡ true)
  unfolding whole_at is_whole_m
  parts = (both (both (itself (can_follow_m end c 24 next)) (number_is (back - back % 8) c)) (itself (is_right_m ws c (word ws c backward) (next - c)))).0 h

  pub whole_place : NextPlace end c next
  whole_place =
      let ((follows, named), right) = parts in
      let l = least_above c above in
      follow_place end c 24 next follows (omega arith)

  pub whole_right : Right ws c next
  unfolding is_right_m in_use
  whole_right =
      let ((follows, named), right) = parts in
      record {
        link = refl;
        back = omega arith;
        start = λ z. absurd (omega arith);
        sized = λ (some, free). sized (eqb (flags_at ws c % 2) 1) free right;
      }
    where
      sized : (t : Bool) → t ≡ false → (t || eqb (word ws c size) (next - c)) ≡ true → word ws c size ≡ next - c
      sized false f q = eqb-true (word ws c size) (next - c) q
      sized true f q = absurd (false≢true (sym f))

-- nor has the start
module _ (ws : List ℕ) (end : ℕ) (h : start_whole ws end ≡ true) where
  abbrev first : ℕ
  first = word ws 0 forward

  start_parts : ((can_follow_m end 0 8 first ≡ true) × (word ws first backward < 8)) × (word ws 0 backward < 8)
  unfolding start_whole is_start_whole_m
  start_parts = (both (both (itself (can_follow_m end 0 8 first)) (less (word ws first backward) 8)) (less (word ws 0 backward) 8)).0 h

  pub start_place_lem : NextPlace end 0 first
  start_place_lem = let ((follows, low), own) = start_parts in follow_place end 0 8 first follows (omega arith)

  pub start_right : Right ws 0 first
  start_right =
      let ((follows, low), own) = start_parts in
      record { link = refl; back = omega arith; start = λ z. omega arith; sized = λ (some, free). absurd (omega arith) }

-- so the run from where it stops is the run
pub record Kept (ws : List ℕ) (end chunks c : ℕ) (s : Rest) : Type 0 where
  pub eights : s.chunk.0 % 8 ≡ 0
  pub inside : s.chunk.0 ≤ end
  pub run : patrol_from s.left ws end s.chunk.0 ≡ patrol_from chunks ws end c

-- one chunk was passed
passed : (ws : List ℕ) (end c k : ℕ) {s : Rest} (v : ℕ) → NextPlace end c v → Right ws c v → Kept ws end k v s → Kept ws end (suc k) c s
passed ws end c k v n r kept =
    record { eights = kept.eights; inside = kept.inside; run = kept.run ∙ sym (run_right ws end c v n r k) }

above_keeps : (k : ℕ) (ws : List ℕ) (end c : ℕ) → 0 < c → c % 8 ≡ 0 → c ≤ end → Kept ws end k c (skim_above_m k ws end c)
unfolding skim_above_m
above_keeps zero ws end c above e l = record { eights = e; inside = l; run = refl }
above_keeps (suc k) ws end c above e l = go (whole_at ws end c) refl (above_keeps k ws end (word ws c forward))
  where
    go : (t : Bool) → whole_at ws end c ≡ t
        → (0 < word ws c forward → word ws c forward % 8 ≡ 0 → word ws c forward ≤ end
        → Kept ws end k (word ws c forward) (skim_above_m k ws end (word ws c forward)))
        → Kept ws end (suc k) c (cond t (skim_above_m k ws end (word ws c forward)) (rest c (suc k)))
    go false h f = record { eights = e; inside = l; run = refl }
    go true h f =
        let n = whole_place ws end c above h in
        let up = next_above n in
        passed ws end c k (word ws c forward) n (whole_right ws end c above h) (f (omega arith) n.eights n.inside)

pub skim_keeps : (k : ℕ) (ws : List ℕ) (end c : ℕ) → c % 8 ≡ 0 → c ≤ end → Kept ws end k c (skim_m k ws end c)
unfolding skim_m
skim_keeps k ws end c e l = go (eqb c 0) refl (eqb k 0) refl (start_whole ws end) refl
  where
    stays : Kept ws end k c (rest c k)
    stays = record { eights = e; inside = l; run = refl }

    go : (r : Bool) → eqb c 0 ≡ r → (s : Bool) → eqb k 0 ≡ s → (t : Bool) → start_whole ws end ≡ t
        → Kept ws end k c
        (cond r (cond s (rest c k) (cond t (skim_above_m (k - 1) ws end (word ws 0 forward)) (rest c k))) (skim_above_m k ws end c))
    go false q s u t h = let n = eqb-false c 0 q in above_keeps k ws end c (omega arith) e l
    go true q true u t h = stays
    go true q false u false h = stays
    go true q false u true h =
        let z = eqb-true c 0 q in
        let m = eqb-false k 0 u in
        let n = start_place_lem ws end h in
        let up = next_above n in
        let more : suc (k - 1) ≡ k = omega arith in
        subst (λ (d : ℕ). Kept ws end k d (skim_above_m (k - 1) ws end (word ws 0 forward))) (sym z)
        (subst (λ (j : ℕ). Kept ws end j 0 (skim_above_m (k - 1) ws end (word ws 0 forward))) more
        (passed ws end 0 (k - 1) (word ws 0 forward) n (start_right ws end h)
        (above_keeps (k - 1) ws end (word ws 0 forward) (omega arith) n.eights n.inside)))
