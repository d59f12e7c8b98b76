-- A run of the code is the rule's run (`run_is`): what is whole is passed, the walk that only reads decides on the words as they came, and
-- the walk that writes does what the rule does chunk by chunk. Assumes nothing.
use mathlib.Core.Path.{◌≡◌, refl, sym, ap, ◌∙◌}
use mathlib.Core.Bool.{Bool, true, false, false≢true}
use mathlib.Core.List.{List}
use Rattle.std.specs.Prelude.{Option, Some, None, Result, Ok, Err}
use Rattle.std.proofs.lemmas.Option.{same_Some, none-some}
use Prim.Native.Nat.{ℕ, zero, suc, ◌-◌, ◌%◌, ◌≤◌}
use native.Mathlib.Omega.{arith}
use Rattle.record.specs.declared.answers.Refusal.{Refusal}
use Rattle.record.specs.declared.answers.Refusal.TheVariants.{BeyondMending}
use Rattle.record.specs.Heap.{at}
use Rattle.region.specs.Words.{written}
use Rattle.region.proofs.WordsLaws.{written_append}
use Rattle.rules.specs.Patrol.{mends, Patrolled, goes_on, patrol_from}
use Rattle.rules.proofs.PatrolSeek.{NextPlace}
use Rattle.rules.proofs.PatrolNext.{next_place}
use Rattle.rules.proofs.PatrolMends.{handled}
use Rattle.rules.proofs.PatrolRun.{plan, run_ends, run_lost, run_on, plan_ends, plan_lost, plan_on, Handling, ends, lost, on, handling, plan_is}
use Rattle.patrol.specs.declared.skim.Rest.{Rest}
use Rattle.patrol.specs.declared.walks.Stop.{Stop}
use Rattle.patrol.specs.declared.walks.Stop.TheVariants.{Paused, Ended}
use Rattle.patrol.specs.Mends.{handle_m}
use Rattle.patrol.specs.Skim.{skim_m}
use Rattle.patrol.specs.Walks.{Walked, walked, beyond, walk_m, onward_m, decided, run_m}
use Rattle.patrol.proofs.MendsLaws.{handle_is}
use Rattle.patrol.proofs.SkimLaws.{skim_keeps}
use Rattle.patrol.proofs.WalksLaws.{walk_on, walk_ends}

-- where a run stops, or its error, by what it comes to; and the words that it leaves
abbrev pub ends_in : Bool → ℕ → Stop
ends_in true c = Ended
ends_in false c = Paused (at c)

abbrev pub stop_of : Option Patrolled → Result Stop Refusal
stop_of None = Err BeyondMending
stop_of (Some r) = Ok (ends_in r.ended r.place)

abbrev pub walked_by : List ℕ → Option Patrolled → Walked
walked_by ws None = beyond ws
walked_by ws (Some r) = walked (Ok (ends_in r.ended r.place)) (written ws r.stores)

-- stores that come first do not change where it stops
after_stop : (ws : List ℕ) (c v : ℕ) (o : Option Patrolled) → stop_of (goes_on (mends ws c v) o) ≡ stop_of o
after_stop ws c v None = refl
after_stop ws c v (Some r) = refl

-- a run that handled the end chunk goes on at the start
pub ended_start : (k : ℕ) (ws : List ℕ) (end c : ℕ) (r : Patrolled) → patrol_from k ws end c ≡ Some r → r.ended ≡ true → r.place ≡ 0
ended_start zero ws end c r h e = absurd (false≢true (ap (λ (x : Patrolled). x.ended) (same_Some _ _ h) ∙ e))
ended_start (suc k) ws end c r h e = go (handling ws end c) (λ v. ended_start k (handled ws c v) end v)
  where
    go : Handling ws end c
        → ((v : ℕ) (t : Patrolled) → patrol_from k (handled ws c v) end v ≡ Some t → t.ended ≡ true → t.place ≡ 0) → r.place ≡ 0
    go (ends q) f = ap (λ (x : Patrolled). x.place) (sym (same_Some _ _ (sym (run_ends ws end c k q) ∙ h)))
    go (lost n q) f = absurd (none-some r (sym (run_lost ws end c k n q) ∙ h))
    go (on n v q) f = rest (patrol_from k (handled ws c v) end v) refl (sym (run_on ws end c k n v q) ∙ h)
      where
        rest : (o : Option Patrolled) → patrol_from k (handled ws c v) end v ≡ o → goes_on (mends ws c v) o ≡ Some r → r.place ≡ 0
        rest None p z = absurd (none-some r z)
        rest (Some t) p z =
            let same = same_Some _ _ z in
            sym (ap (λ (x : Patrolled). x.place) same) ∙ f v t p (ap (λ (x : Patrolled). x.ended) same ∙ e)

-- the walk that only reads leaves the words, and decides by the plan
pub walk_decides : (k : ℕ) (ws : List ℕ) (end c : ℕ) → walk_m false k ws end c ≡ walked (stop_of (plan k ws end c)) ws
unfolding walk_m onward_m handle_m
walk_decides zero ws end c = refl
walk_decides (suc k) ws end c = go (handling ws end c) (λ v. walk_decides k ws end v)
  where
    go : Handling ws end c → ((v : ℕ) → walk_m false k ws end v ≡ walked (stop_of (plan k ws end v)) ws)
        → walk_m false (suc k) ws end c ≡ walked (stop_of (plan (suc k) ws end c)) ws
    go (ends q) f = walk_ends false ws end c k q ∙ rw (plan_ends ws end c k q)
    go (lost n q) f = walk_on false ws end c k n ∙ rw (q, plan_lost ws end c k n q)
    go (on n v q) f =
        walk_on false ws end c k n
        ∙ ap (onward_m false k ws end c) q ∙ f v
        ∙ ap (λ (x : Result Stop Refusal). walked x ws) (sym (ap stop_of (plan_on ws end c k n v q) ∙ after_stop ws c v (plan k ws end v)))

-- the walk that writes does what the rule does, where nothing is beyond mending
pub walk_writes : (k : ℕ) (ws : List ℕ) (end c : ℕ) → end % 8 ≡ 0 → c % 8 ≡ 0 → c ≤ end → (r : Patrolled) → patrol_from k ws end c ≡ Some r
    → walk_m true k ws end c ≡ walked_by ws (Some r)
unfolding walk_m onward_m
walk_writes zero ws end c last e l r h = ap (walked_by ws) h
walk_writes (suc k) ws end c last e l r h =
    go (handling ws end c) (λ v n. walk_writes k (handled ws c v) end v last n.eights n.inside)
  where
    go : Handling ws end c
        → ((v : ℕ) → NextPlace end c v → (t : Patrolled) → patrol_from k (handled ws c v) end v ≡ Some t
        → walk_m true k (handled ws c v) end v ≡ walked_by (handled ws c v) (Some t))
        → walk_m true (suc k) ws end c ≡ walked_by ws (Some r)
    go (ends q) f = walk_ends true ws end c k q ∙ ap (walked_by ws) (sym (run_ends ws end c k q) ∙ h)
    go (lost n q) f = absurd (none-some r (sym (run_lost ws end c k n q) ∙ h))
    go (on n v q) f =
        walk_on true ws end c k n
        ∙ ap (onward_m true k ws end c) q
        ∙ ap (λ (us : List ℕ). walk_m true k us end v) (handle_is ws e place)
        ∙ rest (patrol_from k (handled ws c v) end v) refl (sym (run_on ws end c k n v q) ∙ h)
      where
        place : NextPlace end c v
        place = next_place ws end c last v q

        rest : (o : Option Patrolled) → patrol_from k (handled ws c v) end v ≡ o → goes_on (mends ws c v) o ≡ Some r
            → walk_m true k (handled ws c v) end v ≡ walked_by ws (Some r)
        rest None p z = absurd (none-some r z)
        rest (Some t) p z =
            f v place t p
            ∙ ap (walked (Ok (ends_in t.ended t.place))) (sym (written_append (mends ws c v) t.stores ws))
            ∙ ap (walked_by ws) z

-- the code of `run`: s is what is left after the whole chunks; where nothing is left to mend, that is the run
module _ (ws : List ℕ) (end c chunks : ℕ) {s : Rest} (es : s ≡ skim_m chunks ws end c) where
  pub run_spent : s.left ≡ 0 → walked (Ok (Paused s.chunk)) ws ≡ run_m chunks ws end c
  unfolding run_m walk_m
  run_spent z = rw (← es, z)

  pub run_ended : (s.left ≡ 0 → ⊥) → s.chunk.0 ≡ end → walked (Ok Ended) ws ≡ run_m chunks ws end c
  unfolding run_m
  run_ended left_over e =
      let more : s.left ≡ suc (s.left - 1) = omega arith in
      rw (← es, more, walk_ends false ws end s.chunk.0 (s.left - 1) e, walk_ends true ws end s.chunk.0 (s.left - 1) e)

-- r and vs are what the walk that decides came to
module _ (ws : List ℕ) (end c chunks : ℕ) {s : Rest} (es : s ≡ skim_m chunks ws end c) {r : Result Stop Refusal} {vs : List ℕ}
    (er : walked r vs ≡ walk_m false s.left ws end s.chunk.0) where
  words_stay : vs ≡ ws
  words_stay = ap (λ (x : Walked). x.words) (er ∙ walk_decides s.left ws end s.chunk.0)

  stop_is : (walk_m false s.left ws end s.chunk.0).stop ≡ r
  stop_is = ap (λ (x : Walked). x.stop) (sym er)

  pub run_stops : {e : Refusal} → r ≡ Err e → walked (Err e) vs ≡ run_m chunks ws end c
  unfolding run_m
  run_stops h = rw (words_stay, ← es, stop_is, h)

  pub run_goes : {u : Stop} → r ≡ Ok u → {x : Walked} → x ≡ walk_m true s.left vs end s.chunk.0 → x ≡ run_m chunks ws end c
  unfolding run_m
  run_goes h {x} ex = rw (← es, stop_is, h) (rw words_stay at ex)

-- the run, from a place where a chunk can be
module _ (chunks : ℕ) (ws : List ℕ) (end c : ℕ) (last : end % 8 ≡ 0) (eights : c % 8 ≡ 0) (inside : c ≤ end) where
  pub run_is : run_m chunks ws end c ≡ walked_by ws (patrol_from chunks ws end c)
  unfolding run_m
  run_is =
      let k = skim_keeps chunks ws end c eights inside in
      let s : Rest = skim_m chunks ws end c in
      go s k.eights k.inside (patrol_from s.left ws end s.chunk.0) refl ∙ ap (walked_by ws) k.run
    where
      comes_to : (s : Rest) → s.chunk.0 % 8 ≡ 0 → s.chunk.0 ≤ end → (o : Option Patrolled) → patrol_from s.left ws end s.chunk.0 ≡ o
          → (walk_m false s.left ws end s.chunk.0).stop ≡ stop_of o
      comes_to s e l o h =
          ap (λ (x : Walked). x.stop) (walk_decides s.left ws end s.chunk.0)
          ∙ ap stop_of (sym (plan_is end last s.left s.chunk.0 ws e l) ∙ h)

      go : (s : Rest) → s.chunk.0 % 8 ≡ 0 → s.chunk.0 ≤ end → (o : Option Patrolled) → patrol_from s.left ws end s.chunk.0 ≡ o
          → decided (walk_m false s.left ws end s.chunk.0).stop ws (walk_m true s.left ws end s.chunk.0)
          ≡ walked_by ws (patrol_from s.left ws end s.chunk.0)
      go s e l None h = rw (comes_to s e l None h, h)
      go s e l (Some r) h =
          rw (comes_to s e l (Some r) h) (walk_writes s.left ws end s.chunk.0 last e l r h ∙ ap (walked_by ws) (sym h))
