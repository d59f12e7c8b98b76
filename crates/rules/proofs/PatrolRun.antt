-- A run of the patrol, chunk by chunk (`run_ends`, `run_lost`, `run_on`; induction along it: `run_by`), and its plan, the same run on words
-- that it does not write. A run is its plan (`plan_is`): all that it decides, and every store, it finds on the words as they came; and
-- words above the end chunk's make no difference (`run_alike`). Assumes nothing.
use mathlib.Core.Path.{◌≡◌, refl, sym, ap, ap₂, ◌∙◌}
use mathlib.Core.Bool.{true, false}
use mathlib.Core.List.{List, [], ◌++◌}
use Rattle.std.specs.Prelude.{Option, Some, None}
use Rattle.std.proofs.lemmas.Option.{same_Some, none-some}
use Prim.Native.Nat.{ℕ, zero, suc, ◌+◌, ◌/◌, ◌%◌, ◌≤◌, ◌<◌}
use native.Mathlib.Decide.{ℕ_discrete}
use native.Mathlib.Omega.{arith}
use lib.Dec.{eqb}
use lib.ListN.{get_or}
use borrow.Author.Tests.{eq-eqb, ne_eqb}
use Rattle.region.specs.Words.{word, forward, backward}
use Rattle.rules.specs.Patrol.{next_of, mends, Patrolled, patrolled, goes_on, patrol_from}
use Rattle.rules.proofs.PatrolSeek.{NextPlace}
use Rattle.rules.proofs.PatrolNext.{next_place}
use Rattle.rules.proofs.PatrolMends.{handled}
use Rattle.rules.proofs.PatrolAgree.{AgreeFrom, agree_same, next_agrees, mends_agree, agree_on}

-- the run on the words as they came, with nothing written on the way
abbrev pub plan : ℕ → List ℕ → ℕ → ℕ → Option Patrolled
plan zero ws end c = Some (patrolled c false [])
plan (suc chunks) ws end c =
    elim (eqb c end) [
      | true ↦ Some (patrolled 0 true [])
      | false ↦ elim (next_of ws end c) [
        | None ↦ None
        | Some v ↦ goes_on (mends ws c v) (plan chunks ws end v)
      ]
    ]

-- the next chunk to be handled is the one at c
module _ (ws : List ℕ) (end c f : ℕ) where
  pub run_ends : c ≡ end → patrol_from (suc f) ws end c ≡ Some (patrolled 0 true [])
  run_ends q = rw (eq-eqb c end q, patrol_from)

  pub run_lost : (c ≡ end → ⊥) → next_of ws end c ≡ None → patrol_from (suc f) ws end c ≡ None
  run_lost n q = rw (ne_eqb c end n, q, patrol_from)

  pub run_on : (c ≡ end → ⊥) → (v : ℕ) → next_of ws end c ≡ Some v
      → patrol_from (suc f) ws end c ≡ goes_on (mends ws c v) (patrol_from f (handled ws c v) end v)
  run_on n v q = rw (ne_eqb c end n, q, patrol_from)

  pub plan_ends : c ≡ end → plan (suc f) ws end c ≡ Some (patrolled 0 true [])
  plan_ends q = rw (eq-eqb c end q, plan)

  pub plan_lost : (c ≡ end → ⊥) → next_of ws end c ≡ None → plan (suc f) ws end c ≡ None
  plan_lost n q = rw (ne_eqb c end n, q, plan)

  pub plan_on : (c ≡ end → ⊥) → (v : ℕ) → next_of ws end c ≡ Some v → plan (suc f) ws end c ≡ goes_on (mends ws c v) (plan f ws end v)
  plan_on n v q = rw (ne_eqb c end n, q, plan)

-- which of these it is
module _ (ws : List ℕ) (end c : ℕ) where
  pub data Handling : Type 0 where
    ends : c ≡ end → Handling
    lost : (c ≡ end → ⊥) → next_of ws end c ≡ None → Handling
    on : (c ≡ end → ⊥) → (v : ℕ) → next_of ws end c ≡ Some v → Handling

  pub handling : Handling
  handling = go (ℕ_discrete c end) (next_of ws end c) refl
    where
      go : Dec (c ≡ end) → (o : Option ℕ) → next_of ws end c ≡ o → Handling
      go (yes q) o e = ends q
      go (no n) None e = lost n e
      go (no n) (Some v) e = on n v e

-- induction along a run that comes to something: P holds of it, from the words ws and the chunk at c, if it holds of a run that has no
-- chunk left, of one at the end chunk, and passes from the rest of a run to the run with one more chunk before
module _ (end : ℕ) (last : end % 8 ≡ 0) (P : List ℕ → ℕ → Patrolled → Type 0)
    (spent : (ws : List ℕ) (c : ℕ) → P ws c (patrolled c false []))
    (over : (ws : List ℕ) → P ws end (patrolled 0 true []))
    (more : (ws : List ℕ) (c v : ℕ) (r : Patrolled) → NextPlace end c v → next_of ws end c ≡ Some v → P (handled ws c v) v r
    → P ws c (patrolled r.place r.ended (mends ws c v ++ r.stores))) where
  pub run_by : (f : ℕ) (ws : List ℕ) (c : ℕ) (r : Patrolled) → patrol_from f ws end c ≡ Some r → P ws c r
  run_by zero ws c r h = rw (← same_Some _ _ h) (spent ws c)
  run_by (suc f) ws c r h = go (handling ws end c) (λ v. run_by f (handled ws c v) v)
    where
      Rest : Type 0
      Rest = (v : ℕ) (t : Patrolled) → patrol_from f (handled ws c v) end v ≡ Some t → P (handled ws c v) v t

      rest : (v : ℕ) → next_of ws end c ≡ Some v → (o : Option Patrolled) → patrol_from f (handled ws c v) end v ≡ o
          → goes_on (mends ws c v) o ≡ Some r → Rest → P ws c r
      rest v n None e q g = absurd (none-some r q)
      rest v n (Some t) e q g = rw (← same_Some _ _ q) (more ws c v t (next_place ws end c last v n) n (g v t e))

      go : Handling ws end c → Rest → P ws c r
      go (ends q) g = rw (← same_Some _ _ (sym (run_ends ws end c f q) ∙ h), q) (over ws)
      go (lost n q) g = absurd (none-some r (sym (run_lost ws end c f n q) ∙ h))
      go (on n v q) g = rest v q (patrol_from f (handled ws c v) end v) refl (sym (run_on ws end c f n v q) ∙ h) g

module _ (end : ℕ) (last : end % 8 ≡ 0) where
  -- a run on words that agree with ws from c on
  pub plan_agrees : (f c : ℕ) (ws vs : List ℕ) → c % 8 ≡ 0 → c ≤ end → AgreeFrom end c ws vs → patrol_from f vs end c ≡ plan f ws end c
  plan_agrees zero c ws vs e l a = refl
  plan_agrees (suc f) c ws vs e l a =
      go (handling ws end c) (λ v n. plan_agrees f v ws (handled vs c v) n.eights n.inside (agree_on end c ws vs e last a v n))
    where
      go : Handling ws end c → ((v : ℕ) → NextPlace end c v → patrol_from f (handled vs c v) end v ≡ plan f ws end v)
          → patrol_from (suc f) vs end c ≡ plan (suc f) ws end c
      go (ends q) g = run_ends vs end c f q ∙ sym (plan_ends ws end c f q)
      go (lost n q) g = run_lost vs end c f n (next_agrees end c ws vs e last a (omega arith) ∙ q) ∙ sym (plan_lost ws end c f n q)
      go (on n v q) g =
          let place = next_place ws end c last v q in
          run_on vs end c f n v (next_agrees end c ws vs e last a (omega arith) ∙ q)
          ∙ ap₂ goes_on (mends_agree end c ws vs e last a v place) (g v place)
          ∙ sym (plan_on ws end c f n v q)

  pub plan_is : (f c : ℕ) (ws : List ℕ) → c % 8 ≡ 0 → c ≤ end → patrol_from f ws end c ≡ plan f ws end c
  plan_is f c ws e l = plan_agrees f c ws ws e l (agree_same end c ws)

-- words above the end chunk's make no difference
module _ (end : ℕ) (last : end % 8 ≡ 0) (us vs : List ℕ) (same : (i : ℕ) → i < end / 4 + 2 → get_or vs i 0 ≡ get_or us i 0) where
  alike : (c : ℕ) → c ≤ end → AgreeFrom end c us vs
  unfolding word
  alike c l =
      record {
        link = same (c / 4 + forward) (omega arith);
        flags = ap (λ (w : ℕ). w % 8) (same (c / 4 + backward) (omega arith));
        start = λ z. same (c / 4 + backward) (omega arith);
        upper = λ i lo hi. same i hi;
      }

  pub run_alike : (f c : ℕ) → c % 8 ≡ 0 → c ≤ end → patrol_from f vs end c ≡ patrol_from f us end c
  run_alike f c e l = plan_agrees end last f c us vs e l (alike c l) ∙ sym (plan_is end last f c us e l)
