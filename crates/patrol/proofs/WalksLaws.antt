-- The two walks, step by step, as the code takes them, and where their loops stand (`Walking`, `Seeking`). Assumes nothing.
use mathlib.Core.Path.{◌≡◌, refl, sym, ◌∙◌, ap}
use mathlib.Core.Bool.{Bool, true, false, cond}
use mathlib.Core.List.{List}
use Rattle.std.specs.Prelude.{Option, Some, None, Ok}
use Prim.Native.Nat.{ℕ, suc, ◌+◌, ◌-◌, ◌<◌, ◌≤◌}
use native.Mathlib.Omega.{arith}
use lib.Dec.{eqb}
use lib.ListN.{length}
use borrow.Author.Tests.{eq-eqb, ne_eqb}
use Rattle.region.specs.declared.Chunk.{Chunk}
use Rattle.record.specs.Heap.{at}
use Rattle.region.specs.Words.{word, forward}
use Rattle.rules.specs.Patrol.{broken, seek_from, next_of}
use Rattle.rules.proofs.PatrolNext.{next_believed, next_sought}
use Rattle.patrol.specs.declared.walks.Stop.TheVariants.{Paused, Ended}
use Rattle.patrol.specs.Mends.{handle_m}
use Rattle.patrol.specs.Walks.{Walked, walked, beyond, found, walk_m, onward_m}

-- the walk forward, with so many of the `count` chunks handled: from here it does what it does from the first chunk
pub record Walking (w : Bool) (ws₀ : List ℕ) (end from count : ℕ) (ws : List ℕ) (c done : ℕ) : Type 0 where
  pub long : length ws ≡ length ws₀
  pub same : walk_m w (count - done) ws end c ≡ walk_m w count ws₀ end from

-- the walk down from the end: from here it finds what it finds from there
pub record Seeking (ws : List ℕ) (end c x : ℕ) : Type 0 where
  pub fuel : ℕ
  pub enough : x ≤ fuel
  pub same : seek_from fuel ws c x ≡ seek_from end ws c end

-- one step of the definition
walk_step : (w : Bool) (ws : List ℕ) (end c k : ℕ)
    → walk_m w (suc k) ws end c ≡ cond (eqb c end) (walked (Ok Ended) ws) (onward_m w k ws end c (next_of ws end c))
unfolding walk_m onward_m
walk_step w ws end c k = ap (cond (eqb c end) (walked (Ok Ended) ws)) (go (next_of ws end c))
  where
    go : (o : Option ℕ) → elim o [ None ↦ beyond ws | Some v ↦ walk_m w k (handle_m w ws c v) end v ] ≡ onward_m w k ws end c o
    go None = refl
    go (Some v) = refl

pub walk_on : (w : Bool) (ws : List ℕ) (end c k : ℕ) → (c ≡ end → ⊥) → walk_m w (suc k) ws end c ≡ onward_m w k ws end c (next_of ws end c)
walk_on w ws end c k on = walk_step w ws end c k ∙ rw (ne_eqb c end on)

pub walk_ends : (w : Bool) (ws : List ℕ) (end c k : ℕ) → c ≡ end → walk_m w (suc k) ws end c ≡ walked (Ok Ended) ws
walk_ends w ws end c k e = walk_step w ws end c k ∙ rw (eq-eqb c end e)

-- the code of `forward`, at the chunk at c
module _ {w : Bool} {ws₀ : List ℕ} {end from count : ℕ} {ws : List ℕ} {c done : ℕ} (o : Walking w ws₀ end from count ws c done) where
  pub forward_spent : count ≤ done → walked (Ok (Paused (at c))) ws ≡ walk_m w count ws₀ end from
  unfolding walk_m
  forward_spent h =
      let none : count - done ≡ 0 = omega arith in
      rw (← o.same, none)

  module _ (left_over : done < count) where
    more : count - done ≡ suc (count - done - 1)
    more = omega arith

    pub forward_ends : c ≡ end → walked (Ok Ended) ws ≡ walk_m w count ws₀ end from
    forward_ends e = sym (walk_ends w ws end c (count - done - 1) e) ∙ ap (λ (k : ℕ). walk_m w k ws end c) (sym more) ∙ o.same

    -- its link v, and the code's test of it
    module _ (on : c ≡ end → ⊥) {v : ℕ} (ev : v ≡ word ws c forward) {t : Bool} (et : t ≡ broken ws end c v) where
      of_walk : onward_m w (count - done - 1) ws end c (next_of ws end c) ≡ walk_m w count ws₀ end from
      of_walk = sym (walk_on w ws end c (count - done - 1) on) ∙ ap (λ (k : ℕ). walk_m w k ws end c) (sym more) ∙ o.same

      is_so : {s : Bool} → t ≡ s → broken ws end c (word ws c forward) ≡ s
      is_so h = rw (← ev) (sym et ∙ h)

      pub forward_seeks : t ≡ true → {r : Walked} → r ≡ onward_m w (count - done - 1) ws end c (seek_from end ws c end)
          → r ≡ walk_m w count ws₀ end from
      forward_seeks h e = e ∙ ap (onward_m w (count - done - 1) ws end c) (sym (next_sought ws end c (is_so h))) ∙ of_walk

      pub forward_goes : t ≡ false → {ws₁ : List ℕ} → ws₁ ≡ handle_m w ws c v → length ws₁ ≡ length ws
          → Walking w ws₀ end from count ws₁ v (done + 1)
      unfolding onward_m
      forward_goes h {ws₁} ew el =
          let left : count - (done + 1) ≡ count - done - 1 = omega arith in
          record {
            long = el ∙ o.long;
            same =
                ap (λ (k : ℕ). walk_m w k ws₁ end v) left
                ∙ ap (λ (us : List ℕ). walk_m w (count - done - 1) us end v) ew
                ∙ ap (λ (x : ℕ). onward_m w (count - done - 1) ws end c (Some x)) ev
                ∙ ap (onward_m w (count - done - 1) ws end c) (sym (next_believed ws end c (is_so h))) ∙ of_walk;
          }

-- the code of `backward`, by what was found
module _ (w : Bool) (ws : List ℕ) (end c left : ℕ) where
  pub backward_lost : None ≡ found (seek_from end ws c end) → beyond ws ≡ onward_m w left ws end c (seek_from end ws c end)
  unfolding onward_m
  backward_lost = go (seek_from end ws c end)
    where
      go : (o : Option ℕ) → None ≡ found o → beyond ws ≡ onward_m w left ws end c o
      go None e = refl
      go (Some v) e = cc

  pub backward_mends : {x : Chunk} → Some x ≡ found (seek_from end ws c end) → {ws₁ : List ℕ} → ws₁ ≡ handle_m w ws c x.0
      → {r : Walked} → r ≡ walk_m w left ws₁ end x.0 → r ≡ onward_m w left ws end c (seek_from end ws c end)
  unfolding onward_m
  backward_mends {x} e {ws₁} ew {r} er = go (seek_from end ws c end) e
    where
      go : (o : Option ℕ) → Some x ≡ found o → r ≡ onward_m w left ws end c o
      go None e = cc
      go (Some v) e =
          let same : x.0 ≡ v = cc in
          rw (ew, same) at er
