-- The two searches find what the rules name: the first of a list that is large enough, and the first of all lists above a bin. Assumes nothing.
use Rattle.std.proofs.Common.{◌≡◌, ℕ, zero, suc, ◌-◌, ◌<◌, ◌≤◌, Bool, true, false, cond, eqb, leb, List, [], ◌∷◌, ◌++◌, length, get_or, refl, arith, eq-eqb, ne_eqb}
use mathlib.Core.List.Memᴰ
use Rattle.lists.specs.Lists.{Mem, head_or, keep, gathered, numbers_from}
use Rattle.region.specs.Words.{word, size, next_in_bin}
use Rattle.rules.proofs.ShapeLaws.{Leads}
use Rattle.bins.specs.Bins.{steps, first_fit_m, some_end, next_occupied_m}

pub first_fit_steps : (left : ℕ) (ws : List ℕ) (need : ℕ) (cs : List ℕ) → length cs ≤ left → Leads ws cs
    → first_fit_m left ws need (head_or 0 cs) ≡ head_or 0 (keep (λ c. leb need (word ws c size)) cs)
unfolding first_fit_m
first_fit_steps zero ws need [] h l = refl
first_fit_steps zero ws need (c ∷ cs) h l = absurd (omega arith)
first_fit_steps (suc left) ws need [] h l = refl
first_fit_steps (suc left) ws need (c ∷ cs) h l =
    rw (ne_eqb c 0 (omega (arith, l.0)), first_fit_m)
    (go (leb need (word ws c size)) (first_fit_steps left ws need cs (omega arith) l.2))
  where
    go : (t : Bool)
        → first_fit_m left ws need (head_or 0 cs) ≡ head_or 0 (keep (λ d. leb need (word ws d size)) cs)
        → elim t [ true ↦ c | false ↦ first_fit_m left ws need (word ws c next_in_bin) ]
        ≡ head_or 0 (cond t (c ∷ keep (λ d. leb need (word ws d size)) cs) (keep (λ d. leb need (word ws d size)) cs))
    go true e = refl
    go false e = rw l.1 e

pub first_fit_is : (ws : List ℕ) (need : ℕ) (cs : List ℕ) → Leads ws cs → length cs ≤ steps
    → first_fit_m steps ws need (head_or 0 cs) ≡ head_or 0 (keep (λ c. leb need (word ws c size)) cs)
first_fit_is ws need cs l h = first_fit_steps steps ws need cs h l

module _ (heads : List ℕ) (lists : ℕ → List ℕ) (bins : ℕ)
    (ends : (j : ℕ) → j < bins → get_or heads j 0 ≡ head_or 0 (lists j))
    (some : (j : ℕ) → j < bins → (c : ℕ) → Mem c (lists j) → 0 < c) where
  some_end_is : (left i : ℕ) → left ≡ bins - i → some_end left heads i ≡ head_or 0 (gathered lists (numbers_from i left))
  unfolding some_end
  some_end_is zero i h = refl
  some_end_is (suc left) i h =
      go (get_or heads i 0) (lists i) (ends i (omega arith)) (some i (omega arith)) (some_end_is left (suc i) (omega arith))
    where
      go : (v : ℕ) (cs : List ℕ) → v ≡ head_or 0 cs → ((c : ℕ) → Mem c cs → 0 < c)
          → some_end left heads (suc i) ≡ head_or 0 (gathered lists (numbers_from (suc i) left))
          → elim (eqb v 0) [ true ↦ some_end left heads (suc i) | false ↦ v ]
          ≡ head_or 0 (cs ++ gathered lists (numbers_from (suc i) left))
      go v [] e pos rest = rw (eq-eqb v 0 e) rest
      go v (c ∷ cs) e pos rest =
          let z = pos c (Memᴰ.head refl) in
          rw (ne_eqb v 0 (omega arith)) e

  pub next_occupied_is : (i : ℕ)
      → next_occupied_m heads i bins ≡ head_or 0 (gathered lists (numbers_from (suc i) (bins - suc i)))
  unfolding next_occupied_m
  next_occupied_is i = some_end_is (bins - suc i) (suc i) refl
