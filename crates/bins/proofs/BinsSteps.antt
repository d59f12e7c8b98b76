-- The two searches turn by turn, as the code's loops go. Assumes nothing.
use Rattle.std.proofs.Common.{◌≡◌, ℕ, zero, suc, ◌+◌, ◌-◌, ◌<◌, ◌≤◌, Some, None, List, get_or, refl, add-one, arith, eq-eqb, ne_eqb, le-leb}
use borrow.Author.Tests.{lt-leb}
use Rattle.region.specs.Words.{word, size, next_in_bin}
use Rattle.record.specs.Heap.{at}
use Rattle.bins.specs.Bins.{chunk_or_none, first_fit_m, some_end}

-- what a search answers
pub no_chunk : {c : ℕ} → c ≡ 0 → None ≡ chunk_or_none c
no_chunk {c} e = rw (eq-eqb c 0 e)

pub a_chunk : {c : ℕ} → (c ≡ 0 → ⊥) → {d : ℕ} → c ≡ d → Some (at c) ≡ chunk_or_none d
a_chunk {c} n e = rw (← e, ne_eqb c 0 n)

module _ (ws : List ℕ) (need c : ℕ) where
  pub fit_spent : (left : ℕ) → left ≤ 0 → first_fit_m left ws need c ≡ 0
  unfolding first_fit_m
  fit_spent zero h = refl
  fit_spent (suc left) h = absurd (omega arith)

  pub fit_ends : (left : ℕ) → c ≡ 0 → first_fit_m left ws need c ≡ 0
  unfolding first_fit_m
  fit_ends zero e = refl
  fit_ends (suc left) e = rw (eq-eqb c 0 e, first_fit_m)

  pub fit_here : (left : ℕ) → 0 < left → (c ≡ 0 → ⊥) → need ≤ word ws c size → first_fit_m left ws need c ≡ c
  unfolding first_fit_m
  fit_here zero h ne le = absurd (omega arith)
  fit_here (suc left) h ne le = rw (ne_eqb c 0 ne, le-leb need (word ws c size) le, first_fit_m)

  fit_goes : (left : ℕ) → (c ≡ 0 → ⊥) → word ws c size < need
      → first_fit_m (suc left) ws need c ≡ first_fit_m left ws need (word ws c next_in_bin)
  unfolding first_fit_m
  fit_goes left ne lt = rw (ne_eqb c 0 ne, lt-leb need (word ws c size) lt, first_fit_m)

  -- after i of `most` steps
  pub fit_goes_from : (most i : ℕ) → i < most → (c ≡ 0 → ⊥) → word ws c size < need
      → first_fit_m (most - i) ws need c ≡ first_fit_m (most - (i + 1)) ws need (word ws c next_in_bin)
  fit_goes_from most i h ne lt =
      let s : most - i ≡ suc (most - (i + 1)) = omega arith in
      rw s (fit_goes (most - (i + 1)) ne lt)

module _ (ends : List ℕ) (i : ℕ) where
  pub end_spent : (left : ℕ) → left ≤ 0 → some_end left ends i ≡ 0
  unfolding some_end
  end_spent zero h = refl
  end_spent (suc left) h = absurd (omega arith)

  pub end_here : (left : ℕ) → 0 < left → (get_or ends i 0 ≡ 0 → ⊥) → some_end left ends i ≡ get_or ends i 0
  unfolding some_end
  end_here zero h ne = absurd (omega arith)
  end_here (suc left) h ne = rw (ne_eqb (get_or ends i 0) 0 ne, some_end)

  pub end_goes : (left : ℕ) → get_or ends i 0 ≡ 0 → some_end (suc left) ends i ≡ some_end left ends (suc i)
  unfolding some_end
  end_goes left e = rw (eq-eqb (get_or ends i 0) 0 e, some_end)

  -- from bin i on, below `bins`
  pub end_goes_from : (bins : ℕ) → i < bins → get_or ends i 0 ≡ 0 → some_end (bins - i) ends i ≡ some_end (bins - (i + 1)) ends (i + 1)
  end_goes_from bins h e =
      let s : bins - i ≡ suc (bins - (i + 1)) = omega arith in
      rw (s, end_goes (bins - (i + 1)) e, add-one)
