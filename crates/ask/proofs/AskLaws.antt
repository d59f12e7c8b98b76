-- The answers by what was found, and the walk that counts a list. Assumes nothing.
use mathlib.Core.Path.{◌≡◌, ◌∙◌, ap}
use mathlib.Core.List.{List}
use Prim.Native.Nat.{ℕ, suc, ◌+◌, ◌-◌, ◌≤◌, ◌<◌}
use native.Mathlib.Omega.{arith}
use lib.ListN.{length}
use Rattle.region.specs.Words.{word, next_in_bin}
use Rattle.rules.specs.Shape.{members_from}
use Rattle.rules.proofs.ShapeLaws.{read_none, read_spent, read_more}

-- where the count of a list stands, at c: what is met and what is left come to the whole
pub record CountsMembers (ws : List ℕ) (steps first c met : ℕ) : Type 0 where
  pub within : met ≤ steps
  pub count : met + length (members_from (steps - met) ws c) ≡ length (members_from steps ws first)

module _ {ws : List ℕ} {steps first : ℕ} where
  pub counting_begins : CountsMembers ws steps first first 0
  counting_begins =
      let q : steps - 0 ≡ steps = omega arith in
      record { within = omega arith; count = rw q (omega arith) }

  module _ {c met : ℕ} (o : CountsMembers ws steps first c met) where
    pub counted_all : c ≡ 0 → met ≡ length (members_from steps ws first)
    counted_all e =
        let r : length (members_from (steps - met) ws c) ≡ 0 = ap length (ap (members_from (steps - met) ws) e ∙ read_none ws (steps - met)) in
        omega (arith, o.count)

    pub counted_most : steps ≤ met → met ≡ length (members_from steps ws first)
    counted_most h =
        let r : length (members_from (steps - met) ws c) ≡ 0 = ap length (read_spent ws (steps - met) c (omega (arith, o.within))) in
        omega (arith, o.count)

    pub counting_goes : (c ≡ 0 → ⊥) → met < steps → {d : ℕ} → d ≡ word ws c next_in_bin → CountsMembers ws steps first d (met + 1)
    counting_goes n h ed =
        let r : length (members_from (steps - met) ws c) ≡ suc (length (members_from (steps - met - 1) ws (word ws c next_in_bin))) = ap length (read_more ws (steps - met) c n (omega arith)) in
        let q : steps - (met + 1) ≡ steps - met - 1 = omega arith in
        rw ed (record { within = omega arith; count = rw q (omega (arith, o.count)) })
