-- `table::valid` refuses a table by its length and its first size, and tests the others size by size. Assumes nothing.
use Rattle.std.proofs.Common.{◌≡◌, ℕ, ◌≤◌, ◌-◌, Bool, false, List, length, take, drop, arith, sym, ap, ◌∙◌, eqb, eqb-true}
use Rattle.std.proofs.lemmas.Bool.{eqb-false}
use Rattle.std.proofs.lemmas.List.{length-drop, take_all}
use mathlib.Core.Bool.{and-true}
use Rattle.record.specs.Table.{goes_up}
use Rattle.record.proofs.TableSteps.{valid_none, valid_long, valid_first, valid_rest, up_goes, up_ends}
use Rattle.record.proofs.table.valid.Goals as goal

pub returns-then-is_empty : goal.returns-then-is_empty
returns-then-is_empty c = sym (valid_none _ (eqb-true _ _ (sym c.is_empty.ensures ∙ c.if-is_empty.true)))

not_empty : (t : List ℕ) {b : Bool} → b ≡ eqb (length t) 0 → b ≡ false → 1 ≤ length t
not_empty t e f = let n = eqb-false (length t) 0 (sym e ∙ f) in omega (arith, n)

pub returns-then-table-gt-PLACES : goal.returns-then-table-gt-PLACES
returns-then-table-gt-PLACES c =
    sym (valid_long _ (not_empty _ c.is_empty.ensures c.if-is_empty.false) (omega (arith, c.if-table-gt-PLACES.true)))

pub returns-then-table-ne-LEAST : goal.returns-then-table-ne-LEAST
returns-then-table-ne-LEAST c =
    sym
    (valid_first _ (not_empty _ c.is_empty.ensures c.if-is_empty.false) c.if-table-gt-PLACES.false c.if-table-ne-LEAST.true)

all_but_first : (t : List ℕ) → take (length t - 1) (drop 1 t) ≡ drop 1 t
all_but_first t = take_all (length t - 1) (drop 1 t) (omega (arith, length-drop 1 t))

pub returns : goal.returns
returns c =
    sym (and-true _) ∙ (rw (up_ends _ _ _ c.loop-size-test.false) at c.loop-size.invariant)
    ∙ ap (goes_up 24) (all_but_first c.args.table.now)
    ∙ sym (valid_rest _ (not_empty _ c.is_empty.ensures c.if-is_empty.false) c.if-table-gt-PLACES.false c.if-table-ne-LEAST.false)
