-- `choose::choose` makes the four tries in turn. Assumes nothing.
use Rattle.std.proofs.Common.{sym, ◌∙◌, inl, inr}
use Rattle.grant.proofs.ChooseLaws.{chooses, from_own, from_donor_first, from_larger, from_rest}
use Rattle.grant.proofs.choose.choose.Goals.{else-donor-via-then-donor+else-is_small, else-donor-via-else-donor}
use Rattle.grant.proofs.choose.choose.Goals as goal

pub returns-in-Some : goal.returns-in-Some
returns-in-Some c = chooses (from_own (record { taken = c.bin_of-bin.ensures; found = c.own_bin.ensures }) c.in-Some.is)

pub returns-then-is_small : goal.returns-then-is_small
returns-then-is_small c =
    chooses
    (from_donor_first (record { taken = c.bin_of-bin.ensures; found = c.own_bin.ensures }) c.in_default.is
    c.donor_serves-donor.ensures c.if-donor.true (sym c.is_small.ensures ∙ c.if-is_small.true))

pub returns-in-Some-larger_bin : goal.returns-in-Some-larger_bin
returns-in-Some-larger_bin c =
    chooses
    (from_larger (record { taken = c.bin_of-bin.ensures; found = c.own_bin.ensures }) c.in_default.is
    c.donor_serves-donor.ensures c.larger_bin.ensures
    (elim c.else-donor.branch [
      | else-donor-via-then-donor+else-is_small w ↦ inr (sym w.is_small.ensures ∙ w.if-is_small.false)
      | else-donor-via-else-donor w ↦ inl w.if-donor.false
    ])
    c.in-Some-larger_bin.is)

pub returns : goal.returns
returns c =
    chooses
    (from_rest (record { taken = c.bin_of-bin.ensures; found = c.own_bin.ensures }) c.in_default.is
    c.donor_serves-donor.ensures c.larger_bin.ensures
    (elim c.else-donor.branch [
      | else-donor-via-then-donor+else-is_small w ↦ inr (sym w.is_small.ensures ∙ w.if-is_small.false)
      | else-donor-via-else-donor w ↦ inl w.if-donor.false
    ])
    c.in_default-larger_bin.is c.top_serves.ensures c.top_or_donor.ensures)
