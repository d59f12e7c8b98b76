-- `audit::look` decides the check of the rules on every region, of every record that has these parts. Assumes nothing.
use mathlib.Core.Path.{sym, ◌∙◌}
use lib.Seq.{length-take-le}
use Rattle.chain.proofs.LengthLaws.{lent_words, lent_even}
use Rattle.audit.proofs.AuditMeaning.{audit_short, audit_untabled, audit_walked, lent_table}
use Rattle.audit.proofs.look.Goals as goal

pub returns-then-not-fits_length : goal.returns-then-not-fits_length
returns-then-not-fits_length c = audit_short _ _ (sym c.fits_length.ensures ∙ c.if-not-fits_length.true)

pub returns-then-not-is_tabled : goal.returns-then-not-is_tabled
returns-then-not-is_tabled c =
    audit_untabled _ _ c.args.arrays.places (sym c.is_tabled.ensures ∙ c.if-not-is_tabled.true)

-- the walks get the words of the heap bytes and a valid table. The blanks of `lent_table` are the bin count, the sizes, the heads and the tails
pub slice_bounds-lists-end : goal.slice_bounds-lists-end
slice_bounds-lists-end c = sym (length-take-le _ _ (lent_table _ _ _ _ (sym c.is_tabled.ensures ∙ c.if-not-is_tabled.false)).0)

pub slice_bounds-walk_all-end : goal.slice_bounds-walk_all-end
slice_bounds-walk_all-end c = sym (length-take-le _ _ (lent_words _ _ (sym c.fits_length.ensures ∙ c.if-not-fits_length.false)))

pub walk_all-requires : goal.walk_all-requires
walk_all-requires c = lent_even _ _ (sym c.fits_length.ensures ∙ c.if-not-fits_length.false)

pub invariant_of-lists : goal.invariant_of-lists
invariant_of-lists c =
    record { valid = (lent_table _ _ _ _ (sym c.is_tabled.ensures ∙ c.if-not-is_tabled.false)).1 }

pub returns : goal.returns
returns c =
    audit_walked _ _ c.args.arrays.places (sym c.fits_length.ensures ∙ c.if-not-fits_length.false)
    (sym c.is_tabled.ensures ∙ c.if-not-is_tabled.false) _ c.walk_all.ensures
