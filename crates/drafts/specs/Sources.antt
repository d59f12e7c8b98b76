-- The place and the kind of the chunk that a source names, for the laws of grants and for the code's definitions.
-- No source names no chunk: 0 and `Start` are fillers.
use Rattle.std.specs.Prelude.{ℕ, Option, Some, None}
use Rattle.record.specs.declared.kinds.Kind.{Kind}
use Rattle.record.specs.declared.kinds.Kind.TheVariants.{Start, Ordinary, Donor, Top}
use Rattle.record.specs.declared.sources.Source.{Source}
use Rattle.record.specs.declared.sources.Source.TheVariants.{FromBin, FromDonor, FromTop}

abbrev pub place_in : ℕ → ℕ → Option Source → ℕ
place_in donor top (Some (FromBin c)) = c.0
place_in donor top (Some FromDonor) = donor
place_in donor top (Some FromTop) = top
place_in donor top None = 0

abbrev pub kind_in : Option Source → Kind
kind_in (Some (FromBin c)) = Ordinary
kind_in (Some FromDonor) = Donor
kind_in (Some FromTop) = Top
kind_in None = Start
