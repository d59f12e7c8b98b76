-- The four tries as the code makes them, over words and heads. They mirror the code; that the first to succeed is the source
-- that the rule names is proved.
use Rattle.std.specs.Prelude.{ℕ, ◌+◌, Bool, cond, not, ◌&&◌, List, length, ◌==◌, nat_le, slice_index, Option, Some, None}
use Rattle.bins.specs.Bins.{first_fit_m, next_occupied_m, steps}
use Rattle.record.specs.declared.heap.Summary.{Summary}
use Rattle.record.specs.declared.sources.Source.{Source}
use Rattle.record.specs.declared.sources.Source.TheVariants.{FromDonor, FromTop}
use Rattle.record.specs.Table.{small, bin_of}
use Rattle.region.specs.Words.{word, size}
use Rattle.rules.specs.Serve.{from_bin, in_order, first_of}

unfoldable pub own_m : List ℕ → List ℕ → ℕ → Option ℕ → ℕ
own_m ws heads n (Some i) = first_fit_m steps ws n (slice_index heads i)
own_m ws heads n None = 0

unfoldable pub larger_m : List ℕ → ℕ → Option ℕ → ℕ
larger_m heads bins (Some i) = next_occupied_m heads i bins
larger_m heads bins None = 0

unfoldable pub donor_m : List ℕ → ℕ → ℕ → Bool
donor_m ws donor n = not (donor == 0) && nat_le (n + 24) (word ws donor size)

unfoldable pub top_m : List ℕ → ℕ → ℕ → Bool
top_m ws top n = nat_le (n + 24) (word ws top size)

unfoldable pub top_or_donor_m : Bool → Bool → Option Source
top_or_donor_m top donor = cond top (Some FromTop) (cond donor (Some FromDonor) None)

unfoldable pub choose_m : List ℕ → List ℕ → List ℕ → Summary → ℕ → Option Source
choose_m ws table heads s n =
    first_of
    (in_order (small table n) (from_bin (own_m ws heads n (bin_of table n))) (from_bin (larger_m heads (length table) (bin_of table n)))
    (cond (donor_m ws s.donor.0 n) (Some FromDonor) None) (cond (top_m ws s.top.0 n) (Some FromTop) None))
