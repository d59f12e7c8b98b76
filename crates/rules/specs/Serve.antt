-- The need of a request, the chunks that can serve it, and the one that is chosen (manual 5.2; document 01, "The calls": Allocate; the donor
-- serves every need since request Four of document 02).
use Rattle.std.specs.Prelude.{Bool, true, false, not, cond, ◌&&◌, ◌||◌, List, [], ◌∷◌, ℕ, suc, ◌+◌, ◌*◌, ◌-◌, ◌/◌, max, eqb, leb, Option, Some, None}
use Rattle.lists.specs.Lists.{head_or, keep, numbers_from, gathered}
use Rattle.record.specs.declared.heap.Heap.{Heap}
use Rattle.record.specs.declared.sources.Source.{Source}
use Rattle.record.specs.declared.sources.Source.TheVariants.{FromBin, FromDonor, FromTop}
use Rattle.record.specs.Heap.{at, table_of}
use Rattle.record.specs.Table.{least, small, bin_of}
use Rattle.rules.specs.Shape.{Entry}
use Rattle.rules.specs.Kinds.{in_use, size_on}

-- rounded up to a multiple of 8
abbrev pub up_to_eight : ℕ → ℕ
up_to_eight n = (n + 7) / 8 * 8

-- the need: the chunk size for z bytes, with `above` bytes of header before the block; a multiple of 8, at least 24
abbrev pub need : ℕ → ℕ → ℕ
need above z = max least (up_to_eight (z + above))

-- the sizes that may be asked for: 1 to 65,488 bytes
abbrev pub most_bytes : ℕ
most_bytes = 65488

abbrev pub permitted : ℕ → Bool
permitted z = leb 1 z && leb z most_bytes

-- The chunk e can serve n: ordinary with at least n bytes, the top or the donor with at least n + 24.
-- Only the entry and the places of donor and top decide it. The table, which told the small n of document 01, is not looked at any
-- more; it stays an argument so that the promises keep their texts.
unfoldable pub serves : List ℕ → ℕ → ℕ → ℕ → Entry → Bool
serves table donor top n e =
    not (in_use e)
    && cond (eqb e.place top || eqb e.place donor) (leb (n + least) e.size) (leb n e.size)

-- the chunk at c as a source; 0 means that the list had none
abbrev pub from_bin : ℕ → Option Source
from_bin c = cond (eqb c 0) None (Some (FromBin (at c)))

-- first fit: the first chunk of a list, in list order, that has at least n bytes
abbrev pub first_fit : List Entry → ℕ → List ℕ → Option Source
first_fit es n cs = from_bin (head_or 0 (keep (λ c. leb n (size_on es c)) cs))

-- first fit in the bin of n
abbrev pub own_bin : List Entry → (ℕ → List ℕ) → ℕ → Option ℕ → Option Source
own_bin es lists n (Some i) = first_fit es n (lists i)
own_bin es lists n None = None

-- the first chunk of the next larger bin that has one
abbrev pub larger_bin : Heap → (ℕ → List ℕ) → Option ℕ → Option Source
larger_bin h lists (Some i) = from_bin (head_or 0 (gathered lists (numbers_from (suc i) (h.bins - suc i))))
larger_bin h lists None = None

-- the donor, if there is one and it has at least n + 24 bytes
abbrev pub try_donor : Heap → List Entry → ℕ → Option Source
try_donor h es n = cond (not (eqb h.donor.0 0) && leb (n + least) (size_on es h.donor.0)) (Some FromDonor) None

-- the top, if it has at least n + 24 bytes
abbrev pub try_top : Heap → List Entry → ℕ → Option Source
try_top h es n = cond (leb (n + least) (size_on es h.top.0)) (Some FromTop) None

-- the order of the four tries: for small n the donor comes before the larger bins, for any other n after the top
abbrev pub in_order : Bool → Option Source → Option Source → Option Source → Option Source → List (Option Source)
in_order little own larger donor top = own ∷ cond little (donor ∷ larger ∷ top ∷ []) (larger ∷ top ∷ donor ∷ [])

-- the first try that finds something
abbrev pub first_of : List (Option Source) → Option Source
first_of [] = None
first_of (Some s ∷ ss) = Some s
first_of (None ∷ ss) = first_of ss

-- the source for n
unfoldable pub chosen : Heap → List Entry → (ℕ → List ℕ) → ℕ → Option Source
chosen h es lists n =
    let own = bin_of (table_of h) n in
    first_of (in_order (small (table_of h) n) (own_bin es lists n own) (larger_bin h lists own) (try_donor h es n) (try_top h es n))
