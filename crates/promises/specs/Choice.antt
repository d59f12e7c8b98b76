-- Choice (manual 5.2; document 01, "The calls": the order in which Allocate tries; document 02, request Four: the donor for large needs): on a heap
-- that passes, a block is granted from a chunk that is tried first among those that can serve its need.
use Rattle.std.specs.Prelude.{◌≡◌, ◌⊎◌, Bool, true, false, cond, List, ℕ, ◌≤◌, ◌<◌, eqb, Option, Some, None}
use Rattle.record.specs.declared.heap.Heap.{Heap}
use Rattle.record.specs.declared.kinds.Kind.{Kind}
use Rattle.record.specs.declared.kinds.Kind.TheVariants.{Start, InUse, Ordinary, Donor, Top, End}
use Rattle.record.specs.Heap.{table_of}
use Rattle.record.specs.Table.{small, bin_of}
use Rattle.rules.specs.Shape.{Entry, chunk_end}
use Rattle.rules.specs.Kinds.{kind_of}
use Rattle.rules.specs.Check.{Passes}
use Rattle.rules.specs.Serve.{serves}
use Rattle.promises.specs.Ways.{Way}
use Rattle.promises.specs.Room.{OnChain}
use Rattle.promises.specs.NewBlocks.{EachNewBlock}

-- the block at b lies in the chunk e
abbrev pub LiesIn : ℕ → Entry → Type 0
LiesIn b e = (e.place < b) × (b < chunk_end e)

-- the chunk's size and n have the same bin
abbrev pub same_bin : Option ℕ → Option ℕ → Bool
same_bin (Some i) (Some j) = eqb i j
same_bin (Some i) None = false
same_bin None b = false

abbrev pub in_own_bin : Heap → ℕ → Entry → Bool
in_own_bin h n e = same_bin (bin_of (table_of h) e.size) (bin_of (table_of h) n)

-- The rank of a chunk by its kind: chunks of lower rank are tried earlier. An ordinary chunk is in n's own bin or, if it can serve, in a
-- larger one. The donor comes before the larger bins if n is small (`little`), and last if it is not. Start, end and chunks in use
-- are never tried
abbrev pub rank_as : Bool → Bool → Kind → ℕ
rank_as own little Ordinary = cond own 0 2
rank_as own little Donor = cond little 1 4
rank_as own little Top = 3
rank_as own little Start = 5
rank_as own little InUse = 5
rank_as own little End = 5

abbrev pub rank : Heap → ℕ → Entry → ℕ
rank h n e = rank_as (in_own_bin h n e) (small (table_of h) n) (kind_of h e)

-- the chunk e can serve n
abbrev pub can : Heap → ℕ → Entry → Bool
can h n e = serves (table_of h) h.donor.0 h.top.0 n e

-- of a block at b that was granted for n: no chunk that can serve has a lower rank than the chunk `from` in which it lies
abbrev pub LowestRank : List ℕ → Heap → ℕ → ℕ → Type 0
LowestRank ws h n b =
    (from : Entry) → OnChain ws h from → LiesIn b from
    → (e : Entry) → OnChain ws h e → can h n e ≡ true → rank h n from ≤ rank h n e

-- a need that is not small comes from the donor only if no ordinary chunk can serve it, and not the top
abbrev pub DonorLast : List ℕ → Heap → ℕ → ℕ → Type 0
DonorLast ws h n b =
    (from : Entry) → OnChain ws h from → LiesIn b from
    → small (table_of h) n ≡ false → kind_of h from ≡ Donor
    → (e : Entry) → OnChain ws h e → (kind_of h e ≡ Ordinary) ⊎ (kind_of h e ≡ Top) → can h n e ≡ false

-- a small need comes from a larger bin only if no chunk of its own bin can serve it, and not the donor
abbrev pub DonorBeforeLarger : List ℕ → Heap → ℕ → ℕ → Type 0
DonorBeforeLarger ws h n b =
    (from : Entry) → OnChain ws h from → LiesIn b from
    → small (table_of h) n ≡ true → kind_of h from ≡ Ordinary → in_own_bin h n from ≡ false
    → (e : Entry) → OnChain ws h e → ((kind_of h e ≡ Ordinary) × (in_own_bin h n e ≡ true)) ⊎ (kind_of h e ≡ Donor) → can h n e ≡ false

-- all three: the last two follow from the first, and say what it means for the donor
pub record InTurn (ws : List ℕ) (h : Heap) (n b : ℕ) : Type 0 where
  pub lowest : LowestRank ws h n b
  pub donor_last : DonorLast ws h n b
  pub donor_before_larger : DonorBeforeLarger ws h n b

-- the promise on one heap, for each call that grants a new block
abbrev pub ChoiceAt : Way → List ℕ → Heap → Type 0
ChoiceAt = EachNewBlock InTurn

-- the promise, on every heap that passes
abbrev pub Choice : Way → Type 0
Choice way = (ws : List ℕ) (h : Heap) → Passes ws h → ChoiceAt way ws h
