-- The bin table (manual 3.1, 3.2; document 01, "The bin table and the record"): which tables are valid, the bin of a size, the small array.
use Rattle.std.specs.Prelude.{◌≡◌, Bool, true, false, cond, ◌&&◌, ◌||◌, List, [], ◌∷◌, ℕ, suc, ◌+◌, ◌*◌, ◌%◌, ◌≤◌, ◌<◌, eqb, leb, ltb, length, get_or, drop, Option, Some, None}
use Rattle.record.specs.Heap.{places}

-- the first bin's size, and the least size of a chunk other than start and end
abbrev pub least : ℕ
least = 24

-- size number i of a table
abbrev pub size_at : List ℕ → ℕ → ℕ
size_at t i = get_or t i 0

-- 1 to 32 sizes, the first of them 24, each a multiple of 8 and greater than the one before
pub record ValidTable (t : List ℕ) : Type 0 where
  pub some : 1 ≤ length t
  pub few : length t ≤ places
  pub first : size_at t 0 ≡ least
  pub eights : (i : ℕ) → i < length t → size_at t i % 8 ≡ 0
  pub ascends : (i : ℕ) → suc i < length t → size_at t i < size_at t (suc i)

-- each size that follows is a multiple of 8 and greater than the one before
abbrev pub goes_up : ℕ → List ℕ → Bool
goes_up before [] = true
goes_up before (s ∷ ss) = eqb (s % 8) 0 && ltb before s && goes_up s ss

-- `ValidTable` as a test
unfoldable pub valid_table : List ℕ → Bool
valid_table t =
    leb 1 (length t) && leb (length t) places && eqb (size_at t 0) least && goes_up least (drop 1 t)

-- bin i takes the size s: the last bin whose size is not above s
pub record Takes (t : List ℕ) (s i : ℕ) : Type 0 where
  pub inside : i < length t
  pub not_above : size_at t i ≤ s
  pub last : (j : ℕ) → i < j → j < length t → s < size_at t j

-- one of the `width` bins from `low` on takes the size s
pub record TakenWithin (t : List ℕ) (s low width : ℕ) : Type 0 where
  pub valid : ValidTable t
  pub inside : low + width ≤ length t
  pub bin : ℕ
  pub takes : Takes t s bin
  pub from : low ≤ bin
  pub below : bin < low + width

-- what `bin_of`'s answer means: bin i takes the size s; or every bin's size is above s
abbrev pub TakenBy : List ℕ → ℕ → Option ℕ → Type 0
TakenBy t s (Some i) = Takes t s i
TakenBy t s None = (i : ℕ) → i < length t → s < size_at t i

-- a step of `bin_of`: the bin found in the rest of the table, counted one higher; else the first bin, if its size is not above
abbrev pub one_on : Option ℕ → Bool → Option ℕ
one_on (Some i) not_above = Some (suc i)
one_on None true = Some 0
one_on None false = None

-- the bin that takes the size s, computed
abbrev pub bin_of : List ℕ → ℕ → Option ℕ
bin_of [] s = None
bin_of (b ∷ bs) s = one_on (bin_of bs s) (leb b s)

-- `Takes` as a test, right for a valid table: s is at least bin i's size and below the next bin's
unfoldable pub takes_bin : List ℕ → ℕ → ℕ → Bool
takes_bin t i s = ltb i (length t) && leb (size_at t i) s && (leb (length t) (suc i) || ltb s (size_at t (suc i)))

-- how many of the sizes follow `next` in steps of 8, without a gap
abbrev pub eights_from : ℕ → List ℕ → ℕ
eights_from next [] = 0
eights_from next (b ∷ bs) = cond (eqb b next) (suc (eights_from (next + 8) bs)) 0

-- m is the number of the small array's bins: the greatest number below the bin count
-- for which bins 0 to m are 24, 32, 40 and so on without a gap
pub record SmallBins (t : List ℕ) (m : ℕ) : Type 0 where
  pub below : m < length t
  pub gapless : (i : ℕ) → i ≤ m → size_at t i ≡ least + 8 * i
  pub greatest : (k : ℕ) → k < length t → ((i : ℕ) → i ≤ k → size_at t i ≡ least + 8 * i) → k ≤ m

-- m, computed
abbrev pub small_bins : List ℕ → ℕ
small_bins [] = 0
small_bins (b ∷ bs) = eights_from 32 bs

-- the size s is small: below 24 + 8m
abbrev pub small : List ℕ → ℕ → Bool
small t s = ltb s (least + 8 * small_bins t)

-- the guide's own table, without its closing 0xFFFFFFFF
abbrev pub guide_table : List ℕ
guide_table =
    24 ∷ 32 ∷ 40 ∷ 48 ∷ 56 ∷ 64 ∷ 72 ∷ 80 ∷ 88 ∷ 96 ∷ 104 ∷ 112 ∷ 120
    ∷ 128 ∷ 256 ∷ 384 ∷ 512 ∷ 640 ∷ 768 ∷ 896 ∷ 1024 ∷ 1152 ∷ 1280 ∷ 1408
    ∷ 1536 ∷ 1664 ∷ 1792 ∷ 1920 ∷ 2048 ∷ []
