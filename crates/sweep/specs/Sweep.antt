-- What the walk of the bins' lists tests and counts, over the lists that the rules read (`members_from`).
-- It mirrors the code; that it is what the check asks is proved.
use Rattle.std.specs.Prelude.{◌≡◌, ℕ, suc, ◌+◌, ◌-◌, ◌*◌, ◌%◌, ◌^◌, ◌<◌, ◌≤◌, Bool, true, false, cond, ◌&&◌, List, [], ◌∷◌, Option, Some, None, length, ◌==◌, nat_le, nat_lt, slice_index}
use Rattle.lists.specs.Lists.{every, last_or, total, numbers_from}
use Rattle.marks.specs.Marks.{marked}
use Rattle.record.specs.Table.{size_at, takes_bin}
use Rattle.region.specs.Words.{word, size, next_in_bin, previous_in_bin, bin}
use Rattle.rules.specs.Shape.{members_from}
use Rattle.sweep.specs.declared.Members.{Members}
use Rattle.sweep.specs.declared.Sizes.{Sizes}

-- what bin i asks of the words of its first member: its bin word, and a size from its own to below the next bin's.
-- No bin follows the last one: every word from its size on is one of its sizes
abbrev pub sizes_m : List ℕ → ℕ → Sizes
sizes_m table i =
    record {
      word = i % 32 * 8;
      least = size_at table i;
      most = cond (nat_le (length table) (suc i)) (2 ^ 32 - 1) (size_at table (suc i) - 1);
    }

-- the words of the chunk at c are right for a member behind one at p, where these sizes are asked for; whether it is too large is not asked here
unfoldable pub says_listed_m : List ℕ → Sizes → ℕ → ℕ → Bool
says_listed_m ws s p c = word ws c bin == s.word && word ws c previous_in_bin == p && nat_le s.least (word ws c size)

-- c is a multiple of 8, and the six words of a header are inside the heap bytes, which are a multiple of 8 too
abbrev pub is_placed_m : ℕ → ℕ → Bool
is_placed_m bytes c = c % 8 == 0 && nat_lt (c + 16) bytes

-- the words, the table, a bin of it, and the heap bytes
module _ (ws table : List ℕ) (i bytes : ℕ) where
  -- the chunk at c stands in the list of bin i behind one at p of size s, and is no smaller
  unfoldable pub stands_m : List ℕ → ℕ → ℕ → ℕ → Bool
  stands_m ms p s c =
      is_placed_m bytes c && marked ms c && word ws c bin == i % 32 * 8 && word ws c previous_in_bin == p && nat_le s (word ws c size)

  -- it does, and the bin takes its size
  unfoldable pub is_listed_m : List ℕ → ℕ → ℕ → ℕ → Bool
  is_listed_m ms p s c = stands_m ms p s c && takes_bin table i (word ws c size)

  -- all of a list are, one behind the other
  abbrev pub combed : List ℕ → ℕ → ℕ → List ℕ → Bool
  combed ms p s [] = true
  combed ms p s (c ∷ cs) = is_listed_m ms p s c && combed ms c (word ws c size) cs

-- where the forward bin links lead from c, past the members cs
abbrev pub beyond : List ℕ → ℕ → List ℕ → ℕ
beyond ws c [] = c
beyond ws c (d ∷ ds) = beyond ws (word ws d next_in_bin) ds

-- no list has more members than there are heap bytes: so many steps read it
module _ (ws table : List ℕ) (i bytes : ℕ) where
  -- the list from `first` is whole: every member is right, and it ends. The first member is no smaller than the bin's size
  abbrev pub whole_list : List ℕ → ℕ → Bool
  whole_list ms first =
      combed ws table i bytes ms 0 (size_at table i) (members_from bytes ws first) && beyond ws first (members_from bytes ws first) == 0

  -- it is, with these members
  pub record WholeIs (ms : List ℕ) (first : ℕ) (found : Members) : Type 0 where
    pub whole : whole_list ms first ≡ true
    pub count : found.count ≡ length (members_from bytes ws first)
    pub ends : found.last ≡ last_or 0 (members_from bytes ws first)

  unfoldable pub SweptIs : List ℕ → ℕ → Option Members → Type 0
  SweptIs ms first None = whole_list ms first ≡ false
  SweptIs ms first (Some found) = WholeIs ms first found

-- the bins from `from` up to `next` have neither head nor tail
pub record NextListed (heads tails : List ℕ) (from next : ℕ) : Type 0 where
  pub onward : from ≤ next
  pub passed : (i : ℕ) → from ≤ i → i < next → (slice_index heads i ≡ 0) × (slice_index tails i ≡ 0)

module _ (ws table heads tails : List ℕ) (bytes : ℕ) where
  abbrev pub list_at : ℕ → List ℕ
  list_at i = members_from bytes ws (slice_index heads i)

  -- the list of bin i is whole, and the tail is its last member
  abbrev pub whole_bin : List ℕ → ℕ → Bool
  whole_bin ms i = whole_list ws table i bytes ms (slice_index heads i) && slice_index tails i == last_or 0 (list_at i)

  -- so are those of the bins in `is`
  abbrev pub all_whole : List ℕ → List ℕ → Bool
  all_whole ms is = every (whole_bin ms) is

  -- every list is whole, and they have so many members in all
  pub record CleanIs (ms : List ℕ) (met : ℕ) : Type 0 where
    pub whole : all_whole ms (numbers_from 0 (length table)) ≡ true
    pub count : met ≡ total (λ i. length (list_at i)) (numbers_from 0 (length table)) % 2 ^ 32

  unfoldable pub SweepIs : List ℕ → Option ℕ → Type 0
  SweepIs ms None = all_whole ms (numbers_from 0 (length table)) ≡ false
  SweepIs ms (Some met) = CleanIs ms met
