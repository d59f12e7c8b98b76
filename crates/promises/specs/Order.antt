-- Order (manual 3.3; document 02, request Five): in every heap that passes, the list of each bin is in non-descending order of size; a chunk that a call puts
-- into a bin outside the small array stands behind those of equal size, and one that it puts into a bin of the small array before those that were there.
use Rattle.std.specs.Prelude.{◌≡◌, List, ℕ, ◌≤◌, ◌<◌}
use Rattle.lists.specs.Lists.{Mem, Before, Ascending}
use Rattle.record.specs.Heap.{table_of}
use Rattle.record.specs.Table.{small_bins}
use Rattle.rules.specs.Shape.{Entry, shape, bin_list}
use Rattle.rules.specs.Kinds.{size_on}
use Rattle.rules.specs.Calls.{Call, State}
use Rattle.promises.specs.Ways.{Way}
use Rattle.promises.specs.Room.{OnChain}
use Rattle.promises.specs.Kept.{Passing, after}

-- the list of bin i
abbrev pub list_of : State → ℕ → List ℕ
list_of s i = bin_list s.words s.heap i

-- every bin's list is in non-descending order of size
abbrev pub InOrder : State → Type 0
InOrder s = (i : ℕ) → i < s.heap.bins → Ascending (size_on (shape s.words s.heap.bytes)) (list_of s i)

-- the chunk e is on the chain, with this place, size and flags; it is a member of bin i
abbrev pub On : State → Entry → Type 0
On s e = OnChain s.words s.heap e

abbrev pub InBin : State → ℕ → Entry → Type 0
InBin s i e = On s e × Mem e.place (list_of s i)

-- A call led from the state s to the state t. The chunk y is in a bin outside the small array now and was not on the chain before: the call has
-- put it there. The chunk x, of equal size, was on the chain before: it stands before y
abbrev pub Behind : State → State → Type 0
Behind s t =
    (i : ℕ) → i < t.heap.bins → small_bins (table_of t.heap) ≤ i
    → (x y : Entry) → InBin t i x → InBin t i y → x.size ≡ y.size → On s x → (On s y → ⊥)
    → Before x.place y.place (list_of t i)

-- In a bin of the small array it is the other way round, last in, first out: the chunk y, which the call has put, stands before the chunk x, which
-- was on the chain before
abbrev pub Ahead : State → State → Type 0
Ahead s t =
    (i : ℕ) → i < t.heap.bins → i < small_bins (table_of t.heap)
    → (x y : Entry) → InBin t i x → InBin t i y → On s x → (On s y → ⊥)
    → Before y.place x.place (list_of t i)

-- Two chunks that were in the list of bin i before, and are still, keep their order
abbrev pub Steady : State → State → Type 0
Steady s t =
    (i : ℕ) → i < t.heap.bins
    → (x y : Entry) → InBin t i x → InBin t i y → On s x → On s y → Before x.place y.place (list_of s i)
    → Before x.place y.place (list_of t i)

-- the promise in one state: its lists are in order, and those that any call leaves; what a call puts stands behind its equals, and before them in the
-- small array; what was in a list before, and is still, keeps its order there
pub record OrderAt (way : Way) (s : State) : Type 0 where
  pub now : InOrder s
  pub left : (call : Call) → InOrder (after way call s)
  pub behind : (call : Call) → Behind s (after way call s)
  pub ahead : (call : Call) → Ahead s (after way call s)
  pub steady : (call : Call) → Steady s (after way call s)

-- the promise, on every heap that passes
abbrev pub Order : Way → Type 0
Order way = (s : State) → Passing s → OrderAt way s
