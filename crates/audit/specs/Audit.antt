-- The check as the code makes it: length and table first, then the two walks on the even part of the region.
-- It mirrors the code; that it is the check of the rules, on every region and record, is proved.
use Rattle.std.specs.Prelude.{◌≡◌, Bool, true, false, not, ◌&&◌, ◌||◌, List, Option, Some, None, ℕ, ◌+◌, ◌%◌, ◌^◌, eqb, leb, length, take}
use Rattle.lists.specs.Lists.{total, numbers_from}
use Rattle.marks.specs.Marks.{clear}
use Rattle.record.specs.declared.answers.Answer.{Answer}
use Rattle.record.specs.declared.answers.Answer.TheVariants.{Counted, Refused}
use Rattle.record.specs.declared.answers.Counts.{Counts}
use Rattle.record.specs.declared.answers.Refusal.TheVariants.{HeapFails}
use Rattle.record.specs.declared.heap.Heap.{Heap}
use Rattle.record.specs.declared.heap.Summary.{Summary}
use Rattle.record.specs.Heap.{places}
use Rattle.record.specs.Table.{valid_table}
use Rattle.rules.specs.Check.{unused_from, passes, counts_of}
use Rattle.rules.specs.Shape.{shape}
use Rattle.survey.specs.declared.Tally.{Tally}
use Rattle.survey.specs.Survey.{whole_chain, mark_all, tally_of}
use Rattle.sweep.specs.Sweep.{list_at, all_whole}

-- each of the record's three arrays has its places
pub record HasPlaces (sizes heads tails : List ℕ) : Type 0 where
  pub size_places : length sizes ≡ places
  pub head_places : length heads ≡ places
  pub tail_places : length tails ≡ places

unfoldable pub is_tabled_m : ℕ → List ℕ → List ℕ → List ℕ → Bool
is_tabled_m bins sizes heads tails =
    leb bins (length sizes) && valid_table (take bins sizes) && unused_from bins sizes && unused_from bins heads
    && unused_from bins tails

unfoldable pub is_settled_m : Tally → Summary → Bool
is_settled_m t s =
    not (eqb t.tops 0) && (eqb s.donor.0 0 || not (eqb t.donors 0))

-- the used bytes of the record, so many free bytes, and start and end together are the heap bytes
unfoldable pub is_shared_m : ℕ → Summary → Bool
is_shared_m free s = eqb (free + s.used + 16) s.bytes

-- the words, the table, the heads and the tails that the walks are lent, and the summary
module _ (ws table heads tails : List ℕ) (s : Summary) where
  abbrev pub tally : Tally
  tally = tally_of s (shape ws s.bytes)

  abbrev pub marks_of : List ℕ
  marks_of = mark_all s clear (shape ws s.bytes)

  abbrev pub met_all : ℕ
  met_all = total (λ i. length (list_at ws table heads tails s.bytes i)) (numbers_from 0 (length table)) % 2 ^ 32

  abbrev pub counts_in : Counts
  counts_in = record { chunks = tally.chunks; ordinary = tally.ordinary; used = s.used; free = tally.free }

  -- both walks come through, and what they count agrees
  unfoldable pub walks_well : Bool
  walks_well =
      whole_chain ws s
      && is_settled_m tally s
      && is_shared_m tally.free s
      && all_whole ws table heads tails s.bytes marks_of (numbers_from 0 (length table))
      && eqb met_all tally.ordinary

  unfoldable pub WalkedIs : Option Counts → Type 0
  WalkedIs None = walks_well ≡ false
  WalkedIs (Some c) = (walks_well ≡ true) × (c ≡ counts_in)

-- what the check finds: it decides `passes`, and the counts are the rules'
unfoldable pub AuditIs : List ℕ → Heap → Option Counts → Type 0
AuditIs ws h None = passes ws h ≡ false
AuditIs ws h (Some c) = (passes ws h ≡ true) × (c ≡ counts_of h (shape ws h.bytes))

-- the check's answer, by what was found
unfoldable pub answer_of : Option Counts → Answer
answer_of (Some c) = Counted c
answer_of None = Refused HeapFails
