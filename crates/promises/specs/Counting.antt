-- Counts (manual 5.7; document 01, "The check"): the check's four counts follow the chain and the lists, and used + free + 16 = heap bytes.
use Rattle.std.specs.Prelude.{◌≡◌, List, ℕ, ◌+◌, ◌*◌, length}
use Rattle.lists.specs.Lists.{keep, total, numbers_from}
use Rattle.record.specs.declared.answers.Answer.TheVariants.{Counted}
use Rattle.record.specs.declared.answers.Counts.{Counts}
use Rattle.record.specs.declared.heap.Heap.{Heap}
use Rattle.rules.specs.Shape.{Entry, shape, bin_list}
use Rattle.rules.specs.Kinds.{end_size, ordinary}
use Rattle.rules.specs.Check.{Passes, used_bytes, free_bytes}
use Rattle.rules.specs.Calls.{Check}
use Rattle.promises.specs.Ways.{Way}

-- the right counts c for a heap with the chain es
pub record Right (ws : List ℕ) (h : Heap) (es : List Entry) (c : Counts) : Type 0 where
  -- all chunks, start and end too
  pub chunks : c.chunks ≡ length es
  -- ordinary chunks; the lists have the same number of members
  pub ordinary : c.ordinary ≡ length (keep (ordinary h) es)
  pub listed : c.ordinary ≡ total (λ i. length (bin_list ws h i)) (numbers_from 0 h.bins)
  -- the chunks of live blocks; the record has the same sum
  pub used : c.used ≡ used_bytes h es
  pub recorded : c.used ≡ h.used
  -- ordinary chunks, donor and top
  pub free : c.free ≡ free_bytes h es
  -- together all bytes but start's and end's
  pub sum : c.used + c.free + 2 * end_size ≡ h.bytes

-- the promise: the check answers with the right counts
abbrev pub Counting : Way → Type 0
Counting way =
    (ws : List ℕ) (h : Heap) → Passes ws h
    → (c : Counts) × ((way Check ws h).answer ≡ Counted c) × Right ws h (shape ws h.bytes) c
