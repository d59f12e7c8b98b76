-- The chunk of a live block shrinks: the part that it keeps, the tail that is given back, and the draft after the kept part's
-- forward link is stored. The tail has no header in the words: it was never a chunk of the chain. Assumes nothing.
use mathlib.Core.Path.{◌≡◌}
use mathlib.Core.List.{List, [], ◌∷◌, ◌++◌}
use Prim.Native.Nat.{ℕ, ◌+◌, ◌-◌, ◌%◌, ◌≤◌}
use Rattle.record.specs.declared.heap.Heap.{Heap}
use Rattle.region.specs.Words.{Store, put, written, forward}
use Rattle.rules.specs.Shape.{Entry, entry}
use Rattle.rules.specs.Kinds.{used}
use Rattle.rules.specs.Draft.{Draft, as_read, also_writes}
use Rattle.rules.specs.Join.{release}
use Rattle.drafts.proofs.JoinLaws.{LiveChunk}

-- the chunk e of a live block keeps n bytes, and its tail is large enough for a chunk
pub record ShrinkingChunk (ws : List ℕ) (h : Heap) (low : List Entry) (e : Entry) (high : List Entry) (n : ℕ) : Type 0 where
  pub chunk : LiveChunk ws h low e high
  pub large : 24 ≤ n
  pub eight : n % 8 ≡ 0
  pub less : n + 24 ≤ e.size

module _ {ws : List ℕ} {h : Heap} {low : List Entry} {e : Entry} {high : List Entry} {n : ℕ} (shrinks : ShrinkingChunk ws h low e high n) where
  abbrev pub kept_chunk : Entry
  kept_chunk = entry e.place n used

  abbrev pub tail_chunk : Entry
  tail_chunk = entry (e.place + n) (e.size - n) used

  abbrev pub split_stores : List Store
  split_stores = put e.place forward (e.place + n) ∷ []

  -- the words and the draft after that store
  abbrev pub split_words : List ℕ
  split_words = written ws split_stores

  abbrev pub split_draft : Draft
  split_draft = also_writes split_stores (as_read ws h)

  -- the draft after the tail is given back
  abbrev pub tail_after : Draft
  tail_after = release (low ++ kept_chunk ∷ []) tail_chunk high split_draft
