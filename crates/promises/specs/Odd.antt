-- Odd (manual 2.1; document 01, "Words, chunks, blocks"): no call reads or writes an odd last word of the region.
use Rattle.std.specs.Prelude.{◌≡◌, List, ℕ, ◌*◌, ◌/◌, length, take, drop}
use Rattle.record.specs.declared.heap.Heap.{Heap}
use Rattle.rules.specs.Calls.{Call}
use Rattle.promises.specs.Ways.{Way}

-- the region without an odd last word; and that word, if there is one
abbrev pub even_words : List ℕ → List ℕ
even_words ws = take (length ws / 2 * 2) ws

abbrev pub odd_word : List ℕ → List ℕ
odd_word ws = drop (length ws / 2 * 2) ws

-- two regions of the same length that differ at most in an odd last word
pub record AlikeButOdd (us vs : List ℕ) : Type 0 where
  pub length : length us ≡ length vs
  pub words : even_words us ≡ even_words vs

-- the promise
pub record Odd (way : Way) : Type 0 where
  -- not read: on two such regions a call gives the same answer and the same record, and leaves two such regions
  pub answer : (call : Call) (h : Heap) (us vs : List ℕ) → AlikeButOdd us vs
      → (way call us h).answer ≡ (way call vs h).answer
  pub heap : (call : Call) (h : Heap) (us vs : List ℕ) → AlikeButOdd us vs
      → (way call us h).heap ≡ (way call vs h).heap
  pub words : (call : Call) (h : Heap) (us vs : List ℕ) → AlikeButOdd us vs
      → AlikeButOdd (way call us h).words (way call vs h).words
  -- not written
  pub kept : (call : Call) (h : Heap) (ws : List ℕ) → odd_word (way call ws h).words ≡ odd_word ws
