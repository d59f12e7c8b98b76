-- Questions (manual 5.8; document 01, "The calls": Questions; document 02, request One): on a heap that passes, what each of the nine questions
-- about a chunk and of the three about a bin is answered, over the chain and the bins' lists. Where there is no such chunk, block or bin,
-- the answer is none, which is not 0.
use Rattle.std.specs.Prelude.{◌≡◌, true, false, List, [], ◌∷◌, ◌++◌, ℕ, ◌<◌, length, Some, None}
use Rattle.lists.specs.Lists.{Mem}
use Rattle.record.specs.declared.answers.Answer.{Answer}
use Rattle.record.specs.declared.answers.Answer.TheVariants.{Told}
use Rattle.record.specs.declared.heap.Heap.{Heap}
use Rattle.rules.specs.Shape.{Entry, shape, bin_list}
use Rattle.rules.specs.Kinds.{in_use, ordinary, live}
use Rattle.rules.specs.Check.{Passes}
use Rattle.rules.specs.Calls.{AskChunk, AskBin}
use Rattle.promises.specs.Ways.{Way}
use Rattle.promises.specs.Room.{OnChain, HoldsBlock}

-- x stands directly before y in a list; a list starts with x; it ends with x
module _ {A : Type 0} (l : List A) where
  abbrev pub Adjacent : A → A → Type 0
  Adjacent x y = (before : List A) × (after : List A) × (l ≡ before ++ x ∷ y ∷ after)

  abbrev pub StartsWith : A → Type 0
  StartsWith x = (after : List A) × (l ≡ x ∷ after)

  abbrev pub EndsWith : A → Type 0
  EndsWith x = (before : List A) × (l ≡ before ++ x ∷ [])

-- the answers to question q: about the chunk, or for question 3 the block, at p; and about bin i
module _ (way : Way) (ws : List ℕ) (h : Heap) (q : ℕ) where
  abbrev pub of_chunk : ℕ → Answer
  of_chunk p = (way (AskChunk q p) ws h).answer

  abbrev pub of_bin : ℕ → Answer
  of_bin i = (way (AskBin q i) ws h).answer

-- the promise on one heap; questions are in the order of their numbers, neighbours together
pub record TellingAt (way : Way) (ws : List ℕ) (h : Heap) : Type 0 where
  -- 1: the bin in whose list the chunk is; none if it is not ordinary: start, end, in use, donor and top
  pub bin : (i c : ℕ) → i < h.bins → Mem c (bin_list ws h i) → of_chunk way ws h 1 c ≡ Told (Some i)
  pub no_bin : (e : Entry) → OnChain ws h e → ordinary h e ≡ false → of_chunk way ws h 1 e.place ≡ Told None
  -- 2: its block; none if it has no live one: free chunks, start and end
  pub block : (b : ℕ) (e : Entry) → HoldsBlock ws h b e → of_chunk way ws h 2 e.place ≡ Told (Some b)
  pub no_block : (e : Entry) → OnChain ws h e → live h e ≡ false → of_chunk way ws h 2 e.place ≡ Told None
  -- 3: the chunk of a live block
  pub holder : (b : ℕ) (e : Entry) → HoldsBlock ws h b e → of_chunk way ws h 3 b ≡ Told (Some e.place)
  -- 4 and 6: the next and the previous chunk of the chain; none after the last and before the first
  pub next : (e d : Entry) → Adjacent (shape ws h.bytes) e d → of_chunk way ws h 4 e.place ≡ Told (Some d.place)
  pub no_next : (e : Entry) → EndsWith (shape ws h.bytes) e → of_chunk way ws h 4 e.place ≡ Told None
  pub previous : (e d : Entry) → Adjacent (shape ws h.bytes) e d → of_chunk way ws h 6 d.place ≡ Told (Some e.place)
  pub no_previous : (e : Entry) → StartsWith (shape ws h.bytes) e → of_chunk way ws h 6 e.place ≡ Told None
  -- 5 and 7: the next and the previous chunk in the bin's list; none after the last, before the first, and for a chunk in no list
  pub next_in_bin : (i c d : ℕ) → i < h.bins → Adjacent (bin_list ws h i) c d → of_chunk way ws h 5 c ≡ Told (Some d)
  pub no_next_in_bin : (i c : ℕ) → i < h.bins → EndsWith (bin_list ws h i) c → of_chunk way ws h 5 c ≡ Told None
  pub previous_in_bin : (i c d : ℕ) → i < h.bins → Adjacent (bin_list ws h i) c d → of_chunk way ws h 7 d ≡ Told (Some c)
  pub no_previous_in_bin : (i c : ℕ) → i < h.bins → StartsWith (bin_list ws h i) c → of_chunk way ws h 7 c ≡ Told None
  pub not_listed : (e : Entry) → OnChain ws h e → ordinary h e ≡ false
      → (of_chunk way ws h 5 e.place ≡ Told None) × (of_chunk way ws h 7 e.place ≡ Told None)
  -- 8: its size
  pub size : (e : Entry) → OnChain ws h e → of_chunk way ws h 8 e.place ≡ Told (Some e.size)
  -- 9: its type
  pub used : (e : Entry) → OnChain ws h e → in_use e ≡ true → of_chunk way ws h 9 e.place ≡ Told (Some 1)
  pub free : (e : Entry) → OnChain ws h e → in_use e ≡ false → of_chunk way ws h 9 e.place ≡ Told (Some 0)
  -- of a bin, 1: how many chunks its list has; 2: the first, 3: the last; none if the list is empty
  pub count : (i : ℕ) → i < h.bins → of_bin way ws h 1 i ≡ Told (Some (length (bin_list ws h i)))
  pub first : (i c : ℕ) → i < h.bins → StartsWith (bin_list ws h i) c → of_bin way ws h 2 i ≡ Told (Some c)
  pub no_first : (i : ℕ) → i < h.bins → bin_list ws h i ≡ [] → of_bin way ws h 2 i ≡ Told None
  pub last : (i c : ℕ) → i < h.bins → EndsWith (bin_list ws h i) c → of_bin way ws h 3 i ≡ Told (Some c)
  pub no_last : (i : ℕ) → i < h.bins → bin_list ws h i ≡ [] → of_bin way ws h 3 i ≡ Told None

-- the promise, on every heap that passes
abbrev pub Telling : Way → Type 0
Telling way = (ws : List ℕ) (h : Heap) → Passes ws h → TellingAt way ws h
