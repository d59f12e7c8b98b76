-- Questions about a chunk and about a bin (manual 5.8; document 01, "The calls": Questions); refusals 4, then 8.
-- What is asked for is a value or none, and none is not 0 (manual 5.8; document 02, request One): 0 is the start's place and a bin's number.
use Rattle.std.specs.Prelude.{Bool, true, false, not, cond, ◌&&◌, ◌||◌, List, [], ◌∷◌, map, ℕ, ◌-◌, eqb, leb, ltb, length, get_or, Option, Some, None}
use Rattle.lists.specs.Lists.{last_or, any, up_to, past}
use Rattle.record.specs.declared.answers.Answer.{Answer}
use Rattle.record.specs.declared.answers.Answer.TheVariants.{Told}
use Rattle.record.specs.declared.answers.Refusal.{Refusal}
use Rattle.record.specs.declared.answers.Refusal.TheVariants.{NotThere}
use Rattle.record.specs.declared.heap.Heap.{Heap}
use Rattle.record.specs.Heap.{table_of}
use Rattle.record.specs.Table.{bin_of}
use Rattle.rules.specs.Shape.{Entry}
use Rattle.rules.specs.Kinds.{ordinary, live, block_of, is_at}
use Rattle.rules.specs.Draft.{Draft, as_read, Spot, spot}
use Rattle.rules.specs.Outcome.{Outcome, Refusals, judged, heap_fails, unchanged}
use Rattle.rules.specs.Free.{is_live, block_spot}

-- answers that may be absent: a value under a condition, the first and the last of a list; and the list of a bin, empty where there is no bin
abbrev pub only_if : Bool → ℕ → Option ℕ
only_if true v = Some v
only_if false v = None

abbrev pub first_in : List ℕ → Option ℕ
first_in [] = None
first_in (c ∷ cs) = Some c

abbrev pub last_in : List ℕ → Option ℕ
last_in [] = None
last_in (c ∷ cs) = Some (last_or c cs)

abbrev pub list_of : Draft → Option ℕ → List ℕ
list_of d (Some i) = d.lists i
list_of d None = []

-- the bin of a chunk; there is none for one in use, the donor and the top
abbrev pub bin_of_chunk : Draft → Entry → Option ℕ
bin_of_chunk d e = cond (ordinary d.heap e) (bin_of (table_of d.heap) e.size) None

-- the chunks before and after a chunk in its bin's list
abbrev pub before_in_bin : Draft → Entry → List ℕ
before_in_bin d e = up_to (eqb e.place) (list_of d (bin_of_chunk d e))

abbrev pub after_in_bin : Draft → Entry → List ℕ
after_in_bin d e = past (eqb e.place) (list_of d (bin_of_chunk d e))

abbrev pub places_of : List Entry → List ℕ
places_of es = map (λ (e : Entry). e.place) es

-- the answers to questions 1 to 9: bin number; block (none for a free chunk, start and end); chunk of a live block;
-- next (none for the end); next in bin; previous (none for the start); previous in bin; size; type (free 0, in use 1)
abbrev pub chunk_answers : Draft → Spot → List (Option ℕ)
chunk_answers d s =
    let e = s.here in
    bin_of_chunk d e
    ∷ only_if (live d.heap e) (block_of e)
    ∷ Some e.place
    ∷ first_in (places_of s.high)
    ∷ first_in (after_in_bin d e)
    ∷ last_in (places_of s.low)
    ∷ last_in (before_in_bin d e)
    ∷ Some e.size
    ∷ Some e.flags
    ∷ []

-- the answers to questions 1 to 3 about a bin: count of chunks, first, last
abbrev pub bin_answers : List ℕ → List (Option ℕ)
bin_answers cs = Some (length cs) ∷ first_in cs ∷ last_in cs ∷ []

-- question 3 is asked of a live block, every other of a chunk
abbrev pub asked_spot : Draft → ℕ → ℕ → Spot
asked_spot d q p = cond (eqb q 3) (block_spot d p) (spot (is_at p) d.chain)

abbrev pub is_there : Draft → ℕ → ℕ → Bool
is_there d q p = cond (eqb q 3) (is_live d p) (any (is_at p) d.chain)

-- there is a question q
abbrev pub is_asked : ℕ → List (Option ℕ) → Bool
is_asked q answers = leb 1 q && leb q (length answers)

-- the answer to question q
abbrev pub answer_to : ℕ → List (Option ℕ) → Answer
answer_to q answers = Told (get_or answers (q - 1) None)

-- the refusals in their order, behind `fails`, that of a heap that fails; `there` says whether the chunk, block or bin exists
abbrev pub ask_refusals : Bool × Refusal → ℕ → List (Option ℕ) → Bool → Refusals
ask_refusals fails q answers there = fails ∷ (not (is_asked q answers) || not there, NotThere) ∷ []

-- the outcome of an accepted question, which changes nothing
abbrev pub asked : Heap → ℕ → List (Option ℕ) → Outcome
asked h q answers = unchanged h (answer_to q answers)

-- question q about the chunk at p, or about the live block there
unfoldable pub ask_chunk : List ℕ → Heap → ℕ → ℕ → Outcome
ask_chunk ws h q p =
    let d = as_read ws h in
    let answers = chunk_answers d (asked_spot d q p) in
    judged h (ask_refusals (heap_fails ws h) q answers (is_there d q p)) (asked h q answers)

-- question q about bin i
unfoldable pub ask_bin : List ℕ → Heap → ℕ → ℕ → Outcome
ask_bin ws h q i =
    let answers = bin_answers ((as_read ws h).lists i) in
    judged h (ask_refusals (heap_fails ws h) q answers (ltb i h.bins)) (asked h q answers)
