-- The fourteen proved cases (manual 13; document 01, "The demonstration" and "Both sides") as one table:
-- the region, the calls before, the call, and every fact that the document states of it. Then cases of our own for the donor, for the order in bins and for
-- the fit.
use Rattle.std.specs.Prelude.{Bool, true, false, cond, ◌&&◌, List, [], ◌∷◌, ℕ, ◌-◌, eqb, ℤ, pos, negsuc, length, replicate, take, get_or}
use Rattle.lists.specs.Lists.{any, every}
use Rattle.record.specs.declared.heap.Heap.{Heap}
use Rattle.record.specs.Answers.{Figures, figures, no_counts, figures_of}
use Rattle.record.specs.Heap.{empty}
use Rattle.region.specs.Words.{written, word}
use Rattle.record.specs.declared.kinds.Kind.{Kind}
use Rattle.record.specs.declared.kinds.Kind.TheVariants.{Start, InUse, Ordinary, Donor, Top, End}
use Rattle.rules.specs.Shape.{shape, bin_list}
use Rattle.rules.specs.Kinds.{kind_of}
use Rattle.rules.specs.Check.{passes}
use Rattle.rules.specs.Outcome.{Outcome}
use Rattle.rules.specs.Calls.{Call, Setup, Allocate, Free, Reallocate, SetMerge, step, State, run}

-- what the document states of a case
pub data Fact : Type 0 where
  -- accepted: offset, change
  Gives : ℕ → ℤ → Fact
  -- refused with this number; all other figures are 0, no word and no field changes
  Refuses : ℕ → Fact
  -- the same of setup, which then gives an empty record
  RefusesSetup : ℕ → Fact
  -- the heap passes the check
  Sound : Fact
  -- heap bytes, bin count, used bytes
  Record : ℕ → ℕ → ℕ → Fact
  -- the chain has a chunk at this place, of this size and kind
  Chunk : ℕ → ℕ → Kind → Fact
  -- the chain has so many chunks
  Chunks : ℕ → Fact
  -- the list of this bin
  Bin : ℕ → List ℕ → Fact
  -- the word at this byte offset
  Word : ℕ → ℕ → Fact

-- `words` is the region's length
pub record Case : Type 0 where
  pub words : ℕ
  pub before : List Call
  pub call : Call
  pub facts : List Fact

abbrev pub given : ℕ → List Call → Call → List Fact → Case
given words before call facts = record { words = words; before = before; call = call; facts = facts }

-- the demonstration: 64 words, a donor of 64 bytes, merging on, and eleven calls
abbrev pub opening : Call
opening = Setup (24 ∷ 32 ∷ 40 ∷ 128 ∷ []) 64 true

abbrev pub turns : List Call
turns =
    Allocate 16 ∷ Allocate 17 ∷ Allocate 40 ∷ Allocate 64 ∷ Allocate 16 ∷ Free 80 ∷ Free 112 ∷ Free 112
    ∷ Allocate 16 ∷ Reallocate 160 40 ∷ Reallocate 16 32 ∷ []

-- call number k of the eleven
abbrev pub turn : ℕ → List Fact → Case
turn k facts = given 64 (opening ∷ take (k - 1) turns) (get_or turns (k - 1) opening) facts

-- the table: the eleven calls, setup of 9 and of 10 words, and a size above the greatest
abbrev pub cases : List Case
cases =
    turn 1 (Gives 16 (pos 24) ∷ Chunk 8 24 InUse ∷ Chunk 32 40 Donor ∷ Sound ∷ [])
    ∷ turn 2 (Gives 80 (pos 32) ∷ Chunk 72 32 InUse ∷ Chunk 104 144 Top ∷ Sound ∷ [])
    ∷ turn 3 (Gives 112 (pos 48) ∷ Chunk 104 48 InUse ∷ Chunk 152 96 Top ∷ Sound ∷ [])
    ∷ turn 4 (Gives 160 (pos 72) ∷ Chunk 152 72 InUse ∷ Chunk 224 24 Top ∷ Sound ∷ [])
    ∷ turn 5 (Refuses 7 ∷ [])
    ∷ turn 6 (Gives 0 (negsuc 31) ∷ Chunk 72 32 Ordinary ∷ Bin 1 (72 ∷ []) ∷ Sound ∷ [])
    ∷ turn 7
    (Gives 0 (negsuc 47) ∷ Chunk 72 80 Ordinary ∷ Bin 1 [] ∷ Bin 2 (72 ∷ []) ∷ Word 108 73 ∷ Sound ∷ [])
    ∷ turn 8 (Refuses 6 ∷ Word 108 73 ∷ [])
    ∷ turn 9
    (Gives 80 (pos 24)
    ∷ Record 256 4 120
    ∷ Chunk 0 8 Start
    ∷ Chunk 8 24 InUse
    ∷ Chunk 32 40 Donor
    ∷ Chunk 72 24 InUse
    ∷ Chunk 96 56 Ordinary
    ∷ Bin 2 (96 ∷ [])
    ∷ Chunk 152 72 InUse
    ∷ Chunk 224 24 Top
    ∷ Chunk 248 8 End
    ∷ Chunks 8
    ∷ Sound
    ∷ [])
    ∷ turn 10 (Gives 160 (negsuc 23) ∷ Chunk 152 48 InUse ∷ Chunk 200 48 Top ∷ Sound ∷ [])
    ∷ turn 11 (Gives 104 (pos 32) ∷ Chunk 96 56 InUse ∷ Bin 2 [] ∷ Chunk 8 64 Donor ∷ Sound ∷ [])
    ∷ given 9 [] (Setup (24 ∷ 32 ∷ 40 ∷ 128 ∷ []) 0 true) (RefusesSetup 1 ∷ [])
    ∷ given 10 [] (Setup (24 ∷ 32 ∷ 40 ∷ 128 ∷ []) 0 true)
    (Gives 0 (pos 0) ∷ Record 40 4 0 ∷ Chunk 0 8 Start ∷ Chunk 8 24 Top ∷ Chunk 32 8 End ∷ Chunks 3 ∷ Sound ∷ [])
    ∷ given 64 (opening ∷ []) (Allocate 65489) (Refuses 5 ∷ [])
    ∷ []

-- The donor for a need that is not small (manual 5.2; document 02, request Four), on the demonstration's fresh heap, whose donor has 64 bytes:
-- it stays whole as long as the top serves; where the top has too little it serves 40 bytes, which leave it 24, and not 48
abbrev pub donor_cases : List Case
donor_cases =
    given 64 (opening ∷ []) (Allocate 32) (Gives 80 (pos 40) ∷ Chunk 8 64 Donor ∷ Chunk 112 136 Top ∷ Sound ∷ [])
    ∷ given 64 (opening ∷ Allocate 112 ∷ []) (Allocate 32)
    (Gives 16 (pos 40) ∷ Chunk 8 40 InUse ∷ Chunk 48 24 Donor ∷ Chunk 192 56 Top ∷ Sound ∷ [])
    ∷ given 64 (opening ∷ Allocate 112 ∷ []) (Allocate 33) (Refuses 7 ∷ [])
    ∷ []

-- The order in bin 2, which is outside the small array (manual 3.3; document 02, request Five), with merging off: a freed chunk of 40 bytes goes behind one of
-- 40, and before one of 48; the rest of a cut and the tail of a resize, 48 bytes each, go before a chunk of 104. The small bin 1 is last in, first out
abbrev pub order_cases : List Case
order_cases =
    given 64 (opening ∷ Allocate 32 ∷ Allocate 32 ∷ SetMerge false ∷ Free 80 ∷ []) (Free 120) (Bin 2 (72 ∷ 112 ∷ []) ∷ Sound ∷ [])
    ∷ given 64 (opening ∷ Allocate 40 ∷ Allocate 32 ∷ SetMerge false ∷ Free 80 ∷ []) (Free 128) (Bin 2 (120 ∷ 72 ∷ []) ∷ Sound ∷ [])
    ∷ given 128 (opening ∷ Allocate 96 ∷ Allocate 96 ∷ SetMerge false ∷ Free 80 ∷ Free 184 ∷ []) (Allocate 48)
    (Chunk 128 48 Ordinary ∷ Bin 2 (128 ∷ 176 ∷ []) ∷ Sound ∷ [])
    ∷ given 128 (opening ∷ Allocate 96 ∷ Allocate 96 ∷ SetMerge false ∷ Free 184 ∷ []) (Reallocate 80 48)
    (Chunk 128 48 Ordinary ∷ Bin 2 (128 ∷ 176 ∷ []) ∷ Sound ∷ [])
    ∷ given 64 (opening ∷ Allocate 24 ∷ Allocate 24 ∷ SetMerge false ∷ Free 16 ∷ []) (Free 80) (Bin 1 (72 ∷ 8 ∷ []) ∷ Sound ∷ [])
    ∷ []

-- The fit (manual 5.2; document 02, request Six), with merging off and chunks of 48 and 40 bytes, at 72 and 120, in bin 2. For 40 bytes the one of 40 is taken; so
-- it is, whole, for 24 bytes that neither bin 0 nor the donor can serve. A chunk of 24 bytes in bin 0 is taken before one of bin 2
abbrev pub fit_cases : List Case
fit_cases =
    given 64 (opening ∷ Allocate 40 ∷ Allocate 32 ∷ SetMerge false ∷ Free 80 ∷ Free 128 ∷ []) (Allocate 32)
    (Gives 128 (pos 40) ∷ Bin 2 (72 ∷ []) ∷ Sound ∷ [])
    ∷ given 64 (opening ∷ Allocate 16 ∷ Allocate 40 ∷ Allocate 32 ∷ SetMerge false ∷ Free 80 ∷ Free 128 ∷ []) (Allocate 16)
    (Gives 128 (pos 40) ∷ Chunk 32 40 Donor ∷ Bin 2 (72 ∷ []) ∷ Sound ∷ [])
    ∷ given 64 (opening ∷ Allocate 16 ∷ Allocate 40 ∷ SetMerge false ∷ Free 16 ∷ Free 80 ∷ []) (Allocate 16)
    (Gives 16 (pos 24) ∷ Bin 0 [] ∷ Bin 2 (72 ∷ []) ∷ Sound ∷ [])
    ∷ []

-- Tests of facts.

abbrev same_int : ℤ → ℤ → Bool
same_int (pos a) (pos b) = eqb a b
same_int (pos a) (negsuc b) = false
same_int (negsuc a) (pos b) = false
same_int (negsuc a) (negsuc b) = eqb a b

abbrev same_list : List ℕ → List ℕ → Bool
same_list [] [] = true
same_list [] (b ∷ bs) = false
same_list (a ∷ al) [] = false
same_list (a ∷ al) (b ∷ bs) = eqb a b && same_list al bs

abbrev same_bool : Bool → Bool → Bool
same_bool a b = cond a b (cond b false true)

abbrev kind_number : Kind → ℕ
kind_number Start = 0
kind_number InUse = 1
kind_number Ordinary = 2
kind_number Donor = 3
kind_number Top = 4
kind_number End = 5

abbrev same_heap : Heap → Heap → Bool
same_heap g h =
    eqb g.bytes h.bytes && eqb g.bins h.bins
    && same_list g.sizes h.sizes && same_list g.heads h.heads && same_list g.tails h.tails
    && eqb g.donor.0 h.donor.0 && eqb g.top.0 h.top.0
    && same_bool g.merge h.merge && eqb g.used h.used && eqb g.patrol.0 h.patrol.0

abbrev same_figures : Figures → Figures → Bool
same_figures f g =
    eqb f.refusal g.refusal && eqb f.offset g.offset && eqb f.value g.value
    && same_bool f.is_none g.is_none && same_int f.change g.change
    && eqb f.counts.chunks g.counts.chunks && eqb f.counts.ordinary g.counts.ordinary
    && eqb f.counts.used g.counts.used && eqb f.counts.free g.counts.free

abbrev refuses : ℕ → Heap → Outcome → Bool
refuses r h o =
    same_figures (figures_of o.answer) (figures r 0 0 false (pos 0) no_counts)
    && same_heap o.heap h && eqb (length o.stores) 0

abbrev holds : State → Outcome → Fact → Bool
holds s o (Gives offset change) =
    same_figures (figures_of o.answer) (figures 0 offset 0 false change no_counts)
holds s o (Refuses r) = refuses r s.heap o
holds s o (RefusesSetup r) = refuses r empty o
holds s o Sound = passes (written s.words o.stores) o.heap
holds s o (Record bytes bins used) =
    eqb o.heap.bytes bytes && eqb o.heap.bins bins && eqb o.heap.used used
holds s o (Chunk place size kind) =
    any
    (λ e. eqb e.place place && eqb e.size size && eqb (kind_number (kind_of o.heap e)) (kind_number kind))
    (shape (written s.words o.stores) o.heap.bytes)
holds s o (Chunks n) = eqb (length (shape (written s.words o.stores) o.heap.bytes)) n
holds s o (Bin i cs) = same_list (bin_list (written s.words o.stores) o.heap i) cs
holds s o (Word offset value) = eqb (word (written s.words o.stores) offset 0) value

-- a lent region may hold anything: here every bit is set
abbrev lent : ℕ → State
lent n = record { words = replicate n 4294967295; heap = empty }

-- all that is stated of a case holds
unfoldable pub case_holds : Case → Bool
case_holds c =
    let s = run c.before (lent c.words) in
    let o = step c.call s.words s.heap in
    every (holds s o) c.facts
