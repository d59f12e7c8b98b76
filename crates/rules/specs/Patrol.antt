-- The patrol (manual 5.9; document 02, request Two): a run handles a given number of chunks, going up from the patrol's place, and mends links and
-- free sizes; refusals 10, 4, 12. It is for damaged heaps, so it does not ask for the check: each chunk is judged by the words as the
-- run finds them. `end` is the place of the end chunk throughout.
use Rattle.std.specs.Prelude.{Bool, true, false, not, cond, ◌&&◌, ◌||◌, List, [], ◌∷◌, ◌++◌, ℕ, zero, suc, ◌+◌, ◌-◌, ◌%◌, eqb, leb, ltb, Option, Some, None}
use Rattle.record.specs.declared.answers.Answer.TheVariants.{Told}
use Rattle.record.specs.declared.answers.Refusal.TheVariants.{HeapFails, RunSize, BeyondMending}
use Rattle.record.specs.declared.heap.Heap.{Heap}
use Rattle.record.specs.Heap.{with_patrol}
use Rattle.record.specs.Table.{least}
use Rattle.region.specs.Words.{Store, put, written, word, forward, backward, size}
use Rattle.rules.specs.Shape.{entry, flags_at}
use Rattle.rules.specs.Kinds.{in_use, end_size}
use Rattle.rules.specs.Check.{fits}
use Rattle.rules.specs.Outcome.{Outcome, Refusals, judged, unchanged}

-- where the backward link of the chunk at c leads: its second word without the flags
abbrev pub back_offset : List ℕ → ℕ → ℕ
back_offset ws c = word ws c backward - flags_at ws c

-- the least distance from the chunk at c to the next one: the start has 8 bytes, every other chunk below the end 24 or more
abbrev pub least_size : ℕ → ℕ
least_size c = cond (eqb c 0) end_size least

-- the forward link v of the chunk at c skips a chunk: the place that it names has a backward link to a place between the two
-- whose own forward link names it
unfoldable pub skips : List ℕ → ℕ → ℕ → Bool
skips ws c v =
    let p = back_offset ws v in
    ltb c p && ltb p v && eqb (word ws p forward) v

-- the forward link v of the chunk at c is broken: it leaves the heap, is no multiple of 8, goes up by less than the least distance,
-- or skips a chunk. Any other is believed
unfoldable pub broken : List ℕ → ℕ → ℕ → ℕ → Bool
broken ws end c v = ltb end v || not (eqb (v % 8) 0) || ltb v (c + least_size c) || skips ws c v

-- the backward walk, which stands at x: the chunk whose backward link names c. There is none, and the link of c is beyond mending,
-- where a backward link leaves the heap, goes down by less than the least distance, or passes below c.
-- The first argument is fuel: `end` steps always suffice, since each goes down
abbrev pub seek_from : ℕ → List ℕ → ℕ → ℕ → Option ℕ
seek_from zero ws c x = None
seek_from (suc steps) ws c x =
    let p : ℕ = back_offset ws x in
    elim (ltb x (p + least_size p) || ltb p c) [
      | true ↦ None
      | false ↦ elim (eqb p c) [ true ↦ Some x | false ↦ seek_from steps ws c p ]
    ]

-- the chunk above c: the one that its forward link names, if it is believed; else the one that the backward walk from the end finds
unfoldable pub next_of : List ℕ → ℕ → ℕ → Option ℕ
next_of ws end c =
    let v : ℕ = word ws c forward in
    elim (broken ws end c v) [ true ↦ seek_from end ws c end | false ↦ Some v ]

-- word k of the chunk at c is to be v: a store where it is not, nothing where it is so already
abbrev pub mend : List ℕ → ℕ → ℕ → ℕ → List Store
mend ws c k v = cond (eqb (word ws c k) v) [] (put c k v ∷ [])

-- the chunk at c is handled, with the next one at v: the two are linked both ways, with v's flags kept; the start's backward link is 0,
-- its flags kept; a free chunk's size word is its size. The start has no size word, whatever its flags say
unfoldable pub mends : List ℕ → ℕ → ℕ → List Store
mends ws c v =
    let e = entry c (v - c) (flags_at ws c) in
    mend ws c forward v
    ++ mend ws v backward (c + flags_at ws v)
    ++ cond (eqb c 0) (mend ws c backward (flags_at ws c)) (cond (in_use e) [] (mend ws c size e.size))

-- what a run comes to: the next chunk to be handled, whether the end chunk was handled, and the stores, in order
pub record Patrolled : Type 0 where
  pub place : ℕ
  pub ended : Bool
  pub stores : List Store

abbrev pub patrolled : ℕ → Bool → List Store → Patrolled
patrolled c ended ss = record { place = c; ended = ended; stores = ss }

-- these stores, then those of the rest of the run
abbrev pub goes_on : List Store → Option Patrolled → Option Patrolled
goes_on ss None = None
goes_on ss (Some r) = Some (patrolled r.place r.ended (ss ++ r.stores))

-- a run of so many chunks from the one at c; none where it meets a link that is beyond mending. Each chunk is handled on the words
-- that the one before it left. The end chunk ends the run, and the next run begins at the start
abbrev pub patrol_from : ℕ → List ℕ → ℕ → ℕ → Option Patrolled
patrol_from zero ws end c = Some (patrolled c false [])
patrol_from (suc chunks) ws end c =
    elim (eqb c end) [
      | true ↦ Some (patrolled 0 true [])
      | false ↦ elim (next_of ws end c) [
        | None ↦ None
        | Some v ↦ goes_on (mends ws c v) (patrol_from chunks (written ws (mends ws c v)) end v)
      ]
    ]

-- the patrol's place is a multiple of 8 from 0 to the end chunk
abbrev pub placed : Heap → Bool
placed h = eqb (h.patrol.0 % 8) 0 && leb (h.patrol.0 + end_size) h.bytes

-- the run that the record asks for
unfoldable pub patrol_run : List ℕ → Heap → ℕ → Option Patrolled
patrol_run ws h chunks = patrol_from chunks ws (h.bytes - end_size) h.patrol.0

abbrev pub is_lost : Option Patrolled → Bool
is_lost None = true
is_lost (Some r) = false

-- the refusals, in their order
abbrev pub patrol_refusals : List ℕ → Heap → ℕ → Refusals
patrol_refusals ws h chunks =
    (eqb chunks 0, RunSize)
    ∷ (not (fits ws h && placed h), HeapFails)
    ∷ (is_lost (patrol_run ws h chunks), BeyondMending)
    ∷ []

-- the outcome of an accepted run: the answer's value is 1 where the end chunk was handled. (Where there is no run the call is refused.)
abbrev pub ran : Heap → Option Patrolled → Outcome
ran h None = unchanged h (Told (Some 0))
ran h (Some r) =
    record { answer = Told (Some (cond r.ended 1 0)); heap = with_patrol h r.place; stores = r.stores }

-- the call
unfoldable pub patrol : List ℕ → Heap → ℕ → Outcome
patrol ws h chunks = judged h (patrol_refusals ws h chunks) (ran h (patrol_run ws h chunks))
