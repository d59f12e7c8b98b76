-- Joining a chunk with its free neighbours (coalescing), and giving it back (manual 5.4; document 01, "The calls": Free).
use Rattle.std.specs.Prelude.{cond, ◌&&◌, List, [], ◌∷◌, ◌++◌, ℕ, ◌-◌, ltb, drop}
use Rattle.lists.specs.Lists.{head_or, last_or, but_last}
use Rattle.record.specs.declared.heap.Heap.{Heap}
use Rattle.record.specs.declared.kinds.Kind.{Kind}
use Rattle.record.specs.declared.kinds.Kind.TheVariants.{Start, InUse, Ordinary, Donor, Top, End}
use Rattle.rules.specs.Shape.{Entry, entry, chunk_end}
use Rattle.rules.specs.Kinds.{kind_of, ordinary_kind, free_kind, unused, outside}
use Rattle.rules.specs.Draft.{Draft, patrols_at, leave_bin, relink, settle}

-- what joining gives: the chain below the joined chunk, that chunk and its kind, the chain above it,
-- and the ordinary chunks that it contains, which have to leave their bins, the lower one first
pub record Joined : Type 0 where
  pub low : List Entry
  pub here : Entry
  pub becomes : Kind
  pub high : List Entry
  pub leaving : List Entry

-- the kind of a chunk that joined one of this kind above it: the new donor, the new top, or ordinary
abbrev pub joined_as : Kind → Kind
joined_as Donor = Donor
joined_as Top = Top
joined_as Ordinary = Ordinary
joined_as Start = Ordinary
joined_as InUse = Ordinary
joined_as End = Ordinary

-- with merging on, an ordinary chunk just below joins, then an ordinary, donor or top chunk just above.
-- Nothing joins a donor below: it is not ordinary
unfoldable pub joining : Heap → List Entry → Entry → List Entry → Joined
joining h low e high =
    let below = last_or outside low in
    let above = head_or outside high in
    let down = h.merge && ordinary_kind (kind_of h below) in
    let up = h.merge && free_kind (kind_of h above) in
    let from = cond down below.place e.place in
    let to = cond up (chunk_end above) (chunk_end e) in
    record {
      low = cond down (but_last low) low;
      here = entry from (to - from) unused;
      becomes = cond up (joined_as (kind_of h above)) Ordinary;
      high = cond up (drop 1 high) high;
      leaving = cond down (below ∷ []) [] ++ cond (up && ordinary_kind (kind_of h above)) (above ∷ []) [];
    }

-- chunks leave their bins, one after the other
abbrev pub leave_bins : List Entry → Draft → Draft
leave_bins [] d = d
leave_bins (e ∷ es) d = leave_bins es (leave_bin e d)

-- a place that the chunk e has swallowed moves down to e; any other stays
unfoldable pub moved_down : Entry → ℕ → ℕ
moved_down e c = cond (ltb e.place c && ltb c (chunk_end e)) e.place c

-- the patrol's place where the chunk e joined others (manual 5.4; document 02, request Two)
abbrev pub swallowing : Entry → Draft → Draft
swallowing e d = patrols_at (moved_down e d.heap.patrol.0) d

-- the chunk e between `low` and `high` is given back: the chunks that it joins leave their bins; the result is linked
-- into the chain and settles as donor, as top or in its bin; it may have swallowed the patrol's place. Headers inside the result
-- stay as stale words
unfoldable pub release : List Entry → Entry → List Entry → Draft → Draft
release low e high d =
    let j = joining d.heap low e high in
    swallowing j.here (settle j.becomes j.here (relink j.low (j.here ∷ []) j.high (leave_bins j.leaving d)))
