-- The tests of one chunk, kind by kind. That together they are the check's facts is proved, and that the code's fewer comparisons
-- come to the same; nobody need believe them.
use Rattle.std.specs.Prelude.{◌≡◌, ℕ, ◌+◌, ◌-◌, ◌/◌, ◌%◌, ◌<◌, ◌≤◌, Bool, ◌&&◌, List, Option, length, ◌==◌, nat_le, nat_lt}
use Rattle.std.specs.Bool.{then_some}
use Rattle.chain.specs.Chain.{kind_m}
use Rattle.record.specs.declared.heap.Summary.{Summary}
use Rattle.record.specs.declared.kinds.Kind.{Kind}
use Rattle.record.specs.declared.kinds.Kind.TheVariants.{Start, InUse, Ordinary, Donor, Top, End}
use Rattle.region.specs.Words.{word, forward, backward, size, bin}
use Rattle.rules.specs.Check.{unbinned}
use Rattle.rules.specs.Shape.{Entry, entry}
use Rattle.survey.specs.declared.visit.Visit.{Visit}

-- the visit has the two words of its chunk as they stand
pub record HasRead (ws : List ℕ) (v : Visit) : Type 0 where
  pub next : v.next ≡ word ws v.chunk.0 forward
  pub link : v.link ≡ word ws v.chunk.0 backward

-- the chunk as an entry of the chain, which ends at its forward link
abbrev pub entry_of : Visit → Entry
entry_of v = entry v.chunk.0 (v.next - v.chunk.0) (v.link % 8)

-- the chain goes on behind the chunk, and not past the limit
unfoldable pub goes_on_m : Visit → ℕ → Bool
goes_on_m v limit = v.next % 8 == 0 && nat_le (v.chunk.0 + 24) v.next && nat_le v.next limit

-- the start chunk by its two words
unfoldable pub is_first_m : ℕ → ℕ → Bool
is_first_m next link = next == 8 && link == 1

-- the chunk is the end chunk
unfoldable pub is_last_m : Visit → ℕ → Bool
is_last_m v last = v.chunk.0 == last && v.next == 0 && v.link == v.before.0 + 1

-- a chunk behind which the chain goes on
pub record Followed (ws : List ℕ) (s : Summary) (v : Visit) : Type 0 where
  -- the six words of its header are inside the region
  pub header : v.chunk.0 / 4 + bin < length ws
  pub room : v.chunk.0 + 24 ≤ v.next
  pub below : v.next + 8 ≤ s.bytes

-- a chunk at c with this second word follows one at p
unfoldable pub is_backed_m : ℕ → ℕ → ℕ → Bool
is_backed_m link p c = c % 8 == 0 && nat_le (link % 8) 1 && link - link % 8 == p

unfoldable pub is_sized_m : List ℕ → ℕ → ℕ → Bool
is_sized_m ws c z = nat_le 24 z && word ws c size == z

unfoldable pub is_start_m : ℕ → ℕ → Bool
is_start_m z f = z == 8 && f == 1

unfoldable pub is_end_m : List ℕ → ℕ → ℕ → Bool
is_end_m ws c f = f == 1 && word ws c forward == 0

unfoldable pub is_donor_m : List ℕ → Summary → ℕ → Bool
is_donor_m ws s c = unbinned ws c && nat_lt s.donor.0 s.top.0

-- a top at c whose forward link is `next`
unfoldable pub is_top_m : List ℕ → Summary → ℕ → ℕ → Bool
is_top_m ws s c next = unbinned ws c && next + 8 == s.bytes

-- what a chunk of each kind must be besides
abbrev pub is_sound_m : List ℕ → Summary → Entry → Kind → Bool
is_sound_m ws s e Start = is_start_m e.size e.flags
is_sound_m ws s e InUse = nat_le 24 e.size
is_sound_m ws s e Ordinary = is_sized_m ws e.place e.size
is_sound_m ws s e Donor = is_sized_m ws e.place e.size && is_donor_m ws s e.place
is_sound_m ws s e Top = is_sized_m ws e.place e.size && is_top_m ws s e.place (e.place + e.size)
is_sound_m ws s e End = is_end_m ws e.place e.flags

-- a chunk that follows one at p is sound
unfoldable pub sound_at : List ℕ → Summary → ℕ → Entry → Bool
sound_at ws s p e = is_backed_m (word ws e.place backward) p e.place && is_sound_m ws s e (kind_m s e)

-- what a look at a chunk finds: its kind, or that something is wrong
unfoldable pub examine_m : List ℕ → Summary → Visit → Option Kind
examine_m ws s v =
    let kind = kind_m s (entry_of v) in
    then_some (is_backed_m v.link v.before.0 v.chunk.0 && is_sound_m ws s (entry_of v) kind) kind
