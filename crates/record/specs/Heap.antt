-- The record (manual 3.4; document 01, "The bin table and the record"): its empty value, its summary, its setters, its table and its places
-- for bins. All the fields are listed in this file, in the record of a fresh heap and in the flat record of the C interface alone:
-- every other definition names the fields that it uses.
use Rattle.std.specs.Prelude.{ℕ, ◌≡◌, Bool, false, List, replicate, take}
use Rattle.region.specs.declared.Chunk.{Chunk}
use Rattle.record.specs.declared.heap.Ends.{Ends}
use Rattle.record.specs.declared.heap.Heap.{Heap}
use Rattle.record.specs.declared.heap.Summary.{Summary}

-- the most bins: the record's arrays of sizes, heads and tails have this length
abbrev pub places : ℕ
places = 32

-- a chunk's place, in the code's type
abbrev pub at : ℕ → Chunk
at c = record { 0 = c }

-- heads or tails when all bins are empty
abbrev pub zeros : List ℕ
zeros = replicate places 0

-- the record of zeros that a refused setup gives
abbrev pub empty : Heap
empty =
    record {
      bytes = 0;
      bins = 0;
      sizes = zeros;
      heads = zeros;
      tails = zeros;
      donor = at 0;
      top = at 0;
      merge = false;
      used = 0;
      patrol = at 0;
    }

-- the record without its arrays
abbrev pub summary_of : Heap → Summary
summary_of h =
    record {
      bytes = h.bytes;
      bins = h.bins;
      donor = h.donor;
      top = h.top;
      merge = h.merge;
      used = h.used;
      patrol = h.patrol;
    }

-- the ends of the bins are still those of the same two slices
abbrev pub SameSlices : Ends → Ends → Type 0
SameSlices old new = (new.heads.ghost_name ≡ old.heads.ghost_name) × (new.tails.ghost_name ≡ old.tails.ghost_name)

-- the record of a summary and of the sizes, heads and tails of the bins; every setter of the record is made of it
abbrev pub record_of : Summary → List ℕ → List ℕ → List ℕ → Heap
record_of s sizes heads tails =
    record {
      bytes = s.bytes;
      bins = s.bins;
      sizes = sizes;
      heads = heads;
      tails = tails;
      donor = s.donor;
      top = s.top;
      merge = s.merge;
      used = s.used;
      patrol = s.patrol;
    }

-- a summary with what a call may change; every setter of a summary is made of it
abbrev with : Summary → ℕ → ℕ → Bool → ℕ → ℕ → Summary
with s donor top merge used patrol =
    record {
      bytes = s.bytes;
      bins = s.bins;
      donor = at donor;
      top = at top;
      merge = merge;
      used = used;
      patrol = at patrol;
    }

-- a summary whose donor, top, merge setting, used bytes or place of the patrol are now these
abbrev pub donor_now : Summary → ℕ → Summary
donor_now s c = with s c s.top.0 s.merge s.used s.patrol.0

abbrev pub top_now : Summary → ℕ → Summary
top_now s c = with s s.donor.0 c s.merge s.used s.patrol.0

abbrev pub merge_now : Summary → Bool → Summary
merge_now s on = with s s.donor.0 s.top.0 on s.used s.patrol.0

abbrev pub used_now : Summary → ℕ → Summary
used_now s u = with s s.donor.0 s.top.0 s.merge u s.patrol.0

abbrev pub patrol_now : Summary → ℕ → Summary
patrol_now s c = with s s.donor.0 s.top.0 s.merge s.used c

-- the record with another summary; with other heads and tails; with another donor, top, merge setting, used bytes or place of the patrol
abbrev pub with_summary : Heap → Summary → Heap
with_summary h s = record_of s h.sizes h.heads h.tails

abbrev pub with_ends : Heap → List ℕ → List ℕ → Heap
with_ends h heads tails = record_of (summary_of h) h.sizes heads tails

abbrev pub with_donor : Heap → ℕ → Heap
with_donor h c = with_summary h (donor_now (summary_of h) c)

abbrev pub with_top : Heap → ℕ → Heap
with_top h c = with_summary h (top_now (summary_of h) c)

abbrev pub with_merge : Heap → Bool → Heap
with_merge h on = with_summary h (merge_now (summary_of h) on)

abbrev pub with_used : Heap → ℕ → Heap
with_used h u = with_summary h (used_now (summary_of h) u)

abbrev pub with_patrol : Heap → ℕ → Heap
with_patrol h c = with_summary h (patrol_now (summary_of h) c)

-- the bin sizes in use
abbrev pub table_of : Heap → List ℕ
table_of h = take h.bins h.sizes
