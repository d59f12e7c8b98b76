-- What the steps on a draft leave of its chain and of its record, whatever the draft: chunks that leave a bin or are put into one change heads and tails
-- alone, and a free chunk that settles is the donor or the top if it settles as such. So a chunk that is given back makes one change to the chain
-- (`released_chain`), and of heap bytes, table, merge setting, used bytes and the patrol's place it may move the place alone (`released_rest`); a grant
-- adds the granted chunk to the used bytes (`granted_rest`). Assumes nothing.
use mathlib.Core.Path.{◌≡◌, refl, ap, ◌∙◌}
use mathlib.Core.Bool.{Bool, true, false, cond}
use mathlib.Core.List.{List, [], ◌∷◌, ◌++◌}
use Prim.Native.Nat.{ℕ, ◌+◌, ◌-◌}
use native.Mathlib.Nat.{add-zero, sub-zero}
use lib.Dec.{eqb}
use Rattle.record.specs.declared.heap.Heap.{Heap}
use Rattle.record.specs.declared.heap.Summary.{Summary}
use Rattle.record.specs.declared.kinds.Kind.{Kind}
use Rattle.record.specs.declared.kinds.Kind.TheVariants.{Start, InUse, Ordinary, Donor, Top, End}
use Rattle.record.specs.declared.sources.Source.{Source}
use Rattle.record.specs.declared.sources.Source.TheVariants.{FromBin, FromDonor, FromTop}
use Rattle.std.specs.Prelude.{Option, Some, None}
use Rattle.record.specs.Heap.{table_of, summary_of, donor_now, top_now}
use Rattle.record.specs.Table.{bin_of}
use Rattle.rules.specs.Shape.{Entry}
use Rattle.rules.specs.Draft.{Draft, Spot, leave, on_bin, leave_bin, put_between, put_into, put_in_bin, relink, settle}
use Rattle.rules.specs.Cut.{cut, chunks_of, leave_as, grant_at, grant_from}
use Rattle.rules.specs.Join.{Joined, joining, leave_bins, moved_down, release}
use Rattle.drafts.proofs.PutLaws.{put_between_lem}

-- chain, and record without heads and tails, are those of d
pub record Unmoved (d after : Draft) : Type 0 where
  pub chain : after.chain ≡ d.chain
  pub summary : summary_of after.heap ≡ summary_of d.heap
  pub sizes : after.heap.sizes ≡ d.heap.sizes

unmoved : (d : Draft) → Unmoved d d
unmoved d = record { chain = refl; summary = refl; sizes = refl }

-- two such steps, one after the other
unmoved_on : {d e f : Draft} → Unmoved d e → Unmoved e f → Unmoved d f
unmoved_on a b = record { chain = b.chain ∙ a.chain; summary = b.summary ∙ a.summary; sizes = b.sizes ∙ a.sizes }

-- for a step on the bin of a size it is enough to know it for every bin
on_bin_unmoved : (step : ℕ → Draft → Draft) (d : Draft) → ((i : ℕ) → Unmoved d (step i d)) → (b : Option ℕ) → Unmoved d (on_bin step b d)
on_bin_unmoved step d f (Some i) = f i
on_bin_unmoved step d f None = unmoved d

leave_bin_unmoved : (e : Entry) (d : Draft) → Unmoved d (leave_bin e d)
unfolding leave_bin leave
leave_bin_unmoved e d =
    on_bin_unmoved (λ i. leave i e.place) d (λ i. record { chain = refl; summary = refl; sizes = refl }) (bin_of (table_of d.heap) e.size)

pub leave_bins_unmoved : (es : List Entry) (d : Draft) → Unmoved d (leave_bins es d)
leave_bins_unmoved [] d = unmoved d
leave_bins_unmoved (e ∷ es) d = unmoved_on (leave_bin_unmoved e d) (leave_bins_unmoved es (leave_bin e d))

put_in_bin_unmoved : (e : Entry) (d : Draft) → Unmoved d (put_in_bin e d)
unfolding put_in_bin put_between
put_in_bin_unmoved e d =
    on_bin_unmoved (λ i. put_into i e) d (λ i. rw (put_between_lem i e d) (record { chain = refl; summary = refl; sizes = refl }))
    (bin_of (table_of d.heap) e.size)

-- the summary when a chunk at c has settled
abbrev pub settled_as : Kind → ℕ → Summary → Summary
settled_as Start c s = s
settled_as InUse c s = s
settled_as Ordinary c s = s
settled_as Donor c s = donor_now s c
settled_as Top c s = top_now s c
settled_as End c s = s

-- the chain and the sizes of d, and the summary with the chunk e settled
pub record Settles (k : Kind) (e : Entry) (d after : Draft) : Type 0 where
  pub chain : after.chain ≡ d.chain
  pub summary : summary_of after.heap ≡ settled_as k e.place (summary_of d.heap)
  pub sizes : after.heap.sizes ≡ d.heap.sizes

pub settle_settles : (k : Kind) (e : Entry) (d : Draft) → Settles k e d (settle k e d)
unfolding settle
settle_settles Start e d = record { chain = refl; summary = refl; sizes = refl }
settle_settles InUse e d = record { chain = refl; summary = refl; sizes = refl }
settle_settles Ordinary e d = let u = put_in_bin_unmoved e d in record { chain = u.chain; summary = u.summary; sizes = u.sizes }
settle_settles Donor e d = record { chain = refl; summary = refl; sizes = refl }
settle_settles Top e d = record { chain = refl; summary = refl; sizes = refl }
settle_settles End e d = record { chain = refl; summary = refl; sizes = refl }

-- heap bytes, table and merge setting, which no step changes
pub record Frame : Type 0 where
  pub bytes : ℕ
  pub bins : ℕ
  pub sizes : List ℕ
  pub merge : Bool

-- a record without heads, tails, donor and top
pub record Rest : Type 0 where
  pub frame : Frame
  pub used : ℕ
  pub patrol : ℕ

-- that of a summary with the sizes; of a record
abbrev pub rest_with : Summary → List ℕ → Rest
rest_with s sizes =
    record {
      frame = record { bytes = s.bytes; bins = s.bins; sizes = sizes; merge = s.merge };
      used = s.used;
      patrol = s.patrol.0;
    }

abbrev pub rest_of : Heap → Rest
rest_of h = rest_with (summary_of h) h.sizes

rest_same : {s t : Summary} {xs ys : List ℕ} → s ≡ t → xs ≡ ys → rest_with s xs ≡ rest_with t ys
rest_same q r = rw (q, r)

-- a chunk that settles changes nothing of it
settled_rest : (k : Kind) (c : ℕ) (s : Summary) (sizes : List ℕ) → rest_with (settled_as k c s) sizes ≡ rest_with s sizes
settled_rest Start c s sizes = refl
settled_rest InUse c s sizes = refl
settled_rest Ordinary c s sizes = refl
settled_rest Donor c s sizes = refl
settled_rest Top c s sizes = refl
settled_rest End c s sizes = refl

settle_rest : (k : Kind) (e : Entry) (d : Draft) → rest_of (settle k e d).heap ≡ rest_of d.heap
settle_rest k e d =
    let s = settle_settles k e d in
    rest_same s.summary s.sizes ∙ settled_rest k e.place (summary_of d.heap) d.heap.sizes

-- with other used bytes, as by `now_uses`; with the patrol's place moved down where the chunk e has swallowed it
abbrev pub rest_uses : ℕ → ℕ → Rest → Rest
rest_uses before after r = record { frame = r.frame; used = r.used + after - before; patrol = r.patrol }

abbrev pub rest_swallowed : Entry → Rest → Rest
rest_swallowed e r = record { frame = r.frame; used = r.used; patrol = moved_down e r.patrol }

-- the chunk e between `low` and `high` is given back
module _ (low : List Entry) (e : Entry) (high : List Entry) (d : Draft) where
  abbrev j : Joined
  j = joining d.heap low e high

  abbrev linked : Draft
  linked = relink j.low (j.here ∷ []) j.high (leave_bins j.leaving d)

  linked_summary : summary_of linked.heap ≡ summary_of d.heap
  unfolding relink
  linked_summary = (leave_bins_unmoved j.leaving d).summary

  linked_rest : rest_of linked.heap ≡ rest_of d.heap
  unfolding relink
  linked_rest = let u = leave_bins_unmoved j.leaving d in rest_same u.summary u.sizes

  pub released_chain : (release low e high d).chain ≡ j.low ++ j.here ∷ [] ++ j.high
  unfolding release relink
  released_chain = (settle_settles j.becomes j.here linked).chain

  -- donor and top: the joined chunk, where it settles as such
  abbrev joined_summary : Summary
  joined_summary = settled_as j.becomes j.here.place (summary_of d.heap)

  settled_summary : summary_of (settle j.becomes j.here linked).heap ≡ joined_summary
  settled_summary =
      (settle_settles j.becomes j.here linked).summary ∙ ap (settled_as j.becomes j.here.place) linked_summary

  pub released_donor : (release low e high d).heap.donor.0 ≡ joined_summary.donor.0
  unfolding release
  released_donor = ap (λ (s : Summary). s.donor.0) settled_summary

  pub released_top : (release low e high d).heap.top.0 ≡ joined_summary.top.0
  unfolding release
  released_top = ap (λ (s : Summary). s.top.0) settled_summary

  pub released_rest : rest_of (release low e high d).heap ≡ rest_swallowed j.here (rest_of d.heap)
  unfolding release
  released_rest = ap (rest_swallowed j.here) (settle_rest j.becomes j.here linked ∙ linked_rest)

  pub released_used : (release low e high d).heap.used ≡ d.heap.used
  released_used = ap (λ (r : Rest). r.used) released_rest

-- a chunk that is to be cut leaves its bin, if it is ordinary
leave_as_unmoved : (k : Kind) (e : Entry) (d : Draft) → Unmoved d (leave_as k e d)
leave_as_unmoved Start e d = unmoved d
leave_as_unmoved InUse e d = unmoved d
leave_as_unmoved Ordinary e d = leave_bin_unmoved e d
leave_as_unmoved Donor e d = unmoved d
leave_as_unmoved Top e d = unmoved d
leave_as_unmoved End e d = unmoved d

-- bytes are granted from the chunk at a spot
module _ (k : Kind) (s : Spot) (n : ℕ) (d : Draft) where
  abbrev cut_up : Draft
  cut_up = relink s.low (chunks_of (cut s.here 0 n)) s.high (leave_as k s.here d)

  cut_rest : rest_of cut_up.heap ≡ rest_of d.heap
  unfolding relink
  cut_rest = let u = leave_as_unmoved k s.here d in rest_same u.summary u.sizes

  cut_settled : (t : Bool) (above : Entry) → rest_of (cond t cut_up (settle k above cut_up)).heap ≡ rest_of d.heap
  cut_settled true above = cut_rest
  cut_settled false above = settle_rest k above cut_up ∙ cut_rest

  granted_at_rest : rest_of (grant_at k s n d).draft.heap ≡ rest_uses 0 (grant_at k s n d).granted.size (rest_of d.heap)
  unfolding grant_at
  granted_at_rest =
      let parts = cut s.here 0 n in
      ap (rest_uses 0 parts.granted.size) (cut_settled (eqb parts.above.size 0) parts.above)

pub granted_rest : (s : Option Source) (n : ℕ) (d : Draft)
    → rest_of (grant_from s n d).draft.heap ≡ rest_uses 0 (grant_from s n d).granted.size (rest_of d.heap)
unfolding grant_from
granted_rest (Some (FromBin c)) n d = granted_at_rest Ordinary _ n d
granted_rest (Some FromDonor) n d = granted_at_rest Donor _ n d
granted_rest (Some FromTop) n d = granted_at_rest Top _ n d
granted_rest None n d = rw (add-zero d.heap.used, sub-zero d.heap.used)

pub granted_used : (s : Option Source) (n : ℕ) (d : Draft) → (grant_from s n d).draft.heap.used ≡ d.heap.used + (grant_from s n d).granted.size
granted_used s n d = ap (λ (r : Rest). r.used) (granted_rest s n d) ∙ sub-zero (d.heap.used + (grant_from s n d).granted.size)
