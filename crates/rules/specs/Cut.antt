-- Splitting a free chunk to grant a part of it (manual 5.2; document 01, "The calls": Allocate).
use Rattle.std.specs.Prelude.{not, cond, List, [], ◌∷◌, ℕ, ◌+◌, ◌-◌, eqb, leb, Option, Some, None}
use Rattle.lists.specs.Lists.{keep}
use Rattle.record.specs.declared.sources.Source.{Source}
use Rattle.record.specs.declared.sources.Source.TheVariants.{FromBin, FromDonor, FromTop}
use Rattle.record.specs.Table.{least}
use Rattle.record.specs.declared.kinds.Kind.{Kind}
use Rattle.record.specs.declared.kinds.Kind.TheVariants.{Start, InUse, Ordinary, Donor, Top, End}
use Rattle.rules.specs.Shape.{Entry, entry}
use Rattle.rules.specs.Kinds.{unused, used, is_at, outside}
use Rattle.rules.specs.Draft.{Draft, Spot, spot, leave_bin, relink, settle, now_uses}

-- the three parts of a cut chunk, lowest first; a part may have no bytes
pub record Parts : Type 0 where
  pub below : Entry
  pub granted : Entry
  pub above : Entry

-- n bytes are granted, `skip` bytes above the chunk's place; a rest of less than 24 bytes above them is granted too
unfoldable pub cut : Entry → ℕ → ℕ → Parts
cut e skip n =
    let room = e.size - skip in
    let given = cond (leb (n + least) room) n room in
    record {
      below = entry e.place skip unused;
      granted = entry (e.place + skip) given used;
      above = entry (e.place + skip + given) (room - given) unused;
    }

-- the parts that have bytes
abbrev pub chunks_of : Parts → List Entry
chunks_of p = keep (λ e. not (eqb e.size 0)) (p.below ∷ p.granted ∷ p.above ∷ [])

-- an ordinary chunk leaves its bin; donor and top are in none
abbrev pub leave_as : Kind → Entry → Draft → Draft
leave_as Ordinary e d = leave_bin e d
leave_as Donor e d = d
leave_as Top e d = d
leave_as Start e d = d
leave_as InUse e d = d
leave_as End e d = d

-- the granted chunk, and the draft after the grant
pub record Grant : Type 0 where
  pub granted : Entry
  pub draft : Draft

-- the lowest n bytes of the chunk at a spot are granted; what is left above them is of the chunk's kind again
unfoldable pub grant_at : Kind → Spot → ℕ → Draft → Grant
grant_at kind s n d =
    let parts = cut s.here 0 n in
    let cut_up = relink s.low (chunks_of parts) s.high (leave_as kind s.here d) in
    let rest = parts.above in
    let settled = cond (eqb rest.size 0) cut_up (settle kind rest cut_up) in
    record { granted = parts.granted; draft = now_uses 0 parts.granted.size settled }

-- n bytes are granted from the chosen source
unfoldable pub grant_from : Option Source → ℕ → Draft → Grant
grant_from (Some (FromBin c)) n d = grant_at Ordinary (spot (is_at c.0) d.chain) n d
grant_from (Some FromDonor) n d = grant_at Donor (spot (is_at d.heap.donor.0) d.chain) n d
grant_from (Some FromTop) n d = grant_at Top (spot (is_at d.heap.top.0) d.chain) n d
grant_from None n d = record { granted = outside; draft = d }
