-- Giving up the chunk of a live block leaves what the rule of free says (`give_up_is`), and giving up the tail of one what the rule of
-- shrinking says (`give_up_tail_is`). Assumes nothing.
use mathlib.Core.Path.{◌≡◌, ap}
use mathlib.Core.Bool.{true}
use mathlib.Core.List.{List, [], ◌∷◌}
use Prim.Native.Nat.{ℕ, ◌+◌, ◌-◌}
use native.Mathlib.Omega.{arith}
use Rattle.record.specs.declared.heap.Heap.{Heap}
use Rattle.record.specs.declared.heap.Summary.{Summary}
use Rattle.record.specs.Heap.{table_of, summary_of, used_now, with_summary, with_ends, with_used}
use Rattle.region.specs.Words.{written, put, forward}
use Rattle.rules.specs.Calls.{State}
use Rattle.rules.specs.Check.{Passes}
use Rattle.rules.specs.Draft.{Draft, as_read}
use Rattle.rules.specs.Free.{is_live, block_spot, free_block}
use Rattle.rules.specs.Reallocate.{shrunk}
use Rattle.rules.specs.Shape.{Entry, chunk_end}
use Rattle.settling.proofs.SettledLaws.{settled_keeps}
use Rattle.release.specs.declared.Union.{Union}
use Rattle.release.specs.Release.{settled_in}
use Rattle.release.specs.Give.{state, give_up_m, given_up_m}
use Rattle.release.proofs.ReleaseMeaning.{free_after, joined, released}
use Rattle.release.proofs.FindLaws.{place_of}
use Rattle.drafts.proofs.ShrinkLaws.{ShrinkingChunk, tail_after}
use Rattle.release.proofs.TailMeaning.{tail_place, tail_joined, tail_released}

-- the words and the record that a draft leaves
abbrev pub drawn : List ℕ → Draft → State
drawn ws d = state (written ws d.stores) d.heap

-- a record that says fewer bytes are used
fewer_used : (h : Heap) {free_after : Heap} {heads tails : List ℕ} {s : Summary} (gone before left : ℕ) → s.used ≡ h.used
    → free_after ≡ with_ends (with_summary h s) heads tails → gone + left ≡ before
    → with_ends (with_summary h (used_now s (h.used - gone))) heads tails ≡ with_used free_after (free_after.used + left - before)
fewer_used h {heads = heads} {tails} {s} gone before left u e q =
    rw (e, u) (ap (λ (n : ℕ). with_ends (with_summary h (used_now s n)) heads tails) (omega arith))

-- what giving back leaves of the summary's used bytes
same_used : (h : Heap) (u : Union) → (settled_in (summary_of h) u).used ≡ h.used
same_used h u = (settled_keeps (summary_of h) u.becomes u.chunk.0).used

-- the chunk of the live block at b
module _ (ws : List ℕ) (h : Heap) (p : Passes ws h) (b : ℕ) (l : is_live (as_read ws h) b ≡ true) where
  pub give_up_is : given_up_m ws (table_of h) h (place_of ws h p b l) ≡ drawn ws (free_block b (as_read ws h))
  unfolding given_up_m give_up_m free_block
  give_up_is =
      let e : Entry = (block_spot (as_read ws h) b).here in
      let back = released ws h p b l in
      let size_is : chunk_end e - e.place ≡ e.size = omega arith in
      rw (size_is, back.is)
      (ap (state (written ws (free_after ws h p b l).stores))
      (fewer_used h e.size e.size 0 (same_used h (joined ws h p b l)) back.heap (omega arith)))

-- the tail of the chunk e of a live block, above n bytes that are kept
module _ {ws : List ℕ} {h : Heap} {low : List Entry} {e : Entry} {high : List Entry} {n : ℕ} (shrinks : ShrinkingChunk ws h low e high n) where
  abbrev pub ruled_shrink : Draft
  ruled_shrink = (shrunk (record { low = low; here = e; high = high }) n (as_read ws h)).draft

  pub give_up_tail_is : (f : ℕ)
      → given_up_m (written ws (put e.place forward (e.place + n) ∷ [])) (table_of h) h (tail_place shrinks f) ≡ drawn ws ruled_shrink
  unfolding given_up_m give_up_m
  give_up_tail_is f =
      let d : Draft = tail_after shrinks in
      let back = tail_released shrinks f in
      let size_is : chunk_end e - (e.place + n) ≡ e.size - n = omega arith in
      rw (size_is, back.is)
      (ap (state (written ws d.stores))
      (fewer_used h (e.size - n) e.size n (same_used h (tail_joined shrinks f)) back.heap (omega arith)))
