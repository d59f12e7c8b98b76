-- On a heap that passes, freeing the chunk of a live block leaves what the rule of free says (`reclaim_is`). Assumes nothing.
use mathlib.Core.Path.{◌≡◌, ap, ◌∙◌}
use mathlib.Core.Bool.{true}
use mathlib.Core.List.{List}
use Prim.Native.Nat.{ℕ, ◌-◌, ◌≤◌}
use native.Mathlib.Omega.{arith}
use borrow.Author.Tests.{ne_eqb}
use Rattle.books.specs.Books.{books}
use Rattle.record.specs.declared.answers.Answer.TheVariants.{Returned}
use Rattle.record.specs.declared.heap.Heap.{Heap}
use Rattle.record.specs.Heap.{summary_of, table_of}
use Rattle.rules.specs.Calls.{State}
use Rattle.rules.specs.Check.{Passes, passes}
use Rattle.rules.specs.Draft.{as_read}
use Rattle.rules.specs.Free.{is_live, block_spot, free}
use Rattle.rules.specs.Kinds.{holds_block}
use Rattle.rules.specs.Shape.{Entry, chunk_end, shape}
use Rattle.rules.specs.Statements.{left_by}
use Rattle.rules.proofs.CheckLaws.{passes_iff}
use Rattle.rules.proofs.SpotLaws.{bounds, inside, spot_member}
use Rattle.release.proofs.FindLaws.{place_of}
use Rattle.release.specs.Give.{given_up_m}
use Rattle.release.proofs.GiveMeaning.{give_up_is}
use Rattle.replies.specs.Replies.{change_m, left, recorded}
use Rattle.replies.proofs.ChangeLaws.{change_ruled}
use Rattle.reclaim.specs.Reclaim.{reclaim_m}

module _ (ws : List ℕ) (h : Heap) (q : passes ws h ≡ true) (b : ℕ) (some : b ≡ 0 → ⊥) (l : is_live (as_read ws h) b ≡ true) where
  abbrev pub well : Passes ws h
  well = (passes_iff ws h).0 q

  abbrev here : Entry
  here = (block_spot (as_read ws h) b).here

  small : here.size ≤ 65536
  unfolding as_read
  small =
      let i = inside ws h well here (spot_member (holds_block h b) (shape ws h.bytes) l) in
      let k = bounds ws h well in
      omega arith

  pub reclaim_is : recorded h (reclaim_m (books ws h.heads h.tails) (table_of h) (summary_of h) (place_of ws h well b l)) ≡ left_by ws (free ws h b)
  unfolding reclaim_m free given_up_m
  reclaim_is =
      let size_is : chunk_end here - here.place ≡ here.size = omega arith in
      ap (λ (s : State). left (Returned (change_m (chunk_end here - here.place) 0)) s.heap s.words) (give_up_is ws h well b l)
      ∙ rw (size_is, change_ruled here.size 0 small (omega arith), q, ne_eqb b 0 some, l)
