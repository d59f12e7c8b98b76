-- Free: what the code leaves is what the rule says, refused or not. Assumes nothing.
use mathlib.Core.Path.{◌≡◌, refl, ap, ◌∙◌}
use mathlib.Core.Bool.{true, false}
use mathlib.Core.List.{List}
use Prim.Native.Nat.{ℕ}
use lib.IntN.{pos}
use borrow.Author.Tests.{eq-eqb, ne_eqb}
use Rattle.books.specs.Books.{Books, books}
use Rattle.record.specs.declared.answers.Answer.TheVariants.{Returned}
use Rattle.record.specs.declared.answers.Refusal.TheVariants.{HeapFails, NotLive}
use Rattle.record.specs.declared.answers.Reply.{Reply}
use Rattle.record.specs.declared.heap.Heap.{Heap}
use Rattle.record.specs.declared.heap.Summary.{Summary}
use Rattle.record.specs.Heap.{summary_of, table_of, with_ends, with_summary}
use Rattle.rules.specs.Check.{passes}
use Rattle.rules.specs.Draft.{as_read}
use Rattle.rules.specs.Free.{free}
use Rattle.rules.specs.Shape.{shape}
use Rattle.rules.specs.Statements.{Meets}
use Rattle.rules.proofs.CheckLaws.{passes_iff}
use Rattle.seek.specs.declared.Place.{Place}
use Rattle.std.specs.Prelude.{Option, Some, None, Ok}
use Rattle.seek.specs.Seek.{sought_m, has_block_m}
use Rattle.release.proofs.FindLaws.{not_live, live_at}
use Rattle.reclaim.specs.Reclaim.{reclaim_m}
use Rattle.reclaim.proofs.ReclaimMeaning.{reclaim_is}
use Rattle.replies.specs.declared.Answered.{Answered}
use Rattle.replies.specs.Replies.{concluded, recorded, refused_reply, reply}

-- a reply and the words after it are what the rule says. It is a record, so that the checker finds by itself what the call was handed
pub record Freed (ws : List ℕ) (h : Heap) (b : ℕ) (r : Reply) (words : List ℕ) : Type 0 where
  pub meets : Meets ws (free ws h b) r words

pub free_meets : {ws : List ℕ} {h : Heap} {b : ℕ} {r : Reply} {words : List ℕ} → Freed ws h b r words → Meets ws (free ws h b) r words
free_meets f = f.meets

module _ {ws : List ℕ} {h : Heap} {b : ℕ} where
  pub free_fails : passes ws h ≡ false → Freed ws h b (refused_reply h HeapFails) ws
  unfolding free
  free_fails q = record { meets = rw q refl }

  module _ (q : passes ws h ≡ true) where
    pub free_none : b ≡ 0 → Freed ws h b (reply h (Returned (pos 0))) ws
    unfolding free as_read
    free_none e = record { meets = rw (q, eq-eqb b 0 e) refl }

    module _ (n : b ≡ 0 → ⊥) {s : Option Place} (e : s ≡ sought_m (has_block_m h.bytes b) 0 (shape ws h.bytes)) where
      pub free_refuses : s ≡ None → Freed ws h b (refused_reply h NotLive) ws
      unfolding free
      free_refuses z = record { meets = rw (q, ne_eqb b 0 n, not_live ws h ((passes_iff ws h).0 q) b s e z) refl }

      pub free_reclaims : {x : Place} → s ≡ Some x → {s₀ : Summary} → s₀ ≡ summary_of h
          → {k : Books} {a : Answered} → concluded k (Ok a) ≡ reclaim_m (books ws h.heads h.tails) (table_of h) s₀ x
          → {after : Heap} → after ≡ with_ends (with_summary h a.summary) k.heads k.tails
          → Freed ws h b (reply after a.answer) k.words
      free_reclaims {x} z es g ea =
          let (l, is) = live_at ws h ((passes_iff ws h).0 q) b s e x z in
          record { meets = rw ea (ap (recorded h) (rw (es, is) at g) ∙ reclaim_is ws h q b n l) }
