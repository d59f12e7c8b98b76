-- Reallocate: what the code leaves is what the rule says, refused or not. Assumes nothing.
use mathlib.Core.Path.{◌≡◌, refl, ap, ◌∙◌}
use mathlib.Core.Bool.{true, false}
use mathlib.Core.List.{List}
use Prim.Native.Nat.{ℕ}
use borrow.Author.Tests.{eq-eqb, ne_eqb}
use Rattle.record.specs.declared.answers.Refusal.TheVariants.{HeapFails, BlockSize, NotLive}
use Rattle.record.specs.declared.answers.Reply.{Reply}
use Rattle.record.specs.declared.heap.Heap.{Heap}
use Rattle.record.specs.Heap.{table_of}
use Rattle.rules.specs.Allocate.{allocate}
use Rattle.rules.specs.Check.{passes}
use Rattle.rules.specs.Kinds.{overhead}
use Rattle.rules.specs.Reallocate.{resize, reallocate}
use Rattle.rules.specs.Serve.{need, permitted}
use Rattle.rules.specs.Shape.{shape}
use Rattle.rules.specs.Statements.{Meets, replied}
use Rattle.rules.proofs.CheckLaws.{passes_iff}
use Rattle.seek.specs.declared.Place.{Place}
use Rattle.std.specs.Prelude.{Option, Some, None}
use Rattle.seek.specs.Seek.{sought_m, has_block_m}
use Rattle.grant.specs.Need.{need_m}
use Rattle.grant.proofs.NeedMeaning.{permitted_need}
use Rattle.release.proofs.FindLaws.{not_live, live_at}
use Rattle.replies.specs.Replies.{refused_reply}
use Rattle.resize.specs.Resize.{resize_m}
use Rattle.resize.proofs.ResizeMeaning.{resize_is}

-- a reply and the words after it are what the rule says. It is a record, so that the checker finds by itself what the call was handed
pub record Reallocated (ws : List ℕ) (h : Heap) (b z : ℕ) (r : Reply) (words : List ℕ) : Type 0 where
  pub meets : Meets ws (reallocate ws h b z) r words

pub reallocate_meets : {ws : List ℕ} {h : Heap} {b z : ℕ} {r : Reply} {words : List ℕ} → Reallocated ws h b z r words → Meets ws (reallocate ws h b z) r words
reallocate_meets a = a.meets

module _ {ws : List ℕ} {h : Heap} {b z : ℕ} where
  pub reallocate_none : b ≡ 0 → {r : Reply} {words : List ℕ} → Meets ws (allocate ws h z) r words → Reallocated ws h b z r words
  unfolding reallocate
  reallocate_none e g = record { meets = rw (eq-eqb b 0 e) g }

  module _ (n : b ≡ 0 → ⊥) where
    pub reallocate_fails : passes ws h ≡ false → Reallocated ws h b z (refused_reply h HeapFails) ws
    unfolding reallocate resize
    reallocate_fails q = record { meets = rw (ne_eqb b 0 n, q) refl }

    module _ (q : passes ws h ≡ true) where
      pub reallocate_refuses : permitted z ≡ false → Reallocated ws h b z (refused_reply h BlockSize) ws
      unfolding reallocate resize
      reallocate_refuses k = record { meets = rw (ne_eqb b 0 n, q, k) refl }

      module _ (k : permitted z ≡ true) {s : Option Place} (e : s ≡ sought_m (has_block_m h.bytes b) 0 (shape ws h.bytes)) where
        pub reallocate_misses : s ≡ None → Reallocated ws h b z (refused_reply h NotLive) ws
        unfolding reallocate resize
        reallocate_misses m = record { meets = rw (ne_eqb b 0 n, q, k, not_live ws h ((passes_iff ws h).0 q) b s e m) refl }

        pub reallocate_resizes : {x : Place} → s ≡ Some x → {m : ℕ} → m ≡ need_m z → {r : Reply} {words : List ℕ}
            → replied r words ≡ resize_m ws (table_of h) h x m → Reallocated ws h b z r words
        unfolding reallocate
        reallocate_resizes {x} f en g =
            let (l, a) = live_at ws h ((passes_iff ws h).0 q) b s e x f in
            record {
              meets =
                  rw (ne_eqb b 0 n)
                  (g ∙ ap (resize_m ws (table_of h) h x) (en ∙ permitted_need z k) ∙ ap (λ (y : Place). resize_m ws (table_of h) h y (need overhead z)) a
                  ∙ resize_is ws h q z k b l);
            }
