-- What every way that keeps the promise `Refusing` refuses on a heap that passes: free and reallocate of a block that is not live, reallocate of a size that
-- is not permitted, a question about a chunk that is not there. So an accepted free or reallocate was given a live block. Assumes nothing.
use mathlib.Core.Path.{◌≡◌, sym, ap, ◌∙◌}
use mathlib.Core.Logic.{◌≢◌}
use mathlib.Core.Bool.{true, not, false≢true}
use mathlib.Core.List.{List}
use Prim.Native.Nat.{ℕ, ◌<◌}
use native.Mathlib.Omega.{arith}
use Rattle.lists.proofs.ListsLaws.{decided}
use Rattle.record.specs.declared.answers.Answer.TheVariants.{Refused}
use Rattle.record.specs.declared.answers.Refusal.{Refusal}
use Rattle.record.specs.declared.answers.Refusal.TheVariants.{BlockSize, NotLive, NotThere}
use Rattle.record.specs.declared.heap.Heap.{Heap}
use Rattle.rules.specs.Shape.{Entry}
use Rattle.rules.specs.Check.{Passes}
use Rattle.rules.specs.Serve.{most_bytes, permitted}
use Rattle.rules.specs.Calls.{Free, Reallocate, AskChunk}
use Rattle.promises.specs.Ways.{Way}
use Rattle.promises.specs.Room.{HoldsBlock}
use Rattle.promises.specs.Kept.{Accepted}
use Rattle.promises.specs.Refusing.{WrongSize, NoBlock, Because, fails, reallocate_size, free_not_live, reallocate_not_live, reallocate_room, ask_no_chunk, order_of, Refusing}
use Rattle.promises.proofs.ReasonLaws.{range_iff, live_iff}

module _ (way : Way) (refuses : Refusing way) {ws : List ℕ} {h : Heap} (p : Passes ws h) where
  -- the block at b is not live
  pub free_refused : (b : ℕ) → NoBlock ws h b → (way (Free b) ws h).answer ≡ Refused NotLive
  free_refused b none = (refuses.exactly (Free b) ws h NotLive).1 (record { because = free_not_live none; before = before })
    where
      before : (r : Refusal) → order_of r < order_of NotLive → Because ws h (Free b) r → ⊥
      before r l (fails s n) = n p
      before r l (free_not_live w) = omega arith

  resize_refused : (b z : ℕ) → NoBlock ws h b → (WrongSize z → ⊥) → (way (Reallocate b z) ws h).answer ≡ Refused NotLive
  resize_refused b z none right =
      (refuses.exactly (Reallocate b z) ws h NotLive).1 (record { because = reallocate_not_live none; before = before })
    where
      before : (r : Refusal) → order_of r < order_of NotLive → Because ws h (Reallocate b z) r → ⊥
      before r l (fails s n) = n p
      before r l (reallocate_size w) = right w
      before r l (reallocate_not_live w) = omega arith
      before r l (reallocate_room w) = omega arith

  pub reallocate_refused : (b z : ℕ) → NoBlock ws h b → permitted z ≡ true → (way (Reallocate b z) ws h).answer ≡ Refused NotLive
  reallocate_refused b z none q = resize_refused b z none (λ w. false≢true (sym (ap not q) ∙ (range_iff most_bytes z).1 w))

  -- the size is not permitted
  size_refused : (b z : ℕ) → WrongSize z → (way (Reallocate b z) ws h).answer ≡ Refused BlockSize
  size_refused b z wrong = (refuses.exactly (Reallocate b z) ws h BlockSize).1 (record { because = reallocate_size wrong; before = before })
    where
      before : (r : Refusal) → order_of r < order_of BlockSize → Because ws h (Reallocate b z) r → ⊥
      before r l (fails s n) = n p
      before r l (reallocate_size w) = omega arith
      before r l (reallocate_not_live w) = omega arith
      before r l (reallocate_room w) = omega arith

  -- what is asked about is not there
  pub asked_refused : (q c : ℕ) → Because ws h (AskChunk q c) NotThere → (way (AskChunk q c) ws h).answer ≡ Refused NotThere
  asked_refused q c b = (refuses.exactly (AskChunk q c) ws h NotThere).1 (record { because = b; before = before })
    where
      before : (r : Refusal) → order_of r < order_of NotThere → Because ws h (AskChunk q c) r → ⊥
      before r l (fails s n) = n p
      before r l (ask_no_chunk w) = omega arith

  -- an accepted free, and an accepted reallocate, was given a live block
  pub freed_held : (b : ℕ) → b ≢ 0 → Accepted (way (Free b) ws h).answer → (e : Entry) × HoldsBlock ws h b e
  freed_held b some a = go (decided (live_iff ws h b))
    where
      go : Dec ((e : Entry) × HoldsBlock ws h b e) → (e : Entry) × HoldsBlock ws h b e
      go (yes k) = k
      go (no n) = absurd (a NotLive (free_refused b (omega arith, λ e k. n (e, k))))

  pub resized_held : (b z : ℕ) → b ≢ 0 → Accepted (way (Reallocate b z) ws h).answer → (e : Entry) × HoldsBlock ws h b e
  resized_held b z some a = go (decided (live_iff ws h b))
    where
      go : Dec ((e : Entry) × HoldsBlock ws h b e) → (e : Entry) × HoldsBlock ws h b e
      go (yes k) = k
      go (no n) = absurd (a NotLive (resize_refused b z (omega arith, λ e k. n (e, k)) (λ w. a BlockSize (size_refused b z w))))
