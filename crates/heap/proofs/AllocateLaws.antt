-- The two allocates: what the code leaves is what the rule says, refused or not. Assumes nothing.
use mathlib.Core.Path.{◌≡◌, refl, sym, ap, ◌∙◌}
use mathlib.Core.Bool.{Bool, true, false}
use mathlib.Core.List.{List}
use Prim.Native.Nat.{ℕ, ◌*◌, ◌≤◌, ◌<◌}
use native.Mathlib.Nat.{mul-le-mul}
use native.Mathlib.Omega.{arith}
use mir.Syntax.{w32, w64}
use mir.Val.{Fits}
use Rattle.books.specs.Books.{Books, books}
use Rattle.lists.proofs.ListsLaws.{at_most, both}
use Rattle.record.specs.declared.answers.Refusal.{Refusal}
use Rattle.record.specs.declared.answers.Refusal.TheVariants.{HeapFails, BlockSize}
use Rattle.std.specs.Prelude.{Result, Ok, Err}
use Rattle.record.specs.declared.answers.Reply.{Reply}
use Rattle.record.specs.declared.heap.Heap.{Heap}
use Rattle.record.specs.declared.heap.Summary.{Summary}
use Rattle.record.specs.Heap.{summary_of, table_of, with_ends, with_summary}
use Rattle.rules.specs.Allocate.{allocate_with}
use Rattle.rules.specs.Check.{passes}
use Rattle.rules.specs.Serve.{permitted}
use Rattle.rules.specs.Statements.{Meets}
use Rattle.grant.specs.Need.{need_m}
use Rattle.grant.proofs.NeedMeaning.{permitted_need}
use Rattle.replies.specs.declared.Answered.{Answered}
use Rattle.replies.specs.Replies.{concluded, recorded, refused_reply, reply}
use Rattle.supply.specs.Supply.{fill_stores, supply_m, want}
use Rattle.supply.proofs.SupplyMeaning.{supply_is}

permitted_few : (z : ℕ) → permitted z ≡ true → z ≤ 65488
permitted_few z k = ((both (at_most 1 z) (at_most z 65488)).0 k).1

pub permitted_fits : (z : ℕ) → permitted z ≡ true → Fits w32 z
permitted_fits z k = let l = permitted_few z k in record { fits = omega arith }

-- a product of two 32-bit numbers has 64 bits at most
pub product_fits : (count size : ℕ) → count < 4294967296 → size < 4294967296 → Fits w64 (count * size)
product_fits count size p q =
    let l : count * size ≤ 4294967295 * 4294967295 = mul-le-mul {n₂ = 4294967295} {m₂ = 4294967295} (omega arith) (omega arith) in
    record { fits = omega arith }

-- a reply and the words after it are what the rule says. It is a record, so that the checker finds by itself what the call was handed
pub record Allocated (ws : List ℕ) (h : Heap) (z : ℕ) (clears : Bool) (r : Reply) (words : List ℕ) : Type 0 where
  pub meets : Meets ws (allocate_with (fill_stores clears) ws h z) r words

pub allocate_meets : {ws : List ℕ} {h : Heap} {z : ℕ} {clears : Bool} {r : Reply} {words : List ℕ} → Allocated ws h z clears r words
    → Meets ws (allocate_with (fill_stores clears) ws h z) r words
allocate_meets a = a.meets

module _ {ws : List ℕ} {h : Heap} {z : ℕ} {clears : Bool} where
  pub allocate_fails : passes ws h ≡ false → Allocated ws h z clears (refused_reply h HeapFails) ws
  allocate_fails q = record { meets = rw q refl }

  module _ (q : passes ws h ≡ true) where
    pub allocate_refuses : permitted z ≡ false → Allocated ws h z clears (refused_reply h BlockSize) ws
    allocate_refuses k = record { meets = rw (q, k) refl }

    pub allocate_supplies : permitted z ≡ true → {n : ℕ} → n ≡ need_m z → {s : Summary} → s ≡ summary_of h
        → {b : Books} {r : Result Answered Refusal} → concluded b r ≡ supply_m (books ws h.heads h.tails) (table_of h) s (want n clears)
        → {a : Answered} → r ≡ Ok a → {after : Heap} → after ≡ with_ends (with_summary h a.summary) b.heads b.tails
        → Allocated ws h z clears (reply after a.answer) b.words
    allocate_supplies k en es {b} g eo ea =
        record { meets = rw ea (ap (λ r. recorded h (concluded b r)) (sym eo) ∙ ap (recorded h) (rw (es, en, permitted_need z k) at g) ∙ supply_is ws h q z k clears) }

    pub allocate_no_room : permitted z ≡ true → {n : ℕ} → n ≡ need_m z → {s : Summary} → s ≡ summary_of h
        → {b : Books} {r : Result Answered Refusal} → concluded b r ≡ supply_m (books ws h.heads h.tails) (table_of h) s (want n clears)
        → {why : Refusal} → r ≡ Err why → Allocated ws h z clears (refused_reply h why) b.words
    allocate_no_room k en es {b} g er =
        record { meets = ap (λ r. recorded h (concluded b r)) (sym er) ∙ ap (recorded h) (rw (es, en, permitted_need z k) at g) ∙ supply_is ws h q z k clears }
