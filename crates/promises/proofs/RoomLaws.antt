-- A way that refuses exactly for the table's reasons refuses for lack of room exactly when no chunk can serve (`refusing_room`);
-- so does the rules' own way (`room`). Assumes nothing.
use mathlib.Core.Path.{◌≡◌}
use mathlib.Core.Logic.{inl, inr}
use mathlib.Core.Bool.{true}
use mathlib.Core.List.{List}
use Prim.Native.Nat.{ℕ, ◌*◌, ◌≤◌, ◌<◌}
use native.Mathlib.Omega.{arith}
use Rattle.lists.proofs.ListsLaws.{at_most, both}
use Rattle.record.specs.declared.answers.Answer.TheVariants.{Refused}
use Rattle.record.specs.declared.answers.Refusal.{Refusal}
use Rattle.record.specs.declared.answers.Refusal.TheVariants.{NoRoom}
use Rattle.record.specs.declared.heap.Heap.{Heap}
use Rattle.rules.specs.Shape.{Entry}
use Rattle.rules.specs.Kinds.{overhead}
use Rattle.rules.specs.Check.{Passes}
use Rattle.rules.specs.Serve.{most_bytes, need, permitted}
use Rattle.rules.specs.Calls.{Allocate, AllocateCleared, Reallocate}
use Rattle.promises.specs.Ways.{Way, ours}
use Rattle.promises.specs.Room.{HoldsBlock, OnlyForRoom, Room}
use Rattle.promises.specs.Refusing.{WrongSize, NoBlock, NoPlace, Because, fails, allocate_size, cleared_size, reallocate_size, reallocate_not_live, allocate_room, cleared_room, reallocate_room, order_of, Refusing}
use Rattle.promises.proofs.RefusingLaws.{refusing}
use Rattle.promises.proofs.ReasonLaws.{one_block}

-- a permitted size is not wrong
not_wrong : (z : ℕ) → permitted z ≡ true → WrongSize z → ⊥
not_wrong z t w = go ((both (at_most 1 z) (at_most z most_bytes)).0 t) w
  where
    go : (1 ≤ z) × (z ≤ most_bytes) → WrongSize z → ⊥
    go k (inl e) = omega arith
    go k (inr l) = omega arith

module _ (way : Way) (refuses : Refusing way) (ws : List ℕ) (h : Heap) (p : Passes ws h) where
  allocates : (z : ℕ) → permitted z ≡ true → OnlyForRoom way (Allocate z) ws h z
  allocates z t = (
    λ e. elim ((refuses.exactly (Allocate z) ws h NoRoom).0 e).because [ allocate_room w ↦ w ],
    λ none. (refuses.exactly (Allocate z) ws h NoRoom).1 (record { because = allocate_room none; before = before }),
  )
    where
      before : (q : Refusal) → order_of q < order_of NoRoom → Because ws h (Allocate z) q → ⊥
      before q l (fails s n) = n p
      before q l (allocate_size w) = not_wrong z t w
      before q l (allocate_room w) = omega arith

  clears : (count size : ℕ) → permitted (count * size) ≡ true → OnlyForRoom way (AllocateCleared count size) ws h (count * size)
  clears count size t = (
    λ e. elim ((refuses.exactly (AllocateCleared count size) ws h NoRoom).0 e).because [ cleared_room w ↦ w ],
    λ none. (refuses.exactly (AllocateCleared count size) ws h NoRoom).1 (record { because = cleared_room none; before = before }),
  )
    where
      before : (q : Refusal) → order_of q < order_of NoRoom → Because ws h (AllocateCleared count size) q → ⊥
      before q l (fails s n) = n p
      before q l (cleared_size w) = not_wrong (count * size) t w
      before q l (cleared_room w) = omega arith

  -- what a reallocation refused for lack of room says
  no_place : (b z : ℕ) → (way (Reallocate b z) ws h).answer ≡ Refused NoRoom → NoPlace ws h b (need overhead z)
  no_place b z e = elim ((refuses.exactly (Reallocate b z) ws h NoRoom).0 e).because [ reallocate_room w ↦ w ]

  reallocates : (b z : ℕ) → permitted z ≡ true → (NoBlock ws h b → ⊥) → ((e : Entry) → HoldsBlock ws h b e → e.size < need overhead z)
      → OnlyForRoom way (Reallocate b z) ws h z
  reallocates b z t there grows = (
    λ e. (no_place b z e).1,
    λ none. (refuses.exactly (Reallocate b z) ws h NoRoom).1 (record { because = reallocate_room (grows, none); before = before }),
  )
    where
      before : (q : Refusal) → order_of q < order_of NoRoom → Because ws h (Reallocate b z) q → ⊥
      before q l (fails s n) = n p
      before q l (reallocate_size w) = not_wrong z t w
      before q l (reallocate_not_live w) = there w
      before q l (reallocate_room w) = omega arith

pub refusing_room : (way : Way) → Refusing way → Room way
refusing_room way refuses ws h p =
    record {
      allocate = allocates way refuses ws h p;
      cleared = clears way refuses ws h p;
      no_block = λ z t. reallocates way refuses ws h p 0 z t (λ k. omega arith) (λ e k. absurd (omega arith));
      outgrown = λ b z t e k l.
          reallocates way refuses ws h p b z t (λ n. n.1 e k) (λ d m. rw (one_block ws h p b d e m k) l);
      fitting = λ b z e k l q. let g = (no_place way refuses ws h p b z q).0 e k in omega arith;
    }

pub room : Room ours
room = refusing_room ours refusing
