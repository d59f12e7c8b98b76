-- The tests of both allocates, free and reallocate decide the reasons of their refusals
-- (`allocate_judged`, `cleared_judged`, `free_judged`, `reallocate_judged`). Assumes nothing.
use Rattle.std.specs.Prelude.{is_none}
use mathlib.Core.Path.{◌≡◌, refl, ap}
use mathlib.Core.Logic.{◌↔◌}
use mathlib.Core.Bool.{Bool, true, false, not, ◌&&◌}
use mathlib.Core.List.{List, [], ◌∷◌}
use Prim.Native.Nat.{ℕ, ◌*◌, ◌<◌}
use native.Mathlib.Decide.{ℕ_discrete}
use native.Mathlib.Omega.{arith}
use lib.Dec.{eqb, ltb}
use borrow.Author.Tests.{eq-eqb, ne_eqb}
use Rattle.lists.specs.Lists.{Mem}
use Rattle.lists.proofs.ListsLaws.{Decides, number_is, meaning, both, denied}
use Rattle.record.specs.declared.answers.Refusal.{Refusal}
use Rattle.record.specs.declared.answers.Refusal.TheVariants.{HeapFails, BlockSize, NotLive, NoRoom}
use Rattle.record.specs.declared.heap.Heap.{Heap}
use Rattle.region.specs.Words.{Store}
use Rattle.rules.specs.Shape.{Entry}
use Rattle.rules.specs.Kinds.{overhead}
use Rattle.rules.specs.Check.{Passes}
use Rattle.rules.specs.Draft.{as_read}
use Rattle.rules.specs.Serve.{most_bytes, need, permitted}
use Rattle.rules.specs.Outcome.{Refusals, judged, heap_fails}
use Rattle.rules.specs.Allocate.{source_of, as_found, cleared, allocate, allocate_cleared, allocate_refusals, allocated}
use Rattle.rules.specs.Free.{is_live, block_spot, free, free_refusals, freed}
use Rattle.rules.specs.Reallocate.{resize, reallocate, resize_refusals, resized_to}
use Rattle.rules.specs.Calls.{Call, Allocate, AllocateCleared, Free, Reallocate, step}
use Rattle.promises.specs.Room.{HoldsBlock, NoneServes}
use Rattle.promises.specs.Refusing.{WrongSize, Because, fails, allocate_size, cleared_size, reallocate_size, free_not_live, reallocate_not_live, allocate_room, cleared_room, reallocate_room, asks_check, refused_record}
use Rattle.promises.proofs.ServeLaws.{room_iff}
use Rattle.promises.proofs.JudgedLaws.{accepts, first, second, third, fourth, Judging, fails_iff, well}
use Rattle.promises.proofs.ReasonLaws.{range_iff, live_iff, outgrown_iff}

-- the refusals of a call that grants a block of z bytes
abbrev allocating : List ℕ → Heap → ℕ → Refusals
allocating ws h z = allocate_refusals (heap_fails ws h) (as_read ws h) z

-- the two reasons of such a call, besides that of a heap that fails
record Asking (ws : List ℕ) (h : Heap) (call : Call) (z : ℕ) : Type 0 where
  other : asks_check call ≡ true
  size : WrongSize z ↔ Because ws h call BlockSize
  room : NoneServes ws h (need overhead z) ↔ Because ws h call NoRoom
  stands : (r : Refusal) → Because ws h call r → Mem r (HeapFails ∷ BlockSize ∷ NoRoom ∷ [])

-- a call that grants a block of z bytes, into which `fill` is written
allocating_judged : {ws : List ℕ} {h : Heap} {call : Call} (fill : Entry → List Store) (z : ℕ) → Asking ws h call z
    → step call ws h ≡ judged (refused_record call h) (allocating ws h z) (allocated fill (as_read ws h) z) → Judging call ws h
allocating_judged {ws} {h} {call} fill z asks is =
    record {
      tests = allocating ws h z;
      made = allocated fill (as_read ws h) z;
      accepted = accepts refl;
      is = is;
      rising = omega arith;
      stands = asks.stands;
      decided = (
        fails_iff ws h call asks.other,
        λ f. (
          meaning (range_iff most_bytes z) asks.size.0 asks.size.1,
          λ _. (
            meaning (room_iff ws h (well ws h call asks.other f) (need overhead z) (omega arith)) asks.room.0 asks.room.1,
            λ _. tt,
          ),
        ),
      );
    }

module _ (ws : List ℕ) (h : Heap) where
  pub allocate_judged : (z : ℕ) → Judging (Allocate z) ws h
  unfolding step allocate
  allocate_judged z =
      allocating_judged as_found z
      (record {
        other = refl;
        size = (λ w. allocate_size w, λ k. elim k [ allocate_size w ↦ w ]);
        room = (λ w. allocate_room w, λ k. elim k [ allocate_room w ↦ w ]);
        stands = stands;
      })
      refl
    where
      stands : (r : Refusal) → Because ws h (Allocate z) r → Mem r (HeapFails ∷ BlockSize ∷ NoRoom ∷ [])
      stands r (fails s n) = first
      stands r (allocate_size w) = second
      stands r (allocate_room w) = third

  pub cleared_judged : (count size : ℕ) → Judging (AllocateCleared count size) ws h
  unfolding step allocate_cleared
  cleared_judged count size =
      allocating_judged cleared (count * size)
      (record {
        other = refl;
        size = (λ w. cleared_size w, λ k. elim k [ cleared_size w ↦ w ]);
        room = (λ w. cleared_room w, λ k. elim k [ cleared_room w ↦ w ]);
        stands = stands;
      })
      refl
    where
      stands : (r : Refusal) → Because ws h (AllocateCleared count size) r → Mem r (HeapFails ∷ BlockSize ∷ NoRoom ∷ [])
      stands r (fails s n) = first
      stands r (cleared_size w) = second
      stands r (cleared_room w) = third

  pub free_judged : (b : ℕ) → Judging (Free b) ws h
  unfolding step free
  free_judged b =
      record {
        tests = free_refusals (heap_fails ws h) (as_read ws h) b;
        made = freed (as_read ws h) b;
        accepted = accepts refl;
        is = refl;
        rising = omega arith;
        stands = stands;
        decided = (fails_iff ws h (Free b) refl, λ _. (lives, λ _. tt));
      }
    where
      lives : Decides (not (eqb b 0) && not (is_live (as_read ws h) b)) (Because ws h (Free b) NotLive)
      lives =
          meaning (both (denied (number_is b 0)) (denied (live_iff ws h b)))
          (λ k. free_not_live (omega arith, λ e m. k.1 (e, m)))
          (λ k. elim k [ free_not_live n ↦ (λ z. omega arith, λ (e, m). n.1 e m) ])

      stands : (r : Refusal) → Because ws h (Free b) r → Mem r (HeapFails ∷ NotLive ∷ [])
      stands r (fails s n) = first
      stands r (free_not_live w) = second

  -- block 0 is no live block
  none_held : (e : Entry) → HoldsBlock ws h 0 e → ⊥
  none_held e k = omega arith

  -- reallocate of block 0, and of any other
  new_judged : (b z : ℕ) → b ≡ 0 → Judging (Reallocate b z) ws h
  unfolding step reallocate allocate
  new_judged b z e =
      allocating_judged as_found z (record { other = refl; size = sizes; room = rooms; stands = stands }) (rw (eq-eqb b 0 e) refl)
    where
      sizes : WrongSize z ↔ Because ws h (Reallocate b z) BlockSize
      sizes = (λ w. reallocate_size w, λ k. elim k [ reallocate_size w ↦ w ])

      rooms : NoneServes ws h (need overhead z) ↔ Because ws h (Reallocate b z) NoRoom
      rooms = (λ w. reallocate_room {b = b} (λ d k. absurd (none_held d (rw e at k)), w), λ k. elim k [ reallocate_room w ↦ w.1 ])

      stands : (r : Refusal) → Because ws h (Reallocate b z) r → Mem r (HeapFails ∷ BlockSize ∷ NoRoom ∷ [])
      stands r (fails s n) = first
      stands r (reallocate_size w) = second
      stands r (reallocate_not_live w) = absurd (omega arith)
      stands r (reallocate_room w) = third

  resize_judged : (b z : ℕ) → 0 < b → Judging (Reallocate b z) ws h
  unfolding step reallocate resize
  resize_judged b z l =
      let before = as_read ws h in
      record {
        tests = resize_refusals (heap_fails ws h) before b z;
        made = resized_to ws before b z;
        accepted = accepts refl;
        is = rw (ne_eqb b 0 (omega arith)) refl;
        rising = omega arith;
        stands = stands;
        decided = (
          fails_iff ws h (Reallocate b z) refl,
          λ f. (sizes, λ _. (lives, λ k. (rooms (well ws h (Reallocate b z) refl f) (held k), λ _. tt))),
        );
      }
    where
      sizes : Decides (not (permitted z)) (Because ws h (Reallocate b z) BlockSize)
      sizes = meaning (range_iff most_bytes z) (λ w. reallocate_size w) (λ k. elim k [ reallocate_size w ↦ w ])

      lives : Decides (not (is_live (as_read ws h) b)) (Because ws h (Reallocate b z) NotLive)
      lives = meaning (denied (live_iff ws h b)) (λ k. reallocate_not_live {b = b} (l, λ e m. k (e, m))) (λ k. elim k [ reallocate_not_live n ↦ λ (e, m). n.1 e m ])

      held : (Because ws h (Reallocate b z) NotLive → ⊥) → (e : Entry) × HoldsBlock ws h b e
      held k = go (is_live (as_read ws h) b) refl
        where
          go : (t : Bool) → is_live (as_read ws h) b ≡ t → (e : Entry) × HoldsBlock ws h b e
          go true q = (live_iff ws h b).0 q
          go false q = absurd (k (lives.0 (ap not q)))

      rooms : Passes ws h → (e : Entry) × HoldsBlock ws h b e
          → Decides (ltb (block_spot (as_read ws h) b).here.size (need overhead z) && is_none (source_of (need overhead z) (as_read ws h)))
          (Because ws h (Reallocate b z) NoRoom)
      rooms p some =
          meaning (both (outgrown_iff ws h p b some (need overhead z)) (room_iff ws h p (need overhead z) (omega arith)))
          (λ w. reallocate_room w) (λ k. elim k [ reallocate_room w ↦ w ])

      stands : (r : Refusal) → Because ws h (Reallocate b z) r → Mem r (HeapFails ∷ BlockSize ∷ NotLive ∷ NoRoom ∷ [])
      stands r (fails s n) = first
      stands r (reallocate_size w) = second
      stands r (reallocate_not_live w) = third
      stands r (reallocate_room w) = fourth

  pub reallocate_judged : (b z : ℕ) → Judging (Reallocate b z) ws h
  reallocate_judged b z = go (ℕ_discrete b 0)
    where
      go : Dec (b ≡ 0) → Judging (Reallocate b z) ws h
      go (yes e) = new_judged b z e
      go (no n) = resize_judged b z (omega arith)
