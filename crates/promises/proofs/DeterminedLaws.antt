-- What each public call ensures admits one outcome (`determined`, and by name for each call). Assumes nothing.
use mathlib.Core.Path.{sym, ap, ◌∙◌}
use mathlib.Core.Bool.{Bool}
use mathlib.Core.List.{List}
use Prim.Native.Nat.{ℕ}
use Rattle.record.specs.declared.heap.Heap.{Heap}
use Rattle.rules.specs.Outcome.{Outcome}
use Rattle.rules.specs.Setup.{setup}
use Rattle.rules.specs.Allocate.{allocate, allocate_cleared}
use Rattle.rules.specs.Free.{free}
use Rattle.rules.specs.Reallocate.{reallocate}
use Rattle.rules.specs.Merge.{set_merge, check}
use Rattle.rules.specs.Ask.{ask_chunk, ask_bin}
use Rattle.rules.specs.Patrol.{patrol}
use Rattle.rules.specs.Statements.{Left, Meets, SetsUp, Allocates, AllocatesCleared, Frees, Reallocates, SetsMerge, Checks, AsksChunk, AsksBin, Patrols}
use Rattle.promises.specs.Determined.{Determined}

-- for any outcome
pub determined : (ws : List ℕ) (o : Outcome) → Determined (Meets ws o)
determined ws o r s us vs p q =
    let e = p ∙ sym q in
    (ap (λ (l : Left). record { answer = l.answer; heap = l.heap }) e, ap (λ (l : Left). l.words) e)

module _ (ws : List ℕ) where
  pub setup_determined : (table : List ℕ) (donor : ℕ) (merge : Bool) → Determined (SetsUp ws table donor merge)
  setup_determined table donor merge = determined ws (setup ws table donor merge)

  module _ (h : Heap) where
    pub allocate_determined : (z : ℕ) → Determined (Allocates ws h z)
    allocate_determined z = determined ws (allocate ws h z)

    pub cleared_determined : (count size : ℕ) → Determined (AllocatesCleared ws h count size)
    cleared_determined count size = determined ws (allocate_cleared ws h count size)

    pub free_determined : (b : ℕ) → Determined (Frees ws h b)
    free_determined b = determined ws (free ws h b)

    pub reallocate_determined : (b z : ℕ) → Determined (Reallocates ws h b z)
    reallocate_determined b z = determined ws (reallocate ws h b z)

    pub merge_determined : (on : Bool) → Determined (SetsMerge ws h on)
    merge_determined on = determined ws (set_merge ws h on)

    pub check_determined : Determined (Checks ws h)
    check_determined = determined ws (check ws h)

    pub chunk_determined : (question place : ℕ) → Determined (AsksChunk ws h question place)
    chunk_determined question place = determined ws (ask_chunk ws h question place)

    pub bin_determined : (question bin : ℕ) → Determined (AsksBin ws h question bin)
    bin_determined question bin = determined ws (ask_bin ws h question bin)

    pub patrol_determined : (chunks : ℕ) → Determined (Patrols ws h chunks)
    patrol_determined chunks = determined ws (patrol ws h chunks)
