-- The rules keep the promise `Fresh` (`fresh_heap`): what an accepted setup leaves, whatever the region held. Whatever way keeps it, no block of a fresh
-- heap is live (`none_live`). Assumes nothing.
use mathlib.Core.Path.{◌≡◌, refl, sym, ap, subst}
use mathlib.Core.Bool.{Bool, true, false, cond}
use mathlib.Core.List.Memᴰ
use mathlib.Core.List.{List, [], ◌∷◌, ◌++◌}
use Prim.Native.Nat.{ℕ, ◌+◌, ◌-◌}
use native.Mathlib.Decide.{ℕ_discrete}
use native.Mathlib.Omega.{arith}
use lib.Dec.{eqb}
use lib.ListN.{length, replicate}
use lib.Seq.{take-append_seam}
use Rattle.lists.specs.Lists.{Mem}
use Rattle.lists.proofs.ListsLaws.{each_cons}
use Rattle.record.specs.Heap.{empty}
use Rattle.rules.specs.Shape.{Entry, entry, heap_bytes}
use Rattle.rules.specs.Kinds.{live_kind, live}
use Rattle.rules.specs.Setup.{setup, setup_refusals, opened}
use Rattle.rules.specs.Statements.{Left, left_by}
use Rattle.rules.specs.Calls.{step}
use Rattle.rules.proofs.KindsLaws.{kind_start, kind_end, free_not_live_lem}
use Rattle.promises.specs.Ways.{ours}
use Rattle.promises.specs.Room.{OnChain}
use Rattle.promises.specs.Fresh.{FreshAs, Fresh}
use Rattle.promises.proofs.JudgedLaws.{accepted_made}
use Rattle.promises.proofs.FreshLaws.{Openable, openable, fresh_chain, fresh_found, lists_empty}

-- start and end are known by their places, donor and top are free
module _ {ws table : List ℕ} {donor : ℕ} {merge : Bool} {left : Left} (f : FreshAs ws table donor merge left) where
  abbrev NotLive : Entry → Type 0
  NotLive e = live left.heap e ≡ false

  at_start : (e : Entry) → e.place ≡ 0 → NotLive e
  at_start e q = ap live_kind (sym (kind_start left.heap.bytes left.heap.donor.0 left.heap.top.0 e q))

  at_end : (e : Entry) → e.place ≡ left.heap.bytes - 8 → NotLive e
  at_end e q = go (ℕ_discrete e.place 0)
    where
      go : Dec (e.place ≡ 0) → NotLive e
      go (yes z) = at_start e z
      go (no n) = ap live_kind (sym (kind_end left.heap.bytes left.heap.donor.0 left.heap.top.0 e n (omega arith)))

  first_none : (t : Bool) (d top end : Entry) → d.flags ≡ 0 → top.flags ≡ 0 → end.place ≡ left.heap.bytes - 8
      → (e : Entry) → Mem e (entry 0 8 1 ∷ cond t [] (d ∷ []) ++ top ∷ end ∷ []) → NotLive e
  first_none t d top end free unused last =
      each_cons (at_start (entry 0 8 1) refl) (go t)
    where
      above : (e : Entry) → Mem e (top ∷ end ∷ []) → NotLive e
      above = each_cons (free_not_live_lem left.heap top unused) (each_cons (at_end end last) (λ e m. absurd (Memᴰ.not-nil m)))

      go : (t : Bool) → (e : Entry) → Mem e (cond t [] (d ∷ []) ++ top ∷ end ∷ []) → NotLive e
      go true = above
      go false = each_cons (free_not_live_lem left.heap d free) above

  pub none_live : (e : Entry) → OnChain left.words left.heap e → live left.heap e ≡ false
  none_live e m =
      let bytes = heap_bytes (length ws) in
      first_none (eqb donor 0) (entry 8 donor 0) (entry (8 + donor) (bytes - 8 - (8 + donor)) 0) (entry (bytes - 8) 8 1) refl refl
      (ap (λ (x : ℕ). x - 8) (sym f.bytes)) e (subst (λ (es : List Entry). Mem e es) f.chain m)

-- what the rules' own setup leaves
opened_fresh : (ws table : List ℕ) (donor : ℕ) (merge : Bool) → Openable ws table donor
    → FreshAs ws table donor merge (left_by ws (opened (heap_bytes (length ws)) table donor merge))
opened_fresh ws table donor merge o =
    let chain = fresh_chain ws table merge o.valid o.enough o.few donor o.fitting in
    record {
      bytes = refl;
      chain = chain;
      table = take-append_seam table (replicate (32 - length table) 0);
      merge = refl;
      bins = lists_empty ws table merge o.valid o.enough o.few donor;
      used = refl;
      patrol = refl;
      found = λ e m. fresh_found ws table merge o.valid o.enough o.few donor o.fitting e (subst (λ (es : List Entry). Mem e es) chain m);
    }

pub fresh_heap : Fresh ours
unfolding ours step setup
fresh_heap table donor merge ws h a =
    let (failed, is) = accepted_made empty (opened (heap_bytes (length ws)) table donor merge) (setup_refusals ws table donor) a in
    rw is (opened_fresh ws table donor merge (openable ws table donor failed))
