-- Freeing a block on a draft that already has stores does what it does on the heap with those stores written (`free_reread`): every step on a draft
-- appends to its stores and reads none of them. Assumes nothing.
use mathlib.Core.Path.{◌≡◌, refl, sym, ap, ◌∙◌, fun_ext}
use mathlib.Core.List.{List, [], ◌∷◌, ◌++◌, append_assoc, append-nil}
use Prim.Native.Nat.{ℕ}
use Rattle.record.specs.declared.kinds.Kind.{Kind}
use Rattle.record.specs.declared.kinds.Kind.TheVariants.{Start, InUse, Ordinary, Donor, Top, End}
use Rattle.std.specs.Prelude.{Option, Some, None}
use Rattle.record.specs.Heap.{table_of}
use Rattle.record.specs.Table.{bin_of}
use Rattle.region.specs.Words.{Store}
use Rattle.rules.specs.Shape.{Entry, shape, bin_list}
use Rattle.rules.specs.Draft.{Draft, as_read, also_writes, relist, leave, on_bin, leave_bin, put_between, put_into, put_in_bin, relink, settle, now_uses}
use Rattle.rules.specs.Join.{joining, leave_bins, release, swallowing}
use Rattle.rules.specs.Free.{block_spot, free_block}
use Rattle.drafts.proofs.PutLaws.{put_between_lem}

-- the draft with the stores ss before its own
abbrev pub behind : List Store → Draft → Draft
behind ss d = record { heap = d.heap; chain = d.chain; lists = d.lists; stores = ss ++ d.stores }

-- two drafts that differ only in their stores
same_but : (d : Draft) (ss ts : List Store) → ss ≡ ts
    → ◌≡◌ {A = Draft} (record { heap = d.heap; chain = d.chain; lists = d.lists; stores = ss })
    (record { heap = d.heap; chain = d.chain; lists = d.lists; stores = ts })
same_but d ss ts q = ap (λ (x : List Store). record { heap = d.heap; chain = d.chain; lists = d.lists; stores = x }) q

module _ (ss : List Store) where
  writes_behind : (ts : List Store) (d : Draft) → also_writes ts (behind ss d) ≡ behind ss (also_writes ts d)
  writes_behind ts d = same_but d _ _ (append_assoc ss d.stores ts)

  relist_behind : (i : ℕ) (cs : List ℕ) (ts : List Store) (d : Draft) → relist i cs ts (behind ss d) ≡ behind ss (relist i cs ts d)
  relist_behind i cs ts d = same_but (relist i cs ts d) _ _ (append_assoc ss d.stores ts)

  -- for a step on the bin of a size it is enough to know it for every bin
  on_bin_behind : (step : ℕ → Draft → Draft) (d : Draft) → ((i : ℕ) → step i (behind ss d) ≡ behind ss (step i d))
      → (b : Option ℕ) → on_bin step b (behind ss d) ≡ behind ss (on_bin step b d)
  on_bin_behind step d f (Some i) = f i
  on_bin_behind step d f None = refl

  leave_bin_behind : (e : Entry) (d : Draft) → leave_bin e (behind ss d) ≡ behind ss (leave_bin e d)
  unfolding leave_bin leave
  leave_bin_behind e d = on_bin_behind (λ i. leave i e.place) d (λ i. relist_behind i _ _ d) (bin_of (table_of d.heap) e.size)

  leave_bins_behind : (es : List Entry) (d : Draft) → leave_bins es (behind ss d) ≡ behind ss (leave_bins es d)
  leave_bins_behind [] d = refl
  leave_bins_behind (e ∷ es) d = rw (leave_bin_behind e d) (leave_bins_behind es (leave_bin e d))

  put_in_bin_behind : (e : Entry) (d : Draft) → put_in_bin e (behind ss d) ≡ behind ss (put_in_bin e d)
  unfolding put_in_bin put_between
  put_in_bin_behind e d =
      on_bin_behind (λ i. put_into i e) d (λ i. rw (put_between_lem i e (behind ss d), put_between_lem i e d) (relist_behind i _ _ d))
      (bin_of (table_of d.heap) e.size)

  settle_behind : (k : Kind) (e : Entry) (d : Draft) → settle k e (behind ss d) ≡ behind ss (settle k e d)
  unfolding settle
  settle_behind Start e d = refl
  settle_behind InUse e d = refl
  settle_behind Ordinary e d = put_in_bin_behind e d
  settle_behind Donor e d = writes_behind _ _
  settle_behind Top e d = writes_behind _ _
  settle_behind End e d = refl

  relink_behind : (low es high : List Entry) (d : Draft) → relink low es high (behind ss d) ≡ behind ss (relink low es high d)
  unfolding relink
  relink_behind low es high d = same_but (relink low es high d) _ _ (simp append_assoc)

  release_behind : (low : List Entry) (e : Entry) (high : List Entry) (d : Draft) → release low e high (behind ss d) ≡ behind ss (release low e high d)
  unfolding release
  release_behind low e high d =
      let j = joining d.heap low e high in
      rw (
        leave_bins_behind j.leaving d,
        relink_behind j.low (j.here ∷ []) j.high (leave_bins j.leaving d),
      )
      (ap (swallowing j.here) (settle_behind j.becomes j.here (relink j.low (j.here ∷ []) j.high (leave_bins j.leaving d))))

  free_behind : (b : ℕ) (d : Draft) → free_block b (behind ss d) ≡ behind ss (free_block b d)
  unfolding free_block
  free_behind b d =
      let s = block_spot d b in
      ap (now_uses s.here.size 0) (release_behind s.low s.here s.high d)

-- the draft d is what is read of the words W, with its own stores before
read_behind : (W : List ℕ) (d : Draft) → shape W d.heap.bytes ≡ d.chain → ((i : ℕ) → bin_list W d.heap i ≡ d.lists i)
    → behind d.stores (as_read W d.heap) ≡ d
unfolding as_read
read_behind W d c l = rw (c, fun_ext l, append-nil)

-- freeing the block at b on the draft d, and on what is read of the words W, which d describes
pub free_reread : (W : List ℕ) (d : Draft) (b : ℕ) → shape W d.heap.bytes ≡ d.chain → ((i : ℕ) → bin_list W d.heap i ≡ d.lists i)
    → let afresh = free_block b (as_read W d.heap) in
    ((free_block b d).heap ≡ afresh.heap) × ((free_block b d).stores ≡ d.stores ++ afresh.stores)
free_reread W d b c l =
    let q = ap (free_block b) (sym (read_behind W d c l)) ∙ free_behind d.stores b (as_read W d.heap) in
    (ap (λ (x : Draft). x.heap) q, ap (λ (x : Draft). x.stores) q)
