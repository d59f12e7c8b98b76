-- The order of the bins' lists (manual 3.3; document 02, request Five). The check asks for it outside the small array; a bin of the small array has one size,
-- so that to ask for it of every bin is the same (`every_bin_iff`). One after the other the bins are one list in order (`bins_in_order`). Assumes
-- nothing.
use mathlib.Core.Path.{◌≡◌, sym, ap, ◌∙◌}
use mathlib.Core.Logic.{◌↔◌}
use mathlib.Core.List.{List}
use Prim.Native.Nat.{ℕ, ◌+◌, ◌*◌, ◌%◌, ◌≤◌, ◌<◌}
use native.Mathlib.Decide.{dec_le}
use native.Mathlib.Omega.{arith}
use lib.Dec.{leb}
use borrow.Author.Tests.{eqb-true}
use Rattle.lists.specs.Lists.{Mem, head_or, keep, up_to, past, numbers_from, gathered, Ascending}
use Rattle.lists.proofs.AscendingLaws.{before_ascending, before_members, first_least}
use Rattle.lists.proofs.CountLaws.{gathered_ascending}
use Rattle.lists.proofs.ListsLaws.{number_is, for_some}
use Rattle.lists.proofs.SplitLaws.{first_splits, in_split}
use Rattle.record.specs.declared.heap.Heap.{Heap}
use Rattle.std.specs.Prelude.{Some}
use Rattle.record.specs.Heap.{table_of}
use Rattle.record.specs.Table.{ValidTable, bin_of, small_bins}
use Rattle.record.proofs.TableLaws.{bin_takes, sizes_grow, one_size}
use Rattle.rules.specs.Shape.{Entry, shape, bin_list}
use Rattle.rules.specs.Kinds.{is_at, outside, size_on}
use Rattle.rules.specs.Check.{Passes}
use Rattle.rules.proofs.ChainLaws.{Rising, same_place}
use Rattle.rules.proofs.SpotLaws.{inside, size_on_lem}

-- on a chain that goes up, `size_on` is the size of the chunk that is there
pub size_there : (from : ℕ) (es : List Entry) → Rising from es → (e : Entry) → Mem e es → (c : ℕ) → e.place ≡ c → size_on es c ≡ e.size
size_there from es up e m c q =
    let (split, holds) = first_splits (is_at c) outside es ((for_some (λ x. number_is x.place c) es).1 (e, m, q)) in
    let found = in_split (up_to (is_at c) es) (head_or outside (keep (is_at c) es)) (past (is_at c) es) split in
    ap (λ (d : Entry). d.size) (same_place from es up found m (eqb-true _ c holds ∙ sym q))

module _ (table : List ℕ) (valid : ValidTable table) (i : ℕ) (size : ℕ → ℕ) (cs : List ℕ)
    (takes : (c : ℕ) → Mem c cs → bin_of table (size c) ≡ Some i) (eights : (c : ℕ) → Mem c cs → size c % 8 ≡ 0) where
  -- all members of a small bin have one size
  small_in_order : i < small_bins table → Ascending size cs
  small_in_order l = before_ascending size cs (λ x y b. let (m, k) = before_members x y cs b in let p = only x m in let q = only y k in omega arith)
    where
      only : (c : ℕ) → Mem c cs → size c ≡ 24 + 8 * i
      only c m = one_size table valid (bin_takes table (takes c m)) l (eights c m)

  -- so the order may be asked of every bin
  pub every_bin_iff : (small_bins table ≤ i → Ascending size cs) ↔ Ascending size cs
  every_bin_iff = (λ f. go f (dec_le (small_bins table) i), λ r l. r)
    where
      go : (small_bins table ≤ i → Ascending size cs) → Dec (small_bins table ≤ i) → Ascending size cs
      go f (yes l) = f l
      go f (no n) = small_in_order (omega arith)

-- in a heap that passes the list of every bin is in order
pub lists_in_order : (ws : List ℕ) (h : Heap) → Passes ws h → (i : ℕ) → i < h.bins → Ascending (size_on (shape ws h.bytes)) (bin_list ws h i)
lists_in_order ws h p i l =
    (every_bin_iff (table_of h) p.table.valid i (size_on (shape ws h.bytes)) (bin_list ws h i)
    (λ c m. let (e, k, (q, b)) = (p.bins i l).chunks c m in rw (size_on_lem ws h p c e k q) b.1)
    (λ c m. let (e, k, (q, b)) = (p.bins i l).chunks c m in rw (size_on_lem ws h p c e k q) (inside ws h p e k).size)).0
    (p.bins i l).order

-- the k bins from i on, one after the other, are one list in order: the chunks of a larger bin are larger
pub bins_in_order : (ws : List ℕ) (h : Heap) → Passes ws h → (i k : ℕ) → i + k ≤ h.bins
    → Ascending (size_on (shape ws h.bytes)) (gathered (bin_list ws h) (numbers_from i k))
bins_in_order ws h p i k l =
    gathered_ascending (bin_list ws h) (size_on (shape ws h.bytes)) k i
    (λ j lo hi. lists_in_order ws h p j (omega arith))
    (λ j o lo less hi c d m n.
    let (x, on, (at, bin)) = (p.bins j (omega arith)).chunks c m in
    let (y, too, (there, other)) = (p.bins o (omega arith)).chunks d n in
    let grows = sizes_grow (table_of h) (bin_takes (table_of h) bin.1) (bin_takes (table_of h) other.1) less in
    let s = size_on_lem ws h p c x on at in
    let t = size_on_lem ws h p d y too there in
    omega arith)

-- so the first chunk of a bin that has n bytes, which first fit finds, is the smallest there that does
pub first_fit_smallest : (ws : List ℕ) (h : Heap) → Passes ws h → (i : ℕ) → i < h.bins → (n d : ℕ) → Mem d (bin_list ws h i)
    → let es = shape ws h.bytes in
    n ≤ size_on es d → size_on es (head_or 0 (keep (λ c. leb n (size_on es c)) (bin_list ws h i))) ≤ size_on es d
first_fit_smallest ws h p i l n d m fits = first_least (size_on (shape ws h.bytes)) n 0 (bin_list ws h i) (lists_in_order ws h p i l) d m fits
