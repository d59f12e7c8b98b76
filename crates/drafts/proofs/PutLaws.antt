-- Where the rules put a chunk into a bin's list: between two parts of it (`put_between_lem`). All other laws speak of any two parts, so a rule
-- that puts chunks elsewhere changes only the definitions here. Assumes nothing.
use mathlib.Core.Path.{◌≡◌, refl}
use mathlib.Core.Bool.{Bool, true, false, cond}
use mathlib.Core.List.{List, [], ◌++◌}
use Prim.Native.Nat.{ℕ}
use lib.Dec.{ltb}
use Rattle.lists.specs.Lists.{up_to, on_from}
use Rattle.lists.proofs.AscendingLaws.{parts_at_first}
use Rattle.record.specs.Heap.{table_of}
use Rattle.record.specs.Table.{small_bins}
use Rattle.rules.specs.Shape.{Entry}
use Rattle.rules.specs.Draft.{Draft, larger, put_between, put_into}

-- the parts before and after the chunk e in bin i: small bins are last in, first out; in the others the first larger chunk follows it
abbrev pub part_before : ℕ → Entry → Draft → List ℕ
part_before i e d = cond (ltb i (small_bins (table_of d.heap))) [] (up_to (larger d.chain e) (d.lists i))

abbrev pub part_after : ℕ → Entry → Draft → List ℕ
part_after i e d = cond (ltb i (small_bins (table_of d.heap))) (d.lists i) (on_from (larger d.chain e) (d.lists i))

module _ (i : ℕ) (e : Entry) (d : Draft) where
  pub parts_whole : d.lists i ≡ part_before i e d ++ part_after i e d
  parts_whole = go (ltb i (small_bins (table_of d.heap)))
    where
      go : (t : Bool)
          → d.lists i ≡ cond t [] (up_to (larger d.chain e) (d.lists i)) ++ cond t (d.lists i) (on_from (larger d.chain e) (d.lists i))
      go true = refl
      go false = parts_at_first (larger d.chain e) (d.lists i)

  pub put_between_lem : put_into i e d ≡ put_between i (part_before i e d) e.place (part_after i e d) d
  unfolding put_into
  put_between_lem = go (ltb i (small_bins (table_of d.heap)))
    where
      go : (t : Bool)
          → cond t (put_between i [] e.place (d.lists i) d)
          (put_between i (up_to (larger d.chain e) (d.lists i)) e.place (on_from (larger d.chain e) (d.lists i)) d)
          ≡ put_between i (cond t [] (up_to (larger d.chain e) (d.lists i))) e.place (cond t (d.lists i) (on_from (larger d.chain e) (d.lists i))) d
      go true = refl
      go false = refl
