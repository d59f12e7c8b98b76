-- The search that halves a range of bins until one is left: which half has the bin of a size, and how many calls a search makes.
-- Assumes nothing.
use Prim.Native.Nat.{ℕ, zero, suc, ◌+◌, ◌-◌, ◌/◌, ◌^◌, ◌≤◌, ◌<◌}
use native.Mathlib.Decide.{ℕ_discrete, dec_le, dec_lt}
use native.Mathlib.Omega.{arith}
use mathlib.Core.Path.{◌≡◌, refl}
use mathlib.Core.Bool.{cond}
use mathlib.Core.List.{List}
use borrow.Author.Tests.{le-leb, lt-leb}
use lib.Dec.{leb}
use lib.ListN.{length}
use Rattle.record.specs.Table.{size_at, ValidTable, Takes, TakenWithin}
use Rattle.record.proofs.TableLaws.{table_up, bin_from}

-- the calls that a search of w bins makes at most, counted up to `most` after the first: one where there are two bins or one, and
-- else one more than the larger half takes
abbrev calls : ℕ → ℕ → ℕ
calls zero w = 1
calls (suc most) w = cond (leb w 2) 1 (suc (calls most (w - w / 2)))

-- the depth of the recursion on a range of w bins, the first call among it
unfoldable pub depth : ℕ → ℕ
depth w = calls w w

calls_one : (most w : ℕ) → w ≤ 2 → calls most w ≡ 1
calls_one zero w h = refl
calls_one (suc most) w h = rw (le-leb w 2 h)

calls_more : (most w : ℕ) → 2 < w → calls (suc most) w ≡ suc (calls most (w - w / 2))
calls_more most w h = rw (lt-leb w 2 h)

calls_some : (most w : ℕ) → 1 ≤ calls most w
calls_some zero w = omega arith
calls_some (suc most) w = go (dec_le w 2)
  where
    go : Dec (w ≤ 2) → 1 ≤ calls (suc most) w
    go (yes l) = let o = calls_one (suc most) w l in omega arith
    go (no n) = let o = calls_more most w (omega arith) in omega arith

pub depth_some : (w : ℕ) → 1 ≤ depth w
unfolding depth
depth_some w = calls_some w w

-- a wider range takes no fewer calls
calls_rise : (f g v w : ℕ) → v ≤ w → w ≤ g → calls f v ≤ calls g w
calls_rise zero g v w h e = calls_some g w
calls_rise (suc f) zero v w h e = let o = calls_one (suc f) v (omega arith) in omega arith
calls_rise (suc f) (suc g) v w h e =
    go (dec_le v 2) (λ l. calls_rise f g (v - v / 2) (w - w / 2) (omega arith) (omega arith))
  where
    go : Dec (v ≤ 2) → (2 < v → calls f (v - v / 2) ≤ calls g (w - w / 2)) → calls (suc f) v ≤ calls (suc g) w
    go (yes l) halved = let o = calls_one (suc f) v l in omega (arith, calls_some (suc g) w)
    go (no n) halved =
        let a = calls_more f v (omega arith) in
        let b = calls_more g w (omega arith) in
        let c = halved (omega arith) in
        omega arith

-- a range of more than two bins takes more calls than a part of it that is not larger than its larger half
part_takes_fewer : (v w : ℕ) → 2 < w → v ≤ w - w / 2 → depth v < depth w
unfolding depth
part_takes_fewer v zero h e = absurd (omega arith)
part_takes_fewer v (suc w) h e =
    let a = calls_more w (suc w) h in
    let b = calls_rise v w v (suc w - suc w / 2) e (omega arith) in
    omega arith

pub depth_falls : {v w d : ℕ} → depth w ≡ d → 2 < w → v ≤ w - w / 2 → depth v < d
depth_falls {v} {w} is h e = let f = part_takes_fewer v w h e in omega arith

calls_few : (k most w : ℕ) → w ≤ 2 ^ suc k → calls most w ≤ suc k
calls_few zero most w h = let o = calls_one most w h in omega arith
calls_few (suc k) zero w h = omega arith
calls_few (suc k) (suc most) w h = go (dec_le w 2) (calls_few k most (w - w / 2) (omega arith))
  where
    go : Dec (w ≤ 2) → calls most (w - w / 2) ≤ suc k → calls (suc most) w ≤ suc (suc k)
    go (yes l) halved = let o = calls_one (suc most) w l in omega arith
    go (no n) halved = let a = calls_more most w (omega arith) in omega arith

-- up to 2 to the power k bins are searched k calls deep, if k is not 0; so any table is searched 5 deep: it has 32 bins at most
pub depth_few : (k w : ℕ) → w ≤ 2 ^ suc k → depth w ≤ suc k
unfolding depth
depth_few k w h = calls_few k w w h

pub five_deep : (t : List ℕ) → ValidTable t → depth (length t) ≤ 5
five_deep t v = depth_few 4 (length t) v.few

-- the search begins with the whole table
pub whole_table : (t : List ℕ) → ValidTable t → (s : ℕ) → 24 ≤ s → TakenWithin t s 0 (length t)
whole_table t v s h =
    let (i, is, takes) = bin_from t v s h in
    record {
      valid = v;
      inside = omega arith;
      bin = i;
      takes = takes;
      from = omega arith;
      below = omega (arith, takes.inside);
    }

module _ {t : List ℕ} {s low width : ℕ} (k : TakenWithin t s low width) where
  -- a bin that is neither below nor above the bin that takes the size takes it
  pub only_bin : {i : ℕ} → i ≤ k.bin → k.bin ≤ i → Takes t s i
  only_bin {i} from to =
      let e : k.bin ≡ i = omega arith in
      rw e at k.takes

  -- a bin that is not above the size is not above the bin that takes it
  pub not_after : (i : ℕ) → i < length t → size_at t i ≤ s → i ≤ k.bin
  not_after i l h = go (dec_le i k.bin)
    where
      go : Dec (i ≤ k.bin) → i ≤ k.bin
      go (yes q) = q
      go (no n) = let a = k.takes.last i (omega arith) l in absurd (omega arith)

  -- a bin that is above the size is above the bin that takes it
  pub after : (i : ℕ) → i < length t → s < size_at t i → k.bin < i
  after i l h = go (dec_lt k.bin i)
    where
      up : Dec (i ≡ k.bin) → i ≤ k.bin → size_at t i ≤ size_at t k.bin
      up (yes e) q = rw e (omega arith)
      up (no n) q = let a = table_up t k.valid i k.bin (omega arith) k.takes.inside in omega arith

      go : Dec (k.bin < i) → k.bin < i
      go (yes q) = q
      go (no n) =
          let a = up (ℕ_discrete i k.bin) (omega arith) in
          absurd (omega (arith, k.takes.not_above))

  -- a part of the range that still has the bin
  pub narrowed : {low' width' : ℕ} → low' + width' ≤ length t → low' ≤ k.bin → k.bin < low' + width' → TakenWithin t s low' width'
  narrowed inside from below =
      record { valid = k.valid; inside = inside; bin = k.bin; takes = k.takes; from = from; below = below }
