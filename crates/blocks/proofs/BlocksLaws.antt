-- Clearing and copying, a word at a time. Assumes nothing.
use mathlib.Core.Path.{◌≡◌}
use mathlib.Core.List.{List, ◌++◌}
use Prim.Native.Nat.{ℕ, suc, ◌+◌, ◌-◌, ◌/◌, ◌≤◌, ◌<◌}
use native.Mathlib.Numerals.{add-one}
use native.Mathlib.Omega.{arith}
use lib.ListN.{length, take, drop, replicate, length-drop}
use lib.Seq.{length-take-le}
use borrow.Author.Tests.{le-leb, lt-leb}
use Rattle.region.specs.Words.{word, store}
use Rattle.blocks.specs.Blocks.{cleared_m, copied_m}

module _ (ws : List ℕ) (b end : ℕ) where
  pub cleared_backwards : end / 4 < b / 4 → ws ≡ cleared_m ws b end
  unfolding cleared_m
  cleared_backwards l = rw (lt-leb (b / 4) (end / 4) l)

  pub cleared_outside : b / 4 ≤ end / 4 → length ws < end / 4 → ws ≡ cleared_m ws b end
  unfolding cleared_m
  cleared_outside m l = rw (le-leb (b / 4) (end / 4) m, lt-leb (end / 4) (length ws) l)

  -- what is lent on, from the block's start to the chunk's end, comes back as zeros
  pub cleared_part : b / 4 ≤ end / 4 → end / 4 ≤ length ws → {after : List ℕ}
      → after ≡ replicate (length (take (end / 4 - b / 4) (drop (b / 4) ws))) 0
      → take (b / 4) ws ++ (after ++ drop (end / 4 - b / 4) (drop (b / 4) ws)) ≡ cleared_m ws b end
  unfolding cleared_m
  cleared_part m l e =
      let n : length (take (end / 4 - b / 4) (drop (b / 4) ws)) ≡ end / 4 - b / 4 =
      length-take-le (end / 4 - b / 4) (drop (b / 4) ws) (omega (arith, length-drop (b / 4) ws)) in
      rw (le-leb (b / 4) (end / 4) m, le-leb (end / 4) (length ws) l, e, n)

module _ (ws : List ℕ) (from to words k : ℕ) where
  pub copies_one : k < words → copied_m (words - (k + 1)) (store ws to k (word ws from k)) from to (k + 1) ≡ copied_m (words - k) ws from to k
  unfolding copied_m
  copies_one l =
      let e : words - k ≡ suc (words - (k + 1)) = omega arith in
      rw (e, add-one k)

  pub copies_done : words ≤ k → ws ≡ copied_m (words - k) ws from to k
  unfolding copied_m
  copies_done l =
      let e : words - k ≡ 0 = omega arith in
      rw e
