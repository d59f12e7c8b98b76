-- Marks after one is turned over, and in a clear bitmap. Assumes nothing.
-- What a flip does rests on one law of bits, `bit_flipped`.
use mathlib.Core.Path.{◌≡◌, refl, ◌∙◌}
use mathlib.Core.Bool.{Bool, true, false, not, cond}
use mathlib.Core.List.{List}
use Prim.Native.Nat.{ℕ, zero, suc, ◌+◌, ◌-◌, ◌/◌, ◌%◌, ◌^◌, ◌*◌, ◌<◌, ◌≤◌}
use native.Mathlib.Decide.{ℕ_discrete, dec_lt}
use native.Mathlib.Nat.{mod-lt, zero-div, div_self, div-eq_of_lt, pow-suc, mul-mod_left, zero-mul, one-mul}
use native.Mathlib.Omega.{arith}
use lib.Bits.{bit_and, bit_xor, and_high, xor_shr, xor_mod}
use lib.Dec.{eqb}
use lib.ListN.{length, get_or, length-set, set, replicate}
use lib.Pow.{pow_pos, pow-lt, pow-add, shl-shr, shl_exact, high_ones}
use lib.Seq.{get_or-set_same, get_or-set_other, set_out}
use borrow.Author.Tests.{eq-eqb, ne_eqb}
use Rattle.lists.proofs.ListsLaws.{zero_at}
use Rattle.marks.specs.Marks.{marked, flipped}

-- the power of two by its bits: bit k alone
power_bit : (k j : ℕ) → 2 ^ k / 2 ^ j % 2 ≡ cond (eqb j k) 1 0
power_bit k j = go (ℕ_discrete j k) (dec_lt j k)
  where
    go : Dec (j ≡ k) → Dec (j < k) → 2 ^ k / 2 ^ j % 2 ≡ cond (eqb j k) 1 0
    go (yes e) _ = rw (e, eq-eqb k k refl, div_self (pow_pos k))
    go (no ne) (yes l) =
        let e : k ≡ suc (k - suc j) + j = omega arith in
        rw (ne_eqb j k ne, e, pow-add, shl-shr, pow-suc, mul-mod_left)
    go (no ne) (no g) = let l : k < j = omega arith in rw (ne_eqb j k ne, div-eq_of_lt (pow-lt l))

-- whether bit j of w is set
abbrev bit : ℕ → ℕ → Bool
bit w j = eqb (w / 2 ^ j % 2) 1

-- w xor 2 ^ k is w with bit k turned over and every other bit kept
bit_flipped : (w k j : ℕ) → bit (bit_xor w (2 ^ k)) j ≡ cond (eqb j k) (not (bit w j)) (bit w j)
bit_flipped w k j =
    rw (xor_shr, xor_mod (w / 2 ^ j) (2 ^ k / 2 ^ j) 1, power_bit) (go (eqb j k) (w / 2 ^ j % 2) (mod-lt _ (omega arith)))
  where
    go : (t : Bool) (x : ℕ) → x < 2 → eqb (bit_xor x (cond t 1 0)) 1 ≡ cond t (not (eqb x 1)) (eqb x 1)
    go true zero h = refl
    go true (suc zero) h = refl
    go false zero h = refl
    go false (suc zero) h = refl
    go t (suc (suc x)) h = absurd (omega arith)

-- w and 2 ^ k have a bit in common exactly if bit k of w is set
bit_tested : (w k : ℕ) → not (eqb (bit_and w (2 ^ k)) 0) ≡ bit w k
bit_tested w k =
    let alone : 2 ^ (1 + k) - 2 ^ k ≡ 2 ^ k = high_ones 1 k ∙ one-mul _ in
    rw (rw alone at (and_high w 1 k)) (go (w / 2 ^ k % 2) (mod-lt _ (omega arith)))
  where
    go : (x : ℕ) → x < 2 → not (eqb (x * 2 ^ k) 0) ≡ eqb x 1
    go zero h = rw zero-mul
    go (suc zero) h = rw (one-mul, ne_eqb (2 ^ k) 0 (λ e. omega (arith, pow_pos k)))
    go (suc (suc x)) h = absurd (omega arith)

-- the code's bit of a mark: the shift loses nothing
pub shifted : (n : ℕ) → 1 * 2 ^ (n % 32) % 2 ^ 32 ≡ 2 ^ (n % 32)
shifted n = let l : 1 + n % 32 ≤ 32 = omega arith in shl_exact 1 (n % 32) 32 (omega arith) l ∙ one-mul _

-- the code's test of a mark
mark_tested : (ms : List ℕ) (c : ℕ) → not (eqb (bit_and (get_or ms (c / 256) 0) (2 ^ (c / 8 % 32))) 0) ≡ marked ms c
unfolding marked
mark_tested ms c = bit_tested (get_or ms (c / 256) 0) (c / 8 % 32)

-- the same of a mark by its number
pub mark_numbered : (ms : List ℕ) (k : ℕ) → not (eqb (bit_and (get_or ms (k / 32) 0) (2 ^ (k % 32))) 0) ≡ marked ms (8 * k)
mark_numbered ms k =
    let i : k / 32 ≡ 8 * k / 256 = omega arith in
    let bit : k % 32 ≡ 8 * k / 8 % 32 = omega arith in
    rw (i, bit) (mark_tested ms (8 * k))

pub length_flipped : (ms : List ℕ) (c : ℕ) → length (flipped ms c) ≡ length ms
unfolding flipped
length_flipped ms c = length-set ms (c / 256) _

pub flip_same : (ms : List ℕ) (c : ℕ) → c / 256 < length ms → marked (flipped ms c) c ≡ not (marked ms c)
unfolding marked flipped
flip_same ms c h =
    rw (get_or-set_same, bit_flipped (get_or ms (c / 256) 0), eq-eqb (c / 8 % 32) (c / 8 % 32) refl)

pub flip_other : (ms : List ℕ) (c d : ℕ) → (c / 8 ≡ d / 8 → ⊥) → marked (flipped ms c) d ≡ marked ms d
unfolding marked flipped
flip_other ms c d ne =
    kept (c / 256) (c / 8 % 32) (d / 256) (d / 8 % 32) (ℕ_discrete (d / 256) (c / 256)) (dec_lt (c / 256) (length ms))
    (λ e f. omega arith)
  where
    kept : (i k h j : ℕ) → Dec (h ≡ i) → Dec (i < length ms) → (h ≡ i → j ≡ k → ⊥)
        → bit (get_or (set ms i (bit_xor (get_or ms i 0) (2 ^ k))) h 0) j ≡ bit (get_or ms h 0) j
    kept i k h j (no other) _ _ = rw (get_or-set_other ms i h _ 0 other)
    kept i k h j (yes e) (yes l) n =
        rw (e, get_or-set_same ms i _ 0 l, bit_flipped (get_or ms i 0) k j, ne_eqb j k (n e))
    kept i k h j (yes e) (no g) _ = rw (set_out ms i _ (omega arith))

pub clear_marks : (n c : ℕ) → marked (replicate n 0) c ≡ false
unfolding marked
clear_marks n c = rw (zero_at n (c / 256), zero-div)
