-- Rotating by std is the digest's rotation, and folding by `mixed` is the digest. Assumes nothing.
use Prim.Native.Nat.{ℕ, ◌*◌, ◌/◌, ◌%◌, ◌^◌, ◌<◌}
use mathlib.Core.Path.{◌≡◌, refl}
use mathlib.Core.List.{List, [], ◌∷◌}
use native.Mathlib.Omega.{arith}
use lib.Bits.{or_shifted}
use Rattle.std.specs.Int.{w32, rotate_left}
use Rattle.std.specs.List.{fold}
use Rattle.vectors.specs.Digest.{rotated, mixed, digest_from}

-- the word shifted both ways and joined by `or`, which is a sum since the parts share no bit
pub rotates : (x : ℕ) → x < 2 ^ 32 → rotate_left w32 x 5 ≡ rotated x
unfolding rotated
rotates x small =
    let cut : (x * 2 ^ 5) % 2 ^ 32 ≡ (x % 2 ^ 27) * 2 ^ 5 = omega arith in
    rw cut (or_shifted (x % 2 ^ 27) 5 (x / 2 ^ 27) (omega arith))

pub folds : (d : ℕ) (ws : List ℕ) → fold mixed d ws ≡ digest_from d ws
unfolding digest_from
folds d [] = refl
folds d (w ∷ ws) = folds (mixed d w) ws
