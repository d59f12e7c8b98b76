-- The test of the region's length as the code makes it, and what it leaves to rely on. That it is the rules' `Fits` is proved (`length_iff`).
use Rattle.std.specs.Prelude.{◌≡◌, Bool, ◌&&◌, List, ℕ, ◌*◌, ◌/◌, ◌%◌, ◌≤◌, eqb, leb, length}

unfoldable pub fits_length_m : ℕ → ℕ → Bool
fits_length_m words bytes = leb 10 words && leb words 16384 && eqb (words / 2 * 8) bytes

-- the words that the walks of the check are lent: those of the heap bytes, the even part of a region whose length fits
pub record Lent (ws : List ℕ) (bytes : ℕ) : Type 0 where
  pub words : 4 * length ws ≡ bytes
  pub eights : bytes % 8 ≡ 0
  pub enough : 40 ≤ bytes
  pub not_too_many : bytes ≤ 65536
