-- The words that the code stores are the rule's, in the rule's order. Assumes nothing.
use Rattle.std.proofs.Common.{◌≡◌, ℕ, ◌+◌, ◌-◌, ◌%◌, ◌^◌, ◌≤◌, arith, eq-eqb, ne_eqb}
use native.Mathlib.Decide.{ℕ_discrete}
use Rattle.rules.specs.Setup.{first_headers}
use Rattle.headers.specs.Headers.{free_words, used_words}
use Rattle.fresh.specs.FirstHeaders.{first_donor_m, free_chunks_words, first_words}

module _ (bytes donor : ℕ) (room : donor + 40 ≤ bytes) (few : bytes ≤ 65536) where
  -- the top ends where the end chunk is, and that one's link back, with its flag, is a word
  top_ends : 8 + donor + (bytes - 8 - (8 + donor)) ≡ bytes - 8
  top_ends = omega arith

  end_names : (8 + donor + 1) % 2 ^ 32 ≡ 8 + donor + 1
  end_names = omega arith

  first_case : Dec (donor ≡ 0) → first_words (first_donor_m donor) (8 + donor) (bytes - 8) ≡ first_headers bytes donor
  unfolding first_donor_m first_words free_chunks_words free_words used_words
  first_case (yes e) = rw (eq-eqb donor 0 e, top_ends, end_names)
  first_case (no ne) =
      let size : 8 + donor - 8 ≡ donor = omega arith in
      rw (ne_eqb donor 0 ne, top_ends, end_names, size)

  pub first_words_lem : first_words (first_donor_m donor) (8 + donor) (bytes - 8) ≡ first_headers bytes donor
  first_words_lem = first_case (ℕ_discrete donor 0)
