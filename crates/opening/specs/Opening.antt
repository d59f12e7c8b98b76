-- What the code decides of a setup. It mirrors the code.
use Rattle.std.specs.Prelude.{◌||◌, List, ℕ, cond, ltb, Result, Ok, Err}
use Rattle.record.specs.declared.answers.Refusal.{Refusal}
use Rattle.record.specs.declared.answers.Refusal.TheVariants.{RegionLength, BadTable, DonorSize}
use Rattle.record.specs.Table.{valid_table}
use Rattle.rules.specs.Setup.{donor_fits}
use Rattle.rules.specs.Shape.{heap_bytes}

-- the heap bytes of a region of so many words, or the refusal
unfoldable pub bytes_m : ℕ → List ℕ → ℕ → Result ℕ Refusal
bytes_m words t donor =
    cond (ltb words 10 || ltb 16384 words) (Err RegionLength)
    (cond (valid_table t) (cond (donor_fits (heap_bytes words) donor) (Ok (heap_bytes words)) (Err DonorSize)) (Err BadTable))
