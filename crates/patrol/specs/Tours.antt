-- What a run leaves, by the rules: of any record with these heap bytes and this place of the patrol.
use Rattle.std.specs.Prelude.{◌≡◌, Bool, ◌&&◌, List, ℕ, ◌+◌, ◌%◌, eqb, leb, Result, Ok, Err}
use Rattle.record.specs.declared.answers.Answer.TheVariants.{Refused}
use Rattle.record.specs.declared.answers.Refusal.{Refusal}
use Rattle.record.specs.declared.heap.Heap.{Heap}
use Rattle.record.specs.Heap.{with_patrol}
use Rattle.chain.specs.Length.{fits_length_m}
use Rattle.rules.specs.Patrol.{patrol}
use Rattle.rules.specs.Statements.{Left, left_by}
use Rattle.patrol.specs.declared.Toured.{Toured}

unfoldable pub can_begin_m : ℕ → ℕ → ℕ → Bool
can_begin_m words bytes place = fits_length_m words bytes && eqb (place % 8) 0 && leb (place + 8) bytes

-- what a run answers, and the record h after it: its place moved, or the record as it came where the run is refused
abbrev pub leaving : Heap → Result Toured Refusal → List ℕ → Left
leaving h (Ok t) after = record { answer = t.answer; heap = with_patrol h t.place.0; words = after }
leaving h (Err r) after = record { answer = Refused r; heap = h; words = after }

abbrev pub Tours : List ℕ → ℕ → ℕ → ℕ → Result Toured Refusal → List ℕ → Type 0
Tours ws bytes place chunks t after =
    (h : Heap) → h.bytes ≡ bytes → h.patrol.0 ≡ place → leaving h t after ≡ left_by ws (patrol ws h chunks)
