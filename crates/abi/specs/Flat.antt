-- The record and the answer as C has them, as flat words. A place of the record is the number of a word.
use Rattle.std.specs.Prelude.{ℕ, suc, ◌+◌, ◌-◌, ◌%◌, ◌^◌, cond, List, [], ◌∷◌, ◌++◌, eqb, ℤ, pos, negsuc, get_or, take, drop, Option, Some, None}
use Rattle.record.specs.Answers.{Figures, figures_of}
use Rattle.record.specs.Heap.{at, places}
use Rattle.record.specs.declared.answers.Answer.{Answer}
use Rattle.record.specs.declared.answers.Answer.TheVariants.{Done, Granted, Returned, Told, Counted, Refused}
use Rattle.record.specs.declared.heap.Heap.{Heap}

-- where the merge word stands, where the bins' sizes, heads and tails begin, and where the patrol's place stands
abbrev pub merge_place : ℕ
merge_place = 4

abbrev pub sizes_from : ℕ
sizes_from = 6

abbrev pub heads_from : ℕ
heads_from = sizes_from + places

abbrev pub tails_from : ℕ
tails_from = heads_from + places

abbrev pub patrol_place : ℕ
patrol_place = tails_from + places

-- the words of a record
abbrev pub record_words : ℕ
record_words = patrol_place + 1

-- the record that so many words say; a merge word of 1 is on
unfoldable pub record_in : List ℕ → Heap
record_in rs =
    record {
      bytes = get_or rs 0 0;
      bins = get_or rs 1 0;
      sizes = take places (drop sizes_from rs);
      heads = take places (drop heads_from rs);
      tails = take places (drop tails_from rs);
      donor = at (get_or rs 2 0);
      top = at (get_or rs 3 0);
      merge = eqb (get_or rs merge_place 0) 1;
      used = get_or rs 5 0;
      patrol = at (get_or rs patrol_place 0);
    }

-- the words that say a record
unfoldable pub record_out : Heap → List ℕ
record_out h =
    h.bytes ∷ h.bins ∷ h.donor.0 ∷ h.top.0 ∷ cond h.merge 1 0 ∷ h.used
    ∷ (h.sizes ++ (h.heads ++ (h.tails ++ (h.patrol.0 ∷ []))))

-- a signed number in two's complement of 32 bits: modulo 2 ^ 32
unfoldable pub complement : ℤ → ℕ
complement (pos n) = n % 2 ^ 32
complement (negsuc n) = (2 ^ 32 - suc n % 2 ^ 32) % 2 ^ 32

-- where the value of an answer stands, and where 1 says that there is none
abbrev pub value_place : ℕ
value_place = 2

abbrev pub none_place : ℕ
none_place = 4

-- the five words of an answer to any call but the check
abbrev pub call_words : Figures → List ℕ
call_words f = f.refusal ∷ f.offset ∷ f.value ∷ complement f.change ∷ cond f.is_none 1 0 ∷ []

-- the five words of the check's figures
abbrev pub check_words : Figures → List ℕ
check_words f =
    f.refusal ∷ f.counts.chunks ∷ f.counts.ordinary ∷ f.counts.used ∷ f.counts.free ∷ []

-- a refusal is its number and four zeros, whatever call gives it
unfoldable pub answer_out : Answer → List ℕ
answer_out Done = call_words (figures_of Done)
answer_out (Granted block change) = call_words (figures_of (Granted block change))
answer_out (Returned change) = call_words (figures_of (Returned change))
answer_out (Told value) = call_words (figures_of (Told value))
answer_out (Counted counts) = check_words (figures_of (Counted counts))
answer_out (Refused refusal) = call_words (figures_of (Refused refusal))

-- what a question told, as C reads it from the answer's words
unfoldable pub told_in : List ℕ → Option ℕ
told_in words = cond (eqb (get_or words none_place 0) 1) None (Some (get_or words value_place 0))

-- what the call returns beside: the refusal's number, 0 for none
abbrev pub refusal_out : Answer → ℕ
refusal_out a = (figures_of a).refusal
