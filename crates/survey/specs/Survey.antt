-- What the walk of the chain counts and marks, as sums over the chain that the rules read (`shape`).
-- It mirrors the code; that it is what the check asks is proved.
use Rattle.std.specs.Prelude.{◌≡◌, ℕ, ◌+◌, ◌%◌, ◌^◌, Bool, true, false, cond, ◌&&◌, List, [], ◌∷◌, Option, Some, None, length, ◌==◌}
use Rattle.std.specs.Bool.{then_some}
use Rattle.lists.specs.Lists.{last_or, total}
use Rattle.marks.specs.Marks.{flipped}
use Rattle.chain.specs.Chain.{kind_m}
use Rattle.record.specs.declared.heap.Summary.{Summary}
use Rattle.record.specs.declared.kinds.Kind.{Kind}
use Rattle.record.specs.declared.kinds.Kind.TheVariants.{Start, InUse, Ordinary, Donor, Top, End}
use Rattle.rules.specs.Check.{is_chunk}
use Rattle.rules.specs.Kinds.{ordinary_kind, outside}
use Rattle.rules.specs.Shape.{Entry, shape}
use Rattle.survey.specs.declared.visit.Visit.{Visit}
use Rattle.survey.specs.declared.Share.{Share}
use Rattle.survey.specs.declared.Tally.{Tally}
use Rattle.survey.specs.Chunks.{is_last_m, sound_at}

abbrev pub shares_m : ℕ → ℕ → ℕ → ℕ → Share
shares_m o d t f = record { ordinary = o; donors = d; tops = t; free = f }

abbrev pub share_of : Kind → ℕ → Share
share_of Start s = shares_m 0 0 0 0
share_of InUse s = shares_m 0 0 0 0
share_of Ordinary s = shares_m 1 0 0 s
share_of Donor s = shares_m 0 1 0 s
share_of Top s = shares_m 0 0 1 s
share_of End s = shares_m 0 0 0 0

abbrev pub wrapped : ℕ → ℕ → ℕ
wrapped a b = (a + b) % 2 ^ 32

-- the counts before the first chunk
abbrev pub nothing : Tally
nothing = record { chunks = 0; ordinary = 0; donors = 0; tops = 0; free = 0 }

abbrev pub added_m : Tally → Share → Tally
added_m t s =
    record {
      chunks = wrapped t.chunks 1;
      ordinary = wrapped t.ordinary s.ordinary;
      donors = wrapped t.donors s.donors;
      tops = wrapped t.tops s.tops;
      free = wrapped t.free s.free;
    }

unfoldable pub mark_m : List ℕ → Kind → ℕ → List ℕ
mark_m ms k c = cond (ordinary_kind k) (flipped ms c) ms

-- the limit of the walk before it has come to the patrol's place
abbrev pub first_limit_m : ℕ → ℕ → ℕ
first_limit_m patrol last = cond (patrol == 0) last patrol

-- where the chain does not go on any more
unfoldable pub finish_m : Visit → ℕ → Tally → Option Tally
finish_m v last t = then_some (is_last_m v last) (added_m t (share_of End 8))

module _ (s : Summary) where
  abbrev pub share_at : Entry → Share
  share_at e = share_of (kind_m s e) e.size

  abbrev pub mark_all : List ℕ → List Entry → List ℕ
  mark_all ms [] = ms
  mark_all ms (e ∷ es) = mark_all (mark_m ms (kind_m s e) e.place) es

  abbrev pub tally_of : List Entry → Tally
  tally_of es =
      record {
        chunks = length es;
        ordinary = total (λ e. (share_at e).ordinary) es;
        donors = total (λ e. (share_at e).donors) es;
        tops = total (λ e. (share_at e).tops) es;
        free = total (λ e. (share_at e).free) es;
      }

module _ (ws : List ℕ) (s : Summary) where
  -- every chunk is sound; the first of them follows one at p
  abbrev pub all_sound : ℕ → List Entry → Bool
  all_sound p [] = true
  all_sound p (e ∷ es) = sound_at ws s p e && all_sound e.place es

  -- every chunk is sound, the last of them is the end chunk, and one is at the patrol's place
  unfoldable pub whole_chain : Bool
  whole_chain =
      all_sound 0 (shape ws s.bytes) && (last_or outside (shape ws s.bytes)).place + 8 == s.bytes
      && is_chunk (shape ws s.bytes) s.patrol.0

  -- the walk came through, with this tally; the marks are `before` and `after` it
  pub record SurveyedIs (before after : List ℕ) (t : Tally) : Type 0 where
    pub whole : whole_chain ≡ true
    pub tally : t ≡ tally_of s (shape ws s.bytes)
    pub marks : after ≡ mark_all s before (shape ws s.bytes)

  -- what the walk found: the counts of a whole chain, or that it is broken
  abbrev pub SurveyIs : List ℕ → List ℕ → Option Tally → Type 0
  SurveyIs before after None = whole_chain ≡ false
  SurveyIs before after (Some t) = SurveyedIs before after t
