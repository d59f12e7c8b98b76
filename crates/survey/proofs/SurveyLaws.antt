-- The walk of the chain, step by step: what is left to do and what is done always come to the whole. Assumes nothing.
use Rattle.std.proofs.Common.{◌≡◌, ℕ, suc, ◌+◌, ◌-◌, ◌%◌, ◌^◌, ◌<◌, ◌≤◌, max, true, false, List, [], ◌∷◌, Some, length, sym, refl, ap, ◌∙◌, add-zero, add_assoc, zero-add, arith}
use mathlib.Core.Bool.{false≢true}
use native.Mathlib.Decide.{ℕ_discrete}
use Rattle.lists.specs.Lists.{last_or, total}
use Rattle.lists.proofs.ListsLaws.{Decides, number_is, itself, both, not_so}
use Rattle.lists.proofs.TotalLaws.{total_le, total_one}
use Rattle.chain.specs.Chain.{kind_m}
use Rattle.chain.proofs.EndLaws.{end_at, here_at, chain_here, chain_next}
use Rattle.record.specs.declared.heap.Summary.{Summary}
use Rattle.record.specs.declared.kinds.Kind.{Kind}
use Rattle.record.specs.declared.kinds.Kind.TheVariants.{Start, InUse, Ordinary, Donor, Top, End}
use Rattle.rules.specs.Check.{is_chunk}
use Rattle.rules.specs.Kinds.{outside}
use Rattle.rules.specs.Shape.{Entry, shape}
use Rattle.rules.proofs.ShapeLaws.{chain_from, shape_is, chain_by}
use Rattle.survey.specs.declared.Share.{Share}
use Rattle.survey.specs.declared.Tally.{Tally}
use Rattle.survey.specs.Chunks.{sound_at}
use Rattle.survey.specs.Survey.{share_of, nothing, added_m, mark_m, share_at, all_sound, whole_chain, mark_all, tally_of, SurveyIs}

-- no share is larger than the chunk, and none counts more than one
share_small : (k : Kind) (s : ℕ)
    → ((share_of k s).free ≤ s) × ((share_of k s).ordinary ≤ 1) × ((share_of k s).donors ≤ 1) × ((share_of k s).tops ≤ 1)
share_small Start s = omega arith
share_small InUse s = omega arith
share_small Ordinary s = omega arith
share_small Donor s = omega arith
share_small Top s = omega arith
share_small End s = omega arith

module _ (ws : List ℕ) (bytes : ℕ) where
  -- the sizes of the chain come to what is left of the heap, and there are no more chunks than that
  sizes_sum : (c : ℕ) → c ≤ bytes → total (λ (e : Entry). e.size) (chain_from ws bytes c) ≡ bytes - c
  sizes_sum =
      chain_by ws bytes (λ c es. c ≤ bytes → total (λ (e : Entry). e.size) es ≡ bytes - c)
      (λ c n h. omega arith)
      (λ c es (up, inside) r h. let s = r (omega arith) in omega arith)

  pub chunks_few : (c : ℕ) → length (chain_from ws bytes c) ≤ max 1 (bytes - c)
  chunks_few =
      chain_by ws bytes (λ c es. length es ≤ max 1 (bytes - c)) (λ c n. omega arith)
      (λ c es (up, inside) r. omega arith)

  -- the chain is never empty
  chain_last : (d f : Entry) (c : ℕ) → last_or d (chain_from ws bytes c) ≡ last_or f (chain_from ws bytes c)
  chain_last d f = chain_by ws bytes (λ c es. last_or d es ≡ last_or f es) (λ c n. refl) (λ c es u r. refl)

module _ (ws : List ℕ) (s : Summary) where
  -- the chain from c on, the chunk at c, and where it ends
  abbrev pub chain : ℕ → List Entry
  chain c = chain_from ws s.bytes c

  abbrev pub chunk : ℕ → Entry
  chunk c = here_at ws s.bytes c

  abbrev pub end : ℕ → ℕ
  end c = end_at ws s.bytes c

  -- what is counted already, and what is left
  abbrev counted : Tally → List Entry → Tally
  counted t es =
      record {
        chunks = t.chunks + length es;
        ordinary = t.ordinary + total (λ e. (share_at s e).ordinary) es;
        donors = t.donors + total (λ e. (share_at s e).donors) es;
        tops = t.tops + total (λ e. (share_at s e).tops) es;
        free = t.free + total (λ e. (share_at s e).free) es;
      }

  -- the counts with one chunk more, as numbers that do not wrap
  abbrev plainly : Tally → Entry → Tally
  plainly t e =
      record {
        chunks = t.chunks + 1;
        ordinary = t.ordinary + (share_at s e).ordinary;
        donors = t.donors + (share_at s e).donors;
        tops = t.tops + (share_at s e).tops;
        free = t.free + (share_at s e).free;
      }

  -- a chunk is moved from what is left to what is counted
  recounted : (t : Tally) (e : Entry) (es : List Entry) → counted (plainly t e) es ≡ counted t (e ∷ es)
  recounted t e es =
      λ i.
      record {
        chunks = one t.chunks (length es) i;
        ordinary = add_assoc t.ordinary (share_at s e).ordinary (total (λ d. (share_at s d).ordinary) es) i;
        donors = add_assoc t.donors (share_at s e).donors (total (λ d. (share_at s d).donors) es) i;
        tops = add_assoc t.tops (share_at s e).tops (total (λ d. (share_at s d).tops) es) i;
        free = add_assoc t.free (share_at s e).free (total (λ d. (share_at s d).free) es) i;
      }
    where
      one : (a b : ℕ) → a + 1 + b ≡ a + suc b
      one a b = omega arith

  -- the last chunk is counted, and nothing is left
  all_counted : (t : Tally) (e : Entry) → plainly t e ≡ counted t (e ∷ [])
  all_counted t e = simp add-zero

  -- where the walk stands at c, after a chunk at p: with what is left it comes to the whole
  pub record Onward (ms₀ ms : List ℕ) (t : Tally) (p c : ℕ) : Type 0 where
    pub inside : c ≤ s.bytes
    pub sound : all_sound ws s p (chain c) ≡ all_sound ws s 0 (chain 0)
    pub marks : mark_all s ms (chain c) ≡ mark_all s ms₀ (chain 0)
    pub tally : counted t (chain c) ≡ tally_of s (chain 0)
    pub last : last_or outside (chain c) ≡ last_or outside (chain 0)

  -- the counts of a chain fit a word
  module _ (fits : s.bytes < 2 ^ 32) where
    fit_count : (g : Entry → ℕ) → ((e : Entry) → g e ≤ 1) → total g (chain 0) < 2 ^ 32
    fit_count g h =
        let a = total_one g h (chain 0) in
        let b = chunks_few ws s.bytes 0 in
        omega arith

    fit_size : (g : Entry → ℕ) → ((e : Entry) → g e ≤ e.size) → total g (chain 0) < 2 ^ 32
    fit_size g h =
        let a = total_le g (λ (e : Entry). e.size) h (chain 0) in
        let b = sizes_sum ws s.bytes 0 (omega arith) in
        omega arith

    -- the chunk e, and what comes after it, are left at c
    module _ (t : Tally) (c : ℕ) (e : Entry) (es : List Entry) (here : chain c ≡ e ∷ es)
        (left : counted t (chain c) ≡ tally_of s (chain 0)) where
      -- counting it wraps nothing
      summed : (g : Entry → ℕ) (n : ℕ) → n + total g (chain c) ≡ total g (chain 0)
          → total g (chain 0) < 2 ^ 32 → (n + g e) % 2 ^ 32 ≡ n + g e
      summed g n q l =
          let r : n + total g (e ∷ es) ≡ total g (chain 0) = rw here at q in
          omega arith

      chunk_more : (t.chunks + 1) % 2 ^ 32 ≡ t.chunks + 1
      chunk_more =
          let q : t.chunks + length (chain c) ≡ length (chain 0) = ap (λ (u : Tally). u.chunks) left in
          let r : t.chunks + length (e ∷ es) ≡ length (chain 0) = rw here at q in
          let b = chunks_few ws s.bytes 0 in
          omega arith

      abbrev share : Entry → Share
      share d = share_at s d

      small : (d : Entry) → ((share d).free ≤ d.size) × ((share d).ordinary ≤ 1) × ((share d).donors ≤ 1) × ((share d).tops ≤ 1)
      small d = share_small (kind_m s d) d.size

      -- the counts with this chunk, as numbers that have not wrapped
      unwrapped : added_m t (share_at s e) ≡ plainly t e
      unwrapped =
          rw (
            chunk_more,
            summed (λ d. (share d).ordinary) t.ordinary (ap (λ (u : Tally). u.ordinary) left) (fit_count _ (λ d. (small d).1)),
            summed (λ d. (share d).donors) t.donors (ap (λ (u : Tally). u.donors) left) (fit_count _ (λ d. (small d).2)),
            summed (λ d. (share d).tops) t.tops (ap (λ (u : Tally). u.tops) left) (fit_count _ (λ d. (small d).3)),
            summed (λ d. (share d).free) t.free (ap (λ (u : Tally). u.free) left) (fit_size _ (λ d. (small d).0)),
          )

  -- what a whole chain is
  pub whole_iff :
      Decides (whole_chain ws s)
      (((all_sound ws s 0 (shape ws s.bytes) ≡ true) × ((last_or outside (shape ws s.bytes)).place + 8 ≡ s.bytes))
      × (is_chunk (shape ws s.bytes) s.patrol.0 ≡ true))
  unfolding whole_chain
  whole_iff =
      both (both (itself (all_sound ws s 0 (shape ws s.bytes))) (number_is ((last_or outside (shape ws s.bytes)).place + 8) s.bytes))
      (itself (is_chunk (shape ws s.bytes) s.patrol.0))

  -- it is not whole if no chunk is at the patrol's place
  pub unseen_fails : is_chunk (chain 0) s.patrol.0 ≡ false → whole_chain ws s ≡ false
  unseen_fails h = not_so whole_iff (λ (_, seen). false≢true (sym h ∙ (rw (shape_is ws s.bytes) at seen)))

  -- if a part of it is not sound, or if it does not end at the end chunk
  module _ (ms₀ ms : List ℕ) (t : Tally) (p c : ℕ) (o : Onward ms₀ ms t p c) where
    pub unsound_fails : all_sound ws s p (chain c) ≡ false → whole_chain ws s ≡ false
    unsound_fails h = not_so whole_iff (λ ((sound, _), _). false≢true (sym h ∙ o.sound ∙ (rw (shape_is ws s.bytes) at sound)))

    pub short_fails : ((last_or outside (chain c)).place + 8 ≡ s.bytes → ⊥) → whole_chain ws s ≡ false
    short_fails n = not_so whole_iff (λ ((_, end), _). n (ap (λ (e : Entry). e.place + 8) o.last ∙ (rw (shape_is ws s.bytes) at end)))

    pub breaks : sound_at ws s p (chunk c) ≡ false → whole_chain ws s ≡ false
    breaks h = unsound_fails (go (ℕ_discrete (end c) s.bytes))
      where
        go : Dec (end c ≡ s.bytes) → all_sound ws s p (chain c) ≡ false
        go (yes e) = rw (chain_here ws s.bytes c e, h)
        go (no n) = let (up, inside, further) = chain_next ws s.bytes c n in rw (further, h)

    -- the ways on from a sound chunk: it is the last, and the end chunk; the walk goes on behind it
    module _ (fits : s.bytes < 2 ^ 32) (k : Kind) (kind : k ≡ kind_m s (chunk c)) (h : sound_at ws s p (chunk c) ≡ true) where
      pub ends : end c ≡ s.bytes → c + 8 ≡ s.bytes → is_chunk (chain 0) s.patrol.0 ≡ true
          → SurveyIs ws s ms₀ (mark_m ms k c) (Some (added_m t (share_of k (end c - c))))
      ends e last seen =
          let here = chain_here ws s.bytes c e in
          let all = shape_is ws s.bytes in
          record {
            whole = whole_iff.1 (rw all ((sym o.sound ∙ rw (here, h), ap (λ (e : Entry). e.place + 8) (sym o.last) ∙ rw here last), seen));
            tally = rw (all, kind) (unwrapped fits t c (chunk c) [] here o.tally ∙ all_counted t (chunk c) ∙ (rw here at o.tally));
            marks = rw (all, kind) (rw here at o.marks);
          }

      pub goes_on_lem : (end c ≡ s.bytes → ⊥)
          → Onward ms₀ (mark_m ms k c) (added_m t (share_of k (end c - c))) c (end c)
      goes_on_lem n =
          let (up, inside, further) = chain_next ws s.bytes c n in
          rw kind
          (record {
            inside = omega arith;
            sound = rw (further, h) at o.sound;
            marks = rw further at o.marks;
            tally =
                ap (λ (u : Tally). counted u (chain (end c))) (unwrapped fits t c _ _ further o.tally)
                ∙ recounted t (chunk c) (chain (end c))
                ∙ (rw further at o.tally);
            last = chain_last ws s.bytes outside (chunk c) (end c) ∙ (rw further at o.last);
          })

-- at the start everything is left
pub survey_begins : {ws : List ℕ} {s : Summary} {ms : List ℕ}
    → Onward ws s ms ms nothing 0 0
survey_begins = record { inside = omega arith; sound = refl; marks = refl; tally = simp zero-add; last = refl }
