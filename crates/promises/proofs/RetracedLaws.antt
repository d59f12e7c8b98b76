-- Where one run from the start puts the words of a heap that passed back, it found the true next chunk of each chunk, on the words as they
-- came (`retraced`): what it took for a link stays written. Assumes nothing.
use mathlib.Core.Path.{◌≡◌, sym, ap, subst, ◌∙◌}
use mathlib.Core.Logic.{◌⊎◌, inl, inr, ◌≢◌}
use mathlib.Core.Bool.{true, false≢true}
use mathlib.Core.List.{List, ◌++◌}
use Rattle.std.specs.Prelude.{Some}
use Rattle.std.proofs.lemmas.Option.{same_Some, none-some}
use Prim.Native.Nat.{ℕ, zero, suc, ◌+◌, ◌-◌, ◌/◌, ◌%◌, ◌≤◌, ◌<◌}
use native.Mathlib.Decide.{ℕ_discrete}
use native.Mathlib.Omega.{arith}
use lib.ListN.{length}
use Rattle.lists.specs.Lists.{head_or}
use Rattle.record.specs.declared.heap.Heap.{Heap}
use Rattle.region.specs.Words.{Store, written, word, forward}
use Rattle.region.proofs.WordsLaws.{written_append, fall_so, off}
use Rattle.rules.specs.Shape.{Entry, shape, chunk_end}
use Rattle.rules.specs.Kinds.{outside}
use Rattle.rules.specs.Check.{Passes}
use Rattle.rules.specs.Patrol.{next_of, mends, Patrolled, patrolled, patrol_from}
use Rattle.rules.proofs.SpotLaws.{bounds, inside, one_chunk, chunks_apart, ends as start_and_end}
use Rattle.rules.proofs.PatrolSeek.{NextPlace, next_above}
use Rattle.rules.proofs.PatrolNext.{next_place}
use Rattle.rules.proofs.PatrolMends.{handled, handled_length, handled_link}
use Rattle.rules.proofs.PatrolAgree.{AgreeFrom, next_agrees, agree_on}
use Rattle.rules.proofs.PatrolRun.{run_lost, run_on, Handling, ends, lost, on, handling}
use Rattle.rules.proofs.PatrolParts.{went_on, From, run_fall}
use Rattle.rules.proofs.PatrolSound.{above_it, chunk_right}
use Rattle.promises.specs.Room.{OnChain}
use Rattle.promises.specs.Mended.{NextFound}

module _ (ws : List ℕ) (h : Heap) (p : Passes ws h) (vs : List ℕ) where
  abbrev end : ℕ
  end = h.bytes - 8

  last : end % 8 ≡ 0
  last = let b = bounds ws h p in omega arith

  -- the true next chunk is found at every chunk from c on
  abbrev FoundFrom : ℕ → Type 0
  FoundFrom c = (d : Entry) → OnChain ws h d → c ≤ d.place → d.place + 8 < h.bytes → next_of vs end d.place ≡ Some (chunk_end d)

  -- a run on the words us that puts all words back
  pub record Back (n : ℕ) (us : List ℕ) (c : ℕ) : Type 0 where
    pub long : length us ≡ length ws
    pub agree : AgreeFrom end c vs us
    pub stores : List Store
    pub run : patrol_from n us end c ≡ Some (patrolled 0 true stores)
    pub whole : written us stores ≡ ws

  -- one chunk of it: the run stands at e and goes on at v
  module _ (n : ℕ) (us : List ℕ) (e : Entry) (m : OnChain ws h e) (b : Back (suc n) us e.place)
      (other : e.place ≡ end → ⊥) (v : ℕ) (q : next_of us end e.place ≡ Some v) where
    abbrev c : ℕ
    c = e.place

    place : NextPlace end c v
    place = next_place us end c last v q

    onward : (ts : List Store) × (patrol_from n (handled us c v) end v ≡ Some (patrolled 0 true ts)) × (b.stores ≡ mends us c v ++ ts)
    onward = went_on (mends us c v) (patrol_from n (handled us c v) end v) 0 true b.stores (sym (run_on us end c n other v q) ∙ b.run)

    on_back : Back n (handled us c v) v
    on_back =
        let (ts, run, parts) = onward in
        record {
          long = handled_length us c v ∙ b.long;
          agree = agree_on end c vs us (inside ws h p e m).place last b.agree v place;
          stores = ts;
          run = run;
          whole = sym (written_append (mends us c v) ts us) ∙ rw (← parts) b.whole;
        }

    low : c + 8 < h.bytes
    low = let i = inside ws h p e m in omega arith

    -- the link that was written stays, so it is the true one
    true_next : v ≡ chunk_end e
    true_next =
        let above = next_above place in
        let under = place.inside in
        let r = on_back in
        let k = bounds ws h p in
        let long = b.long in
        let from = run_fall end last n (handled us c v) v (patrolled 0 true r.stores) r.run in
        let stays = off r.stores (handled us c v) c forward (fall_so (From end v) (λ i. c / 4 + forward ≢ i) (λ i f w. omega arith) r.stores from) in
        let link : word ws c forward ≡ v = ap (λ (us : List ℕ). word us c forward) (sym r.whole) ∙ stays ∙ handled_link us c v place (omega arith) in
        sym link ∙ (chunk_right ws h p e m low).link

    -- it is found at e, and at every chunk from e on if it is at every one from the next
    found_too : FoundFrom (chunk_end e) → FoundFrom c
    found_too rest d k lo hi = go (ℕ_discrete d.place c)
      where
        here : next_of vs end c ≡ Some (chunk_end e)
        here = sym (next_agrees end c vs us (inside ws h p e m).place last b.agree (omega (arith, low))) ∙ q ∙ ap Some true_next

        above : (chunk_end d ≤ c) ⊎ (chunk_end e ≤ d.place) → next_of vs end d.place ≡ Some (chunk_end d)
        above (inl l) = let i = inside ws h p d k in absurd (omega arith)
        above (inr l) = rest d k l hi

        go : Dec (d.place ≡ c) → next_of vs end d.place ≡ Some (chunk_end d)
        go (yes z) = rw (one_chunk ws h p d e k m z) here
        go (no o) = above (chunks_apart ws h p d e k m o)

  retrace : (n : ℕ) (us : List ℕ) (e : Entry) → OnChain ws h e → Back n us e.place → FoundFrom e.place
  retrace zero us e m b = absurd (false≢true (ap (λ (r : Patrolled). r.ended) (same_Some _ _ b.run)))
  retrace (suc n) us e m b = go (handling us end e.place) (λ u d k. retrace n u d k)
    where
      go : Handling us end e.place → ((u : List ℕ) (d : Entry) → OnChain ws h d → Back n u d.place → FoundFrom d.place) → FoundFrom e.place
      go (ends q) f = λ d k lo hi. absurd (omega arith)
      go (lost o q) f = absurd (none-some _ (sym (run_lost us end e.place n o q) ∙ b.run))
      go (on o v q) f =
          let (d, k, up) = above_it ws h p e m (low n us e m b o v q) in
          let at : v ≡ d.place = true_next n us e m b o v q ∙ sym up.place in
          let rest = f (handled us e.place v) d k (subst (Back n (handled us e.place v)) at (on_back n us e m b o v q)) in
          found_too n us e m b o v q (rw up.place at rest)

  -- from the start
  pub retraced : (n : ℕ) → Back n vs 0 → NextFound ws h vs
  retraced n b e (m, l) =
      let s = start_and_end ws h p in
      let first = retrace n vs (head_or outside (shape ws h.bytes)) s.start (rw s.start_place b) in
      first e m (let z = s.start_place in omega arith) l
