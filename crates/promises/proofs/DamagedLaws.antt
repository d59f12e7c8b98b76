-- A heap that passed was damaged in links and free sizes. Where the true next chunk of each chunk is still found, one run from the start
-- puts every word back (`put_back`): in the middle of it the words are whole below the chunk where it stands, and damaged from there on (`PartMended`).
-- Assumes nothing.
use mathlib.Core.Path.{◌≡◌, refl, sym, ap, subst, ◌∙◌}
use mathlib.Core.Logic.{◌⊎◌, inl, inr, ◌≢◌}
use mathlib.Core.Bool.{Bool, true, false, false≢true}
use mathlib.Core.List.{List, [], ◌++◌}
use Rattle.std.specs.Prelude.{Some}
use Prim.Native.Nat.{ℕ, zero, suc, ◌+◌, ◌-◌, ◌/◌, ◌%◌, ◌≤◌, ◌<◌}
use native.Mathlib.Decide.{ℕ_discrete, dec_lt}
use native.Mathlib.Omega.{arith}
use lib.ListN.{length, get_or}
use lib.Seq.{ext_get_or}
use Rattle.lists.specs.Lists.{head_or}
use Rattle.record.specs.declared.heap.Heap.{Heap}
use Rattle.region.specs.Words.{Store, written, word, forward, backward, size}
use Rattle.region.proofs.WordsLaws.{written_append}
use Rattle.rules.specs.Shape.{Entry, entry, shape, chunk_end, flags_at}
use Rattle.rules.specs.Kinds.{in_use, is_free, outside}
use Rattle.rules.specs.Check.{Passes}
use Rattle.rules.specs.Patrol.{mends, patrolled, goes_on, patrol_from}
use Rattle.rules.proofs.SpotLaws.{Inside, NextIs, bounds, inside, ends, one_chunk, chunks_apart}
use Rattle.rules.proofs.NamedLaws.{kind_free}
use Rattle.rules.proofs.PatrolSeek.{NextPlace, next_above}
use Rattle.rules.proofs.PatrolMends.{HasSize, handled, handled_length, handled_kept, handled_at, handled_link, handled_back, handled_start, handled_size}
use Rattle.rules.proofs.PatrolAgree.{AgreeFrom, agree_same, next_agrees, agree_on}
use Rattle.rules.proofs.PatrolRun.{run_ends, run_on}
use Rattle.rules.proofs.PatrolSound.{above_it, chunk_next, chunk_right, chunk_last}
use Rattle.promises.specs.Room.{OnChain}
use Rattle.promises.specs.Mended.{LinkOrSize, Damaged, NextFound}

-- which words may be damaged: each belongs to its chunk, and no word to two
module _ (ws : List ℕ) (h : Heap) (p : Passes ws h) where
  -- word i belongs to the chunk e
  pub record HasWord (e : Entry) (i : ℕ) : Type 0 where
    pub from : e.place / 4 ≤ i
    pub to : i < chunk_end e / 4

  links_own : (e : Entry) → OnChain ws h e → (i : ℕ) → LinkOrSize h e i → HasWord e i
  links_own e m i k = go k
    where
      go : LinkOrSize h e i → HasWord e i
      go (inl (b, q)) = let n = inside ws h p e m in record { from = omega arith; to = omega arith }
      go (inr (inl q)) = let n = inside ws h p e m in record { from = omega arith; to = omega arith }
      go (inr (inr (f, q))) =
          let n = inside ws h p e m in
          let b = (kind_free ws h p e m f).between in
          record { from = omega arith; to = omega arith }

  same_chunk : (d e : Entry) → OnChain ws h d → OnChain ws h e → (i : ℕ) → HasWord d i → HasWord e i → d ≡ e
  same_chunk d e m k i a b = go (ℕ_discrete d.place e.place)
    where
      go : Dec (d.place ≡ e.place) → d ≡ e
      go (yes q) = one_chunk ws h p d e m k q
      go (no n) = apart (chunks_apart ws h p d e m k n)
        where
          apart : (chunk_end d ≤ e.place) ⊎ (chunk_end e ≤ d.place) → d ≡ e
          apart (inl l) = absurd (omega arith)
          apart (inr l) = absurd (omega arith)

  module _ (vs : List ℕ) (damaged : Damaged ws h vs) where
    -- a word of a chunk that is none of those that may be damaged is whole; so is every word above the heap bytes
    whole_in : (e : Entry) → OnChain ws h e → (i : ℕ) → HasWord e i → (LinkOrSize h e i → ⊥) → get_or vs i 0 ≡ get_or ws i 0
    whole_in e m i w n =
        damaged.elsewhere i
        (λ d k l. n (subst (λ (x : Entry). LinkOrSize h x i) (same_chunk d e k m i (links_own d k i l) w) l))

    whole_beyond : (i : ℕ) → h.bytes / 4 ≤ i → get_or vs i 0 ≡ get_or ws i 0
    whole_beyond i b =
        damaged.elsewhere i (λ d k l. let w = links_own d k i l in let n = inside ws h p d k in omega arith)

    abbrev end : ℕ
    end = h.bytes - 8

    -- in the middle of a run on the damaged words, which stands at the chunk e: below it all is whole, from there on damaged as it was
    pub record PartMended (us : List ℕ) (e : Entry) : Type 0 where
      pub long : length us ≡ length ws
      pub agree : AgreeFrom end e.place vs us
      pub below : (i : ℕ) → i < e.place / 4 → get_or us i 0 ≡ get_or ws i 0
      pub back : 0 < e.place → word us e.place backward ≡ word ws e.place backward
      pub beyond : (i : ℕ) → h.bytes / 4 ≤ i → get_or us i 0 ≡ get_or ws i 0

    -- it stands at e, below the end
    module _ (us : List ℕ) (e : Entry) (m : OnChain ws h e) (l : e.place + 8 < h.bytes) (half : PartMended us e) where
      abbrev c : ℕ
      c = e.place

      abbrev v : ℕ
      v = chunk_end e

      place : NextPlace end c v
      place = chunk_next ws h p e m l

      here : Inside ws h e
      here = inside ws h p e m

      fits : v / 4 + backward < length us
      fits = let b = bounds ws h p in let i = place.inside in let k = half.long in omega arith

      -- flags are whole
      same_flags : flags_at us c ≡ flags_at ws c
      same_flags = half.agree.flags ∙ damaged.flags e m

      -- the two first words of e
      link_back : word (handled us c v) c forward ≡ word ws c forward
      link_back = handled_link us c v place fits ∙ sym (chunk_right ws h p e m l).link

      own_back : word (handled us c v) c backward ≡ word ws c backward
      own_back = go (ℕ_discrete c 0)
        where
          go : Dec (c ≡ 0) → word (handled us c v) c backward ≡ word ws c backward
          go (yes z) = handled_start us c v place fits z ∙ same_flags ∙ sym ((chunk_right ws h p e m l).start z)
          go (no n) =
              let above = next_above place in
              handled_kept us c v c backward (λ q. omega arith) (λ q. omega arith) (λ z q. n z) (λ u q. omega arith)
              ∙ half.back (omega arith)

      -- its size, if it is free
      size_back : HasSize us c v → word (handled us c v) c size ≡ word ws c size
      size_back u =
          handled_size us c v place fits u ∙ sym ((chunk_right ws h p e m l).sized (u.0, rw same_flags at u.1))

      free_unused : is_free h e ≡ true → HasSize us c v
      unfolding in_use
      free_unused f =
          let k = kind_free ws h p e m f in
          let b = k.between in
          let z : flags_at us c ≡ 0 = same_flags ∙ sym here.stands ∙ k.flags in
          (omega arith, rw z)

      -- every other word of e
      rest_back : (i : ℕ) → c / 4 + 2 ≤ i → i < v / 4 → (HasSize us c v → i ≢ c / 4 + size) → get_or (handled us c v) i 0 ≡ get_or ws i 0
      rest_back i lo hi n =
          let above = next_above place in
          let under = place.inside in
          handled_at us c v i (λ q. omega arith) (λ q. omega arith) (λ z q. omega arith) n
          ∙ half.agree.upper i lo (omega arith)
          ∙ whole_in e m i (record { from = omega arith; to = hi }) other
        where
          other : LinkOrSize h e i → ⊥
          other (inl (b, q)) = omega arith
          other (inr (inl q)) = omega arith
          other (inr (inr (f, q))) = n (free_unused f) q

      unused? : Dec (HasSize us c v)
      unused? = go (dec_lt 0 c) (in_use (entry c (v - c) (flags_at us c))) refl
        where
          go : Dec (0 < c) → (t : Bool) → in_use (entry c (v - c) (flags_at us c)) ≡ t → Dec (HasSize us c v)
          go (yes l) true q = no (λ u. false≢true (sym u.1 ∙ q))
          go (yes l) false q = yes (l, q)
          go (no n) t q = no (λ u. n u.0)

      -- so all of e's words, and those below, are whole afterwards
      e_whole : (i : ℕ) → i < v / 4 → get_or (handled us c v) i 0 ≡ get_or ws i 0
      unfolding word
      e_whole i hi =
          go (dec_lt i (c / 4)) (ℕ_discrete i (c / 4 + forward)) (ℕ_discrete i (c / 4 + backward)) (ℕ_discrete i (c / 4 + size)) unused?
        where
          above : c + 8 ≤ v
          above = next_above place

          go : Dec (i < c / 4) → Dec (i ≡ c / 4 + forward) → Dec (i ≡ c / 4 + backward) → Dec (i ≡ c / 4 + size) → Dec (HasSize us c v)
              → get_or (handled us c v) i 0 ≡ get_or ws i 0
          go (yes low) b d f u =
              handled_at us c v i (λ q. omega arith) (λ q. omega arith) (λ z q. omega arith) (λ k q. omega arith) ∙ half.below i low
          go (no a) (yes z) d f u = rw z link_back
          go (no a) (no b) (yes z) f u = rw z own_back
          go (no a) (no b) (no d) (yes z) (yes u) = rw z (size_back u)
          go (no a) (no b) (no d) (yes z) (no u) = rest_back i (omega arith) hi (λ k. absurd (u k))
          go (no a) (no b) (no d) (no f) u = rest_back i (omega arith) hi (λ k. f)

      -- the next chunk's backward link is whole too
      next_back : flags_at (handled us c v) v ≡ flags_at ws v → word (handled us c v) v backward ≡ word ws v backward
      next_back same =
          let mended = handled_back us c v place fits in
          let right = (chunk_right ws h p e m l).back in
          let eights = here.place in
          omega arith

      -- and it stands at the next chunk
      mended_on : (d : Entry) → OnChain ws h d → NextIs ws e d → PartMended (handled us c v) d
      mended_on d k n =
          let above = next_above place in
          let under = place.inside in
          let there = inside ws h p d k in
          let b = bounds ws h p in
          let last : end % 8 ≡ 0 = omega arith in
          let agree = agree_on end c vs us here.place last half.agree v place in
          record {
            long = handled_length us c v ∙ half.long;
            agree = rw n.place agree;
            below = rw n.place e_whole;
            back = λ _. rw n.place (next_back (agree.flags ∙ rw n.place at (damaged.flags d k)));
            beyond = λ i far.
                handled_at us c v i (λ q. omega arith) (λ q. omega arith) (λ z q. omega arith) (λ u q. omega arith) ∙ half.beyond i far;
          }

    -- at the end chunk all is whole
    all_whole_lem : (us : List ℕ) (e : Entry) → OnChain ws h e → (e.place + 8 < h.bytes → ⊥) → PartMended us e → us ≡ ws
    unfolding word
    all_whole_lem us e m n half =
        ext_get_or 0 us ws half.long
        (λ i l. go i (dec_lt i (e.place / 4)) (ℕ_discrete i (e.place / 4 + forward)) (ℕ_discrete i (e.place / 4 + backward)))
      where
        at_end : e.place ≡ end
        at_end = chunk_last ws h p e m n

        other : LinkOrSize h e (e.place / 4 + forward) → ⊥
        other (inl (b, q)) = n b
        other (inr (inl q)) = omega arith
        other (inr (inr (f, q))) = omega arith

        go : (i : ℕ) → Dec (i < e.place / 4) → Dec (i ≡ e.place / 4 + forward) → Dec (i ≡ e.place / 4 + backward) → get_or us i 0 ≡ get_or ws i 0
        go i (yes l) b d = half.below i l
        go i (no a) (yes q) d =
            let s = inside ws h p e m in
            rw q (half.agree.link ∙ whole_in e m (e.place / 4 + forward) (record { from = omega arith; to = omega arith }) other)
        go i (no a) (no b) (yes q) = rw q (half.back (let s = bounds ws h p in let z = at_end in omega arith))
        go i (no a) (no b) (no d) = half.beyond i (let s = inside ws h p e m in let z = at_end in omega arith)

    -- one run from e on, which puts all words back
    pub record PutsBack (us : List ℕ) (c : ℕ) : Type 0 where
      pub chunks : ℕ
      pub stores : List Store
      pub run : patrol_from chunks us end c ≡ Some (patrolled 0 true stores)
      pub whole : written us stores ≡ ws

    module _ (next : NextFound ws h vs) where
      -- one chunk, and the rest
      one_back : (us : List ℕ) (e : Entry) → OnChain ws h e → e.place + 8 < h.bytes → PartMended us e
          → PutsBack (handled us e.place (chunk_end e)) (chunk_end e) → PutsBack us e.place
      one_back us e m l half rest =
          let c = e.place in
          let v = chunk_end e in
          let b = bounds ws h p in
          let last : end % 8 ≡ 0 = omega arith in
          let found = next_agrees end c vs us (inside ws h p e m).place last half.agree (omega arith) ∙ next e (m, l) in
          record {
            chunks = suc rest.chunks;
            stores = mends us c v ++ rest.stores;
            run = run_on us end c rest.chunks (λ q. omega arith) v found ∙ ap (goes_on (mends us c v)) rest.run;
            whole = written_append (mends us c v) rest.stores us ∙ rest.whole;
          }

      -- the first argument counts down
      puts_back : (k : ℕ) (us : List ℕ) (e : Entry) → OnChain ws h e → h.bytes ≤ e.place + k → PartMended us e → PutsBack us e.place
      puts_back zero us e m b half = let s = inside ws h p e m in absurd (omega arith)
      puts_back (suc k) us e m b half =
          go (dec_lt (e.place + 8) h.bytes) (λ u d n o. puts_back k u d n o)
        where
          go : Dec (e.place + 8 < h.bytes)
              → ((u : List ℕ) (d : Entry) → OnChain ws h d → h.bytes ≤ d.place + k → PartMended u d → PutsBack u d.place)
              → PutsBack us e.place
          go (yes l) f =
              let (d, n, up) = above_it ws h p e m l in
              let s = inside ws h p e m in
              let rest = f (handled us e.place (chunk_end e)) d n (omega arith) (mended_on us e m l half d n up) in
              one_back us e m l half (rw up.place at rest)
          go (no n) f =
              record {
                chunks = 1;
                stores = [];
                run = run_ends us end e.place 0 (chunk_last ws h p e m n);
                whole = all_whole_lem us e m n half;
              }

      -- from the start, on the damaged words
      pub put_back : PutsBack vs 0
      put_back =
          let l = ends ws h p in
          let e = head_or outside (shape ws h.bytes) in
          let z : e.place ≡ 0 = l.start_place in
          let half : PartMended vs e =
          record {
            long = damaged.long;
            agree = agree_same end e.place vs;
            below = λ i k. absurd (omega arith);
            back = λ k. absurd (omega arith);
            beyond = whole_beyond;
          } in
          rw z at (puts_back h.bytes vs e l.start (omega arith) half)
