-- Damage in links and free sizes of a heap that passed is undone exactly where the true next chunk of each chunk is still found, and so in
-- the document's two cases (`mended`). Assumes nothing.
use mathlib.Core.Path.{◌≡◌, refl, sym, ap, ap₂, subst, ◌∙◌}
use mathlib.Core.Logic.{◌⊎◌, inl, inr, ◌≢◌}
use mathlib.Core.Bool.{true, false}
use mathlib.Core.List.{List}
use Rattle.std.specs.Prelude.{Some}
use Prim.Native.Nat.{ℕ, zero, suc, ◌+◌, ◌-◌, ◌/◌, ◌%◌, ◌≤◌, ◌<◌}
use native.Mathlib.Decide.{ℕ_discrete}
use native.Mathlib.Omega.{arith}
use lib.ListN.{length}
use Rattle.lists.specs.Lists.{last_or}
use Rattle.record.specs.declared.heap.Heap.{Heap}
use Rattle.record.specs.Heap.{with_patrol}
use Rattle.region.specs.Words.{word, forward, backward}
use Rattle.region.proofs.WordsLaws.{length_written}
use Rattle.rules.specs.Shape.{Entry, shape, chunk_end}
use Rattle.rules.specs.Kinds.{outside}
use Rattle.rules.specs.Check.{Passes}
use Rattle.rules.specs.Patrol.{back_offset, least_size, skips, seek_from, next_of, patrolled, patrol_from}
use Rattle.rules.specs.Calls.{State}
use Rattle.rules.proofs.SpotLaws.{NextIs, bounds, inside, ends, one_chunk, chunks_apart}
use Rattle.rules.proofs.PatrolSeek.{seek_here, seek_down}
use Rattle.rules.proofs.PatrolNext.{no_skip_lem, believed, next_believed, next_sought, NextBy, by_link, by_walk, next_by}
use Rattle.rules.proofs.PatrolAgree.{agree_same}
use Rattle.rules.proofs.PatrolSound.{above_it, below_it, chunk_next, chunk_right}
use Rattle.promises.specs.Ways.{ours}
use Rattle.promises.specs.Room.{OnChain}
use Rattle.promises.specs.Mended.{Damaged, NextFound, ForwardWhole, NoSign, OneBroken, Undone, Mended}
use Rattle.promises.proofs.FullPatrolLaws.{full_run, run_full}
use Rattle.promises.proofs.DamagedLaws.{put_back}
use Rattle.promises.proofs.RetracedLaws.{retraced}

module _ (ws : List ℕ) (h : Heap) (p : Passes ws h) (start : h.patrol.0 ≡ 0) (vs : List ℕ) where
  abbrev end : ℕ
  end = h.bytes - 8

  -- the general law
  undone : Damaged ws h vs → NextFound ws h vs → (f : ℕ) → 0 < f → Undone ours f ws h vs
  undone damaged next f l =
      let b = put_back ws h p vs damaged next in
      let long = damaged.long in
      let k = p.fits in
      run_full f l
      (record {
        ready = record {
          fits = record { enough = omega arith; not_too_many = omega arith; bytes = rw long k.bytes };
          eights = rw start refl;
          inside = omega arith;
        };
        chunks = b.chunks;
        stores = b.stores;
        run = subst (λ (c : ℕ). patrol_from b.chunks vs end c ≡ Some (patrolled 0 true b.stores)) (sym start) b.run;
        leaves = ap₂ (λ (us : List ℕ) (g : Heap). record { words = us; heap = g }) (sym b.whole) (ap (with_patrol h) start);
      })

  -- and only so: what a full patrol that undid the damage found
  only_found : (f : ℕ) → Undone ours f ws h vs → NextFound ws h vs
  only_found f full =
      let o = full_run full in
      let words = ap (λ (s : State). s.words) o.leaves in
      retraced ws h p vs o.chunks
      (record {
        long = sym (ap length words ∙ length_written o.stores vs);
        agree = agree_same end 0 vs;
        stores = o.stores;
        run = subst (λ (c : ℕ). patrol_from o.chunks vs end c ≡ Some (patrolled 0 true o.stores)) start o.run;
        whole = sym words;
      })

  -- a chunk whose next one is found has no sign of a skipped chunk there
  no_sign : NextFound ws h vs → NoSign ws h vs
  no_sign next e k =
      let b = bounds ws h p in
      go (next_by vs end e.place (omega arith) (chunk_end e) (next e k)).1
    where
      go : NextBy vs end e.place (chunk_end e) → skips vs e.place (chunk_end e) ≡ false
      go (by_link q s) = s
      go (by_walk q s) = no_skip_lem vs e.place (chunk_end e) (omega arith)

  -- whole forward links with no such sign are believed
  links_found : ForwardWhole ws h vs → NoSign ws h vs → NextFound ws h vs
  links_found whole none e (m, l) =
      let link = whole e m ∙ (chunk_right ws h p e m l).link in
      let b = believed vs end e.place (chunk_end e) (record { place = chunk_next ws h p e m l; no_skip = none e (m, l) }) in
      next_believed vs end e.place (rw link b) ∙ ap Some link

-- the forward link of e is broken, and nothing else is damaged
module _ (ws : List ℕ) (h : Heap) (p : Passes ws h) (vs : List ℕ) (e : Entry) (one : OneBroken ws h vs e) where
  on_chain : OnChain ws h e
  on_chain = one.chunk.0

  back_whole : (d : Entry) → OnChain ws h d → word vs d.place backward ≡ word ws d.place backward
  unfolding word
  back_whole d k =
      let i = inside ws h p d k in
      let j = inside ws h p e on_chain in
      one.elsewhere (d.place / 4 + backward) (λ q. omega arith)

  link_whole : (d : Entry) → OnChain ws h d → d.place ≢ e.place → word vs d.place forward ≡ word ws d.place forward
  unfolding word
  link_whole d k n =
      let i = inside ws h p d k in
      let j = inside ws h p e on_chain in
      one.elsewhere (d.place / 4 + forward) (λ q. n (omega arith))

  one_damaged : Damaged ws h vs
  one_damaged =
      record {
        long = one.long;
        elsewhere = λ i None. one.elsewhere i (λ q. None e on_chain (inl (one.chunk.1, q)));
        flags = λ d k. ap (λ (w : ℕ). w % 8) (back_whole d k);
      }

  -- the backward link of the chunk d leads to the chunk below it
  leads_down : (b d : Entry) → OnChain ws h b → OnChain ws h d → NextIs ws b d → back_offset vs d.place ≡ b.place
  leads_down b d m k n =
      let back = back_whole d k ∙ n.back in
      let i = inside ws h p b m in
      let j = inside ws h p d k in
      let o : word vs d.place backward - word vs d.place backward % 8 ≡ b.place = omega arith in
      o

  -- the backward walk from a chunk above e finds the one next above e
  walk_finds : (k : ℕ) (d : Entry) → OnChain ws h d → e.place < d.place → d.place / 8 ≤ k → seek_from k vs e.place d.place ≡ Some (chunk_end e)
  walk_finds zero d m l f = let i = inside ws h p d m in absurd (omega arith)
  walk_finds (suc k) d m l f =
      let (b, n, up) = below_it ws h p d m (omega arith) in
      go b n up (ℕ_discrete b.place e.place) (walk_finds k b n)
    where
      go : (b : Entry) → OnChain ws h b → NextIs ws b d → Dec (b.place ≡ e.place)
          → (e.place < b.place → b.place / 8 ≤ k → seek_from k vs e.place b.place ≡ Some (chunk_end e))
          → seek_from (suc k) vs e.place d.place ≡ Some (chunk_end e)
      go b n up same rest = by same
        where
          leads : back_offset vs d.place ≡ b.place
          leads = leads_down b d n m up

          far : back_offset vs d.place + least_size (back_offset vs d.place) ≤ d.place
          far =
              let i = inside ws h p b n in
              let j = inside ws h p d m in
              let u = up.place in
              rw (leads, up.place) (chunk_next ws h p b n (omega arith)).room

          above : (chunk_end b ≤ e.place) ⊎ (chunk_end e ≤ b.place) → seek_from (suc k) vs e.place d.place ≡ Some (chunk_end e)
          above (inl o) = let u = up.place in absurd (omega arith)
          above (inr o) =
              let i = inside ws h p b n in
              let j = inside ws h p e on_chain in
              let u = up.place in
              seek_down vs e.place d.place far (rw leads (omega arith)) k
              ∙ ap (seek_from k vs e.place) leads
              ∙ rest (omega arith) (omega arith)

          by : Dec (b.place ≡ e.place) → seek_from (suc k) vs e.place d.place ≡ Some (chunk_end e)
          by (yes q) = seek_here vs e.place d.place far (leads ∙ q) k ∙ ap Some (up.place ∙ ap chunk_end (one_chunk ws h p b e n on_chain q))
          by (no o) = above (chunks_apart ws h p b e n on_chain o)

  next_found : NextFound ws h vs
  next_found d (k, l) = go (ℕ_discrete d.place e.place)
    where
      sought : next_of vs (h.bytes - 8) e.place ≡ Some (chunk_end e)
      sought =
          let s = ends ws h p in
          let last = last_or outside (shape ws h.bytes) in
          let at : last.place ≡ h.bytes - 8 = let q = s.end_place in omega arith in
          let (_, low) = one.chunk in
          next_sought vs (h.bytes - 8) e.place one.broken
          ∙ rw at at (walk_finds (h.bytes - 8) last s.end (omega arith) (omega arith))

      believes : d.place ≢ e.place → next_of vs (h.bytes - 8) d.place ≡ Some (chunk_end d)
      believes n =
          let (a, m, up) = above_it ws h p d k l in
          let link = link_whole d k n ∙ (chunk_right ws h p d k l).link in
          let back : back_offset vs (chunk_end d) ≡ d.place = rw up.place at (leads_down d a k m up) in
          let b = believed vs (h.bytes - 8) d.place (chunk_end d)
          (record { place = chunk_next ws h p d k l; no_skip = no_skip_lem vs d.place (chunk_end d) (omega arith) }) in
          next_believed vs (h.bytes - 8) d.place (rw link b) ∙ ap Some link

      go : Dec (d.place ≡ e.place) → next_of vs (h.bytes - 8) d.place ≡ Some (chunk_end d)
      go (yes q) = rw (one_chunk ws h p d e k on_chain q) sought
      go (no n) = believes n

pub mended : Mended ours
mended =
    record {
      found = λ ws h vs p z damaged next f l. undone ws h p z vs damaged next f l;
      links_back = λ ws h vs p z damaged whole none f l. undone ws h p z vs damaged (links_found ws h p z vs whole none) f l;
      only_without = λ ws h vs p z damaged whole f full. no_sign ws h p z vs (only_found ws h p z vs f full);
      one_link = λ ws h vs e p z one f l. undone ws h p z vs (one_damaged ws h p vs e one) (next_found ws h p vs e one) f l;
    }
