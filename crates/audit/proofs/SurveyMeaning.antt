-- The walk of the chain and four tests after it find exactly the check's facts about the chain (`found_facts`, `facts_found`),
-- and its counts are the check's counts. Assumes nothing.
use mathlib.Core.Path.{◌≡◌, refl, sym, ◌∙◌}
use mathlib.Core.Bool.{true, cond}
use mathlib.Core.List.Memᴰ
use mathlib.Core.List.{List, [], ◌∷◌}
use Prim.Native.Nat.{ℕ, ◌+◌, ◌-◌, ◌%◌, ◌≤◌, ◌<◌}
use native.Mathlib.Omega.{arith}
use lib.ListN.{length}
use Rattle.lists.specs.Lists.{Mem, head_or, last_or, keep}
use Rattle.lists.proofs.ListsLaws.{Decides, number_is, at_most, less, meaning, both, each_cons, for_some}
use Rattle.lists.proofs.TotalLaws.{total_ones, some_of_total, total_of_some, total_kept}
use Rattle.record.specs.declared.heap.Heap.{Heap}
use Rattle.record.specs.declared.kinds.Kind.{Kind}
use Rattle.record.specs.declared.kinds.Kind.TheVariants.{Start, InUse, Ordinary, Donor, Top, End}
use Rattle.record.specs.Heap.{summary_of}
use Rattle.region.specs.Words.{word, forward, backward, size, next_in_bin, previous_in_bin, bin}
use Rattle.rules.specs.Shape.{Entry, flags_at, shape}
use Rattle.rules.specs.Kinds.{kind_of, ordinary, is_free, ordinary_kind, free_kind, outside}
use Rattle.rules.specs.Check.{Chained, Ended, Backed, Sound, Unbinned, unbinned, Reserved, TopIs, DonorIs, free_bytes, IsChunk, is_chunk}
use Rattle.rules.proofs.ChainLaws.{same_place, Chain, shape_chain}
use Rattle.rules.proofs.KindsLaws.{Being, being, kind_start, kind_end, kind_top, kind_donor}
use Rattle.survey.specs.declared.Tally.{Tally}
use Rattle.survey.specs.Chunks.{is_backed_m, is_sized_m, is_start_m, is_end_m, is_donor_m, is_top_m, is_sound_m, sound_at}
use Rattle.survey.specs.Survey.{share_of, all_sound, tally_of}

-- the facts of a heap that passes which speak of the chain alone
pub record ChainFacts (ws : List ℕ) (h : Heap) (es : List Entry) : Type 0 where
  pub chain : Chained ws h es
  pub ends : Ended es
  pub backward : Backed ws 0 es
  pub chunks : (e : Entry) → Mem e es → Sound ws h e
  pub top : (e : Entry) × Mem e es × TopIs ws h e
  pub donor : 0 < h.donor.0 → (e : Entry) × Mem e es × DonorIs ws h e
  pub patrol : IsChunk es h.patrol.0

-- the tally of a list of chunks, with the record's bytes, donor and top
abbrev pub tally_for : Heap → List Entry → Tally
tally_for h es = tally_of (summary_of h) es

-- what the walk and the tests after it find
pub record Found (ws : List ℕ) (h : Heap) : Type 0 where
  pub sound : all_sound ws (summary_of h) 0 (shape ws h.bytes) ≡ true
  pub end : (last_or outside (shape ws h.bytes)).place + 8 ≡ h.bytes
  pub top : 0 < (tally_for h (shape ws h.bytes)).tops
  pub donor : 0 < h.donor.0 → 0 < (tally_for h (shape ws h.bytes)).donors
  pub patrol : is_chunk (shape ws h.bytes) h.patrol.0 ≡ true

-- only a top chunk counts as one, and only a donor
counted_as : (k : Kind) (s : ℕ) → (0 < (share_of k s).tops → Top ≡ k) × (0 < (share_of k s).donors → Donor ≡ k)
counted_as Start s = (λ l. absurd (omega arith), λ l. absurd (omega arith))
counted_as InUse s = (λ l. absurd (omega arith), λ l. absurd (omega arith))
counted_as Ordinary s = (λ l. absurd (omega arith), λ l. absurd (omega arith))
counted_as Donor s = (λ l. absurd (omega arith), λ l. refl)
counted_as Top s = (λ l. refl, λ l. absurd (omega arith))
counted_as End s = (λ l. absurd (omega arith), λ l. absurd (omega arith))

-- a chunk of the list is at the place
chunk_iff : (es : List Entry) (c : ℕ) → Decides (is_chunk es c) (IsChunk es c)
chunk_iff es c = for_some (λ (e : Entry). number_is e.place c) es

module _ (ws : List ℕ) (h : Heap) where
  -- the size is enough, and the size word says it
  abbrev Sized : Entry → Type 0
  Sized e = (24 ≤ e.size) × (word ws e.place size ≡ e.size)

  -- what the walk finds of a chunk of each kind
  abbrev As : Entry → Kind → Type 0
  As e Start = (e.size ≡ 8) × (e.flags ≡ 1)
  As e InUse = 24 ≤ e.size
  As e Ordinary = Sized e
  As e Donor = Sized e × (Unbinned ws e.place × (h.donor.0 < h.top.0))
  As e Top = Sized e × (Unbinned ws e.place × (e.place + e.size + 8 ≡ h.bytes))
  As e End = (e.flags ≡ 1) × (word ws e.place forward ≡ 0)

  sized_iff : (e : Entry) → Decides (is_sized_m ws e.place e.size) (Sized e)
  unfolding is_sized_m
  sized_iff e = both (at_most 24 e.size) (number_is (word ws e.place size) e.size)

  unbinned_iff : (e : Entry) → Decides (unbinned ws e.place) (Unbinned ws e.place)
  unbinned_iff e =
      meaning
      (both (both (number_is (word ws e.place next_in_bin) 0) (number_is (word ws e.place previous_in_bin) 0)) (number_is (word ws e.place bin) 0))
      (λ ((next, previous), bin). record { next = next; previous = previous; bin = bin })
      (λ u. ((u.next, u.previous), u.bin))

  as_iff : (e : Entry) (k : Kind) → Decides (is_sound_m ws (summary_of h) e k) (As e k)
  unfolding is_start_m is_end_m is_donor_m is_top_m
  as_iff e Start = both (number_is e.size 8) (number_is e.flags 1)
  as_iff e InUse = at_most 24 e.size
  as_iff e Ordinary = sized_iff e
  as_iff e Donor = both (sized_iff e) (both (unbinned_iff e) (less h.donor.0 h.top.0))
  as_iff e Top = both (sized_iff e) (both (unbinned_iff e) (number_is (e.place + e.size + 8) h.bytes))
  as_iff e End = both (number_is e.flags 1) (number_is (word ws e.place forward) 0)

  -- what the walk finds of a chunk, but for its backward link
  record SeenFacts (e : Entry) : Type 0 where
    eight : e.place % 8 ≡ 0
    flags : e.flags ≤ 1
    kind : As e (kind_of h e)

  seen_iff : (p : ℕ) (e : Entry) → e.flags ≡ flags_at ws e.place
      → Decides (sound_at ws (summary_of h) p e) ((word ws e.place backward ≡ p + e.flags) × SeenFacts e)
  unfolding sound_at is_backed_m
  seen_iff p e f =
      meaning
      (both (both (both (number_is (e.place % 8) 0) (at_most (flags_at ws e.place) 1)) (number_is (word ws e.place backward - flags_at ws e.place) p))
      (as_iff e (kind_of h e)))
      (λ (((eight, flags), back), kind). (omega arith, record { eight = eight; flags = rw f flags; kind = kind }))
      (λ (back, s). (((s.eight, omega (arith, s.flags)), omega arith), s.kind))

  -- the walk finds a chain with backward links all of whose chunks are so
  all_iff : (p : ℕ) (es : List Entry) → ((e : Entry) → Mem e es → e.flags ≡ flags_at ws e.place)
      → Decides (all_sound ws (summary_of h) p es) (Backed ws p es × ((e : Entry) → Mem e es → SeenFacts e))
  all_iff p [] f = (λ t. (tt, λ e m. absurd (Memᴰ.not-nil m)), λ t. refl)
  all_iff p (e ∷ es) f =
      meaning (both (seen_iff p e (f e (Memᴰ.head refl))) (all_iff e.place es (λ d m. f d (Memᴰ.tail m))))
      (λ ((back, seen), (backs, all)). ((back, backs), each_cons seen all))
      (λ ((back, backs), all). ((back, all e (Memᴰ.head refl)), (backs, λ d m. all d (Memᴰ.tail m))))

  -- what a kind says of a chunk of this heap
  abbrev Is : Entry → Kind → Type 0
  Is e k = Being h.bytes h.donor.0 h.top.0 e k

  is : (e : Entry) → Is e (kind_of h e)
  is e = being h.bytes h.donor.0 h.top.0 e

  -- so a chunk that the walk has seen is as the check asks
  module _ (e : Entry) (s : SeenFacts e) where
    by_kind : (k : Kind) → Is e k → As e k
        → (0 < e.place → e.place + 8 < h.bytes → 24 ≤ e.size) × (e.flags ≡ 0 → word ws e.place size ≡ e.size)
    by_kind Start b a = (λ p l. omega arith, λ f. omega arith)
    by_kind InUse b a = (λ p l. a, λ f. omega arith)
    by_kind Ordinary b (least, said) = (λ p l. least, λ f. said)
    by_kind Donor b ((least, said), (out, below)) = (λ p l. least, λ f. said)
    by_kind Top b ((least, said), (out, last)) = (λ p l. least, λ f. said)
    by_kind End b a = (λ p l. omega arith, λ f. omega arith)

    seen_sound : Sound ws h e
    seen_sound =
        let (room, sized) = by_kind (kind_of h e) (is e) s.kind in record { flags = s.flags; room = room; sized = sized }

    of_kind : {k : Kind} → k ≡ kind_of h e → Is e k × As e k
    of_kind q = rw q (is e, s.kind)

    -- of a top or a donor, what the check asks of both
    reserved : (c : ℕ) → e.place ≡ c → e.flags % 2 ≡ 0 → Unbinned ws e.place → Reserved ws c e
    reserved c p f u = let l = s.flags in record { here = p; free = omega arith; out = rw (← p) u }

    top_is_lem : Top ≡ kind_of h e → TopIs ws h e
    top_is_lem q =
        let ((some, below, free, here), (sized, (out, last))) = of_kind q in
        (reserved h.top.0 here free out, last)

    donor_is_lem : Donor ≡ kind_of h e → DonorIs ws h e
    donor_is_lem q =
        let ((some, below, free, here), (sized, (out, below_top))) = of_kind q in
        (reserved h.donor.0 here free out, below_top)

  -- the chain that is walked
  abbrev es : List Entry
  es = shape ws h.bytes

  known : Chain ws h.bytes 0 es
  known = shape_chain ws h.bytes

  -- what the walk finds are the check's facts
  pub found_facts : 40 ≤ h.bytes → Found ws h → ChainFacts ws h (shape ws h.bytes)
  found_facts big f =
      let (backs, seen) = (all_iff 0 es known.flags).0 f.sound in
      let d = head_or outside es in
      let l = last_or outside es in
      let end = f.end in
      let (start_size, start_used) = (of_kind d (seen d known.has_first) (kind_start _ _ _ d known.first)).1 in
      let (end_used, ends_there) = (of_kind l (seen l (known.has_last outside)) (kind_end _ _ _ l (λ z. omega arith) end)).1 in
      record {
        chain = record { reaches_end = end; ends_there = ends_there; eights = λ e m. (seen e m).eight };
        ends = record { start_size = start_size; start_used = start_used; end_used = end_used };
        backward = backs;
        chunks = λ e m. seen_sound e (seen e m);
        top =
            let (e, m, counted) = some_of_total _ es f.top in
            (e, m, top_is_lem e (seen e m) ((counted_as _ _).0 counted));
        donor = λ some.
            let (e, m, counted) = some_of_total _ es (f.donor some) in
            (e, m, donor_is_lem e (seen e m) ((counted_as _ _).1 counted));
        patrol = (chunk_iff es h.patrol.0).0 f.patrol;
      }

  -- the other way round: each chunk is as its kind asks
  module _ (big : 40 ≤ h.bytes) (facts : ChainFacts ws h (shape ws h.bytes)) where
    module _ (e : Entry) (m : Mem e es) where
      same : {d : Entry} → Mem d es → e.place ≡ d.place → e ≡ d
      same n p = same_place 0 es known.rising m n p

      starts : e.place ≡ 0 → As e Start
      starts p = rw (same known.has_first (p ∙ sym known.first)) (facts.ends.start_size, facts.ends.start_used)

      ends : e.place + 8 ≡ h.bytes → As e End
      ends p =
          let end = facts.chain.reaches_end in
          rw (same (known.has_last outside) (omega arith)) (facts.ends.end_used, facts.chain.ends_there)

      -- a free chunk is neither start nor end
      between : e.flags ≡ 0 → (e.place ≡ 0 → ⊥) × (e.place + 8 ≡ h.bytes → ⊥) × (e.flags % 2 ≡ 1 → ⊥)
      between f = (λ p. let s = starts p in omega arith, λ p. let s = ends p in omega arith, λ g. omega arith)

      roomy : 0 < e.place → (e.place + 8 ≡ h.bytes → ⊥) → 24 ≤ e.size
      roomy p n =
          let i = known.inside (omega arith) e m in
          let a = facts.chain.eights e m in
          let b = facts.chain.eights _ (known.has_last outside) in
          let end = facts.chain.reaches_end in
          (facts.chunks e m).room p (omega arith)

      sized : 0 < e.place → (e.place + 8 ≡ h.bytes → ⊥) → e.flags % 2 ≡ 0 → Sized e
      sized p n f = let s = facts.chunks e m in let l = s.flags in (roomy p n, s.sized (omega arith))

      as_kind : (k : Kind) → Is e k → As e k
      as_kind Start b = starts b
      as_kind InUse (some, below, used) = roomy some below
      as_kind Ordinary (some, below, free) = sized some below free
      as_kind Donor (some, below, free, here) =
          let (d, known, (donor, below_top)) = facts.donor (rw (← here) some) in
          (sized some below free, (rw here donor.out, below_top))
      as_kind Top (some, below, free, here) =
          let (t, known, (top, last)) = facts.top in
          (sized some below free, (rw here top.out, rw (same known (here ∙ sym top.here)) last))
      as_kind End (some, last) = ends last

      all_seen : SeenFacts e
      all_seen =
          record {
            eight = facts.chain.eights e m;
            flags = (facts.chunks e m).flags;
            kind = as_kind (kind_of h e) (is e);
          }

      -- the top and the donor are counted
      counts_top : TopIs ws h e → 0 < (tally_for h es).tops
      counts_top (top, last) =
          let (some, below, free) = between top.free in
          total_of_some _ m (rw (← kind_top h.bytes h.donor.0 h.top.0 e some below free top.here) (omega arith))

      counts_donor : DonorIs ws h e → 0 < (tally_for h es).donors
      counts_donor (donor, below_top) =
          let (some, below, free) = between donor.free in
          let here = donor.here in
          total_of_some _ m (rw (← kind_donor h.bytes h.donor.0 h.top.0 e some below free (λ q. omega arith) here) (omega arith))

    pub facts_found : Found ws h
    facts_found =
        record {
          sound = (all_iff 0 es known.flags).1 (facts.backward, all_seen);
          end = facts.chain.reaches_end;
          top = let (e, m, top) = facts.top in counts_top e m top;
          donor = λ some. let (e, m, donor) = facts.donor some in counts_donor e m donor;
          patrol = (chunk_iff es h.patrol.0).1 facts.patrol;
        }

-- what a chunk of each kind counts for
shares_are : (k : Kind) (s : ℕ)
    → ((share_of k s).ordinary ≡ cond (ordinary_kind k) 1 0)
    × ((share_of k s).free ≡ cond (free_kind k) s 0)
shares_are Start s = (refl, refl)
shares_are InUse s = (refl, refl)
shares_are Ordinary s = (refl, refl)
shares_are Donor s = (refl, refl)
shares_are Top s = (refl, refl)
shares_are End s = (refl, refl)

-- so the counts are the check's
module _ (h : Heap) (es : List Entry) where
  pub tally_ordinary : (tally_for h es).ordinary ≡ length (keep (ordinary h) es)
  tally_ordinary = total_kept _ (λ e. 1) (ordinary h) (λ e. (shares_are (kind_of h e) e.size).0) es ∙ total_ones (keep (ordinary h) es)

  pub tally_free : (tally_for h es).free ≡ free_bytes h es
  tally_free = total_kept _ (λ e. e.size) (is_free h) (λ e. (shares_are (kind_of h e) e.size).1) es
