-- The two walks together: on a region and a record whose table is right they come through exactly when all other facts of the check hold
-- (`well_iff`). Assumes nothing.
use mathlib.Core.Path.{◌≡◌, sym, ◌∙◌, subst}
use mathlib.Core.Logic.{◌⊎◌, inl, inr}
use mathlib.Core.Bool.{true}
use mathlib.Core.List.Memᴰ
use mathlib.Core.List.{List}
use Prim.Native.Nat.{ℕ, ◌+◌, ◌-◌, ◌%◌, ◌^◌, ◌≤◌, ◌<◌, max}
use native.Mathlib.Decide.{ℕ_discrete}
use native.Mathlib.Omega.{arith}
use lib.ListN.{length, get_or, length-map}
use Rattle.lists.specs.Lists.{Mem, last_or, keep, total, numbers_from}
use Rattle.lists.proofs.AscendingLaws.{ascending_same}
use Rattle.lists.proofs.ListsLaws.{Decides, number_is, itself, both, or_else, denied, meaning}
use Rattle.lists.proofs.MembersLaws.{kept_from, kept_has, kept_few}
use Rattle.record.specs.declared.heap.Heap.{Heap}
use Rattle.record.specs.declared.heap.Summary.{Summary}
use Rattle.record.specs.declared.kinds.Kind.TheVariants.{Ordinary}
use Rattle.record.specs.Heap.{table_of, summary_of}
use Rattle.region.specs.Words.{word, size}
use Rattle.rules.specs.Check.{Tabled, Listed, InItsBin, BelongsTo, used_bytes, free_bytes}
use Rattle.rules.specs.Kinds.{ordinary, kind_of, outside, size_on}
use Rattle.rules.specs.Shape.{Entry, shape, bin_list, members, members_from}
use Rattle.rules.proofs.BytesLaws.{bytes_shared}
use Rattle.rules.proofs.CheckLaws.{table_bins}
use Rattle.rules.proofs.ChainLaws.{shape_chain}
use Rattle.rules.proofs.KindsLaws.{being_as, ordinary_kind_lem, ordinary_free}
use Rattle.rules.proofs.OrderLaws.{size_there, every_bin_iff}
use Rattle.rules.proofs.ShapeLaws.{shape_is}
use Rattle.rules.proofs.TiledLaws.{chain_tiled, tiled_in, tiled_eights}
use Rattle.audit.specs.Audit.{is_settled_m, is_shared_m, marks_of, met_all, walks_well}
use Rattle.sweep.specs.Sweep.{list_at, all_whole}
use Rattle.survey.specs.declared.Tally.{Tally}
use Rattle.survey.proofs.SurveyLaws.{chunks_few, whole_iff}
use Rattle.audit.proofs.SurveyMeaning.{ChainFacts, found_facts, facts_found, tally_ordinary, tally_free, tally_for}
use Rattle.audit.proofs.MarksMeaning.{ordinaries, ordinaries_once, marks_are}
use Rattle.audit.proofs.SweepMeaning.{Marks, MemberFacts, BinIs, Combs, Covered, combs_bins, bins_combs}

-- the facts of the check that the walks decide
pub record Rest (ws : List ℕ) (h : Heap) : Type 0 where
  pub chain : ChainFacts ws h (shape ws h.bytes)
  pub bins : (i : ℕ) → i < h.bins → Listed ws h (shape ws h.bytes) i (bin_list ws h i)
  pub binned : (e : Entry) → Mem e (shape ws h.bytes) → ordinary h e ≡ true → InItsBin ws h e
  pub used : h.used ≡ used_bytes h (shape ws h.bytes)

-- the tests after the walk of the chain
settled_iff : (t : Tally) (s : Summary) → Decides (is_settled_m t s) ((0 < t.tops) × (0 < s.donor.0 → 0 < t.donors))
unfolding is_settled_m
settled_iff t s =
    meaning
    (both (denied (number_is t.tops 0)) (or_else (number_is s.donor.0 0) (denied (number_is t.donors 0))))
    (λ (tops, donor). (omega arith, λ l. donors donor l))
    (λ (top, donor). (λ e. omega arith, back donor (ℕ_discrete s.donor.0 0)))
  where
    donors : (s.donor.0 ≡ 0) ⊎ (t.donors ≡ 0 → ⊥) → 0 < s.donor.0 → 0 < t.donors
    donors (inl e) l = absurd (omega arith)
    donors (inr n) l = omega arith

    back : (0 < s.donor.0 → 0 < t.donors) → Dec (s.donor.0 ≡ 0) → (s.donor.0 ≡ 0) ⊎ (t.donors ≡ 0 → ⊥)
    back f (yes e) = inl e
    back f (no n) = let l = f (omega arith) in inr (λ e. omega arith)

module _ (ws : List ℕ) (h : Heap) (big : 40 ≤ h.bytes) (small : h.bytes ≤ 65536) (table : Tabled h) where
  abbrev es : List Entry
  es = shape ws h.bytes

  abbrev all : List ℕ
  all = ordinaries h es

  some : 0 < h.bytes
  some = omega arith

  -- the marks after the walk of the chain
  abbrev marked_all : List ℕ
  marked_all = marks_of ws (table_of h) h.heads h.tails (summary_of h)

  -- an ordinary chunk's place is one of `all`, and the other way
  known_of : (e : Entry) → Mem e es → ordinary h e ≡ true → Mem e.place all
  known_of e m o = Memᴰ.map (λ (d : Entry). d.place) (kept_has (ordinary h) m o)

  of_known : (c : ℕ) → Mem c all → (e : Entry) × Mem e es × ((e.place ≡ c) × (ordinary h e ≡ true))
  of_known c m =
      let (e, kept, here) = Memᴰ.of_map (λ (d : Entry). d.place) (keep (ordinary h) es) m in
      let (member, is_ordinary) = kept_from (ordinary h) es kept in
      (e, member, (here, is_ordinary))

  -- there are few of them
  few : length all < 2 ^ 32
  few =
      let a = kept_few (ordinary h) es in
      let b : length es ≤ max 1 (h.bytes - 0) = rw (shape_is ws h.bytes) (chunks_few ws h.bytes 0) in
      let d : length all ≡ length (keep (ordinary h) es) = length-map (keep (ordinary h) es) (λ (d : Entry). d.place) in
      omega arith

  module _ (facts : ChainFacts ws h es) where
    eights : (c : ℕ) → Mem c all → c % 8 ≡ 0
    eights c m = let (e, member, (here, is_ordinary)) = of_known c m in rw here at (facts.chain.eights e member)

    -- the header of each is behind the start and inside the heap: it lies between the ends, and has at least 24 bytes
    bounded : (c : ℕ) → Mem c all → (0 < c) × (c + 16 < h.bytes)
    bounded c m =
        let (e, member, (here, is_ordinary)) = of_known c m in
        let (low, not_end, free) = being_as h e Ordinary (ordinary_kind_lem (kind_of h e) is_ordinary) in
        let (above, large, below) = tiled_in 0 h.bytes es (chain_tiled ws h.bytes (omega arith)).0 member in
        let eight = facts.chain.eights e member in
        let end_eight = facts.chain.eights (last_or outside es) ((shape_chain ws h.bytes).has_last outside) in
        let end = facts.chain.reaches_end in
        let room = (facts.chunks e member).room low (omega arith) in
        (omega arith, omega arith)

    -- the size word of an ordinary chunk
    sized : (e : Entry) → Mem e es → ordinary h e ≡ true → word ws e.place size ≡ e.size
    sized e m o = let s = facts.chunks e m in s.sized (ordinary_free h e o s.flags)

    -- it is what the chain says
    size_word : (c : ℕ) (e : Entry) → Mem e es → e.place ≡ c → ordinary h e ≡ true → word ws c size ≡ size_on es c
    size_word c e m here o = (rw here at (sized e m o)) ∙ sym (size_there 0 es (shape_chain ws h.bytes).rising e m c here)

    -- and a multiple of 8, since chunks begin and end at such places
    eight_word : (c : ℕ) (e : Entry) → Mem e es → e.place ≡ c → ordinary h e ≡ true → word ws c size % 8 ≡ 0
    eight_word c e m here o =
        let end_eight = facts.chain.eights (last_or outside es) ((shape_chain ws h.bytes).has_last outside) in
        let end = facts.chain.reaches_end in
        let begins = facts.chain.eights e m in
        let ends = tiled_eights 0 h.bytes es (chain_tiled ws h.bytes (omega arith)).0 (omega arith) facts.chain.eights m in
        let s : word ws c size ≡ e.size = rw here at (sized e m o) in
        omega arith

    -- the ordinary chunks are marked
    marks : Marks ws (table_of h) table.valid all marked_all
    marks c e = marks_are ws h small facts c e

    abbrev HasBin : ℕ → Type 0
    HasBin i = BinIs ws (table_of h) table.valid all h.heads h.tails h.bytes some eights bounded i

    -- a bin's list as the walk sees it, and as the check states it
    to_listed : (i : ℕ) → i < h.bins → HasBin i → Listed ws h es i (bin_list ws h i)
    unfolding members
    to_listed i l b =
        record {
          tail = b.tail;
          links = b.links;
          once = b.once;
          chunks = λ c m. chunk c m;
          words = λ c m. let w = (b.members c m).bins in let n = table.bins in omega arith;
          order = λ _. ascending_same (bin_list ws h i) (λ c m. let (e, known, (here, own)) = chunk c m in size_word c e known here own.0) b.order;
        }
      where
        chunk : (c : ℕ) → Mem c (members_from h.bytes ws (get_or h.heads i 0)) → (e : Entry) × Mem e es × ((e.place ≡ c) × BelongsTo h i e)
        chunk c m =
            let f = b.members c m in
            let (e, member, (here, is_ordinary)) = of_known c f.known in
            let s : word ws c size ≡ e.size = rw here at (sized e member is_ordinary) in
            (e, member, (here, (is_ordinary, (rw s at f.takes))))

    of_listed : (i : ℕ) → i < h.bins → Listed ws h es i (bin_list ws h i) → HasBin i
    unfolding members
    of_listed i l b =
        record {
          tail = b.tail;
          links = b.links;
          once = b.once;
          members = λ c m. member c m;
          order =
              (every_bin_iff (table_of h) table.valid i (λ c. word ws c size) (bin_list ws h i) (λ c m. (member c m).takes)
              (λ c m. let (e, known, (here, own)) = b.chunks c m in eight_word c e known here own.0)).0
              (λ upper.
              ascending_same (bin_list ws h i) (λ c m. let (e, known, (here, own)) = b.chunks c m in sym (size_word c e known here own.0))
              (b.order upper));
        }
      where
        member : (c : ℕ) → Mem c (members_from h.bytes ws (get_or h.heads i 0)) → MemberFacts ws (table_of h) table.valid all i c
        member c m =
            let (e, known, (here, (is_ordinary, takes))) = b.chunks c m in
            let s : word ws c size ≡ e.size = rw here at (sized e known is_ordinary) in
            let w = b.words c m in
            let n = table.bins in
            record {
              known = rw here at (known_of e known is_ordinary);
              bins = omega arith;
              takes = rw s takes;
            }

    -- every ordinary chunk is in a list, as the walk sees it, and as the check states it
    abbrev AllListed : Type 0
    AllListed = Covered ws (table_of h) table.valid all h.heads h.tails h.bytes some eights bounded h.bins

    covered_binned : ((i : ℕ) → i < h.bins → HasBin i) → AllListed
        → (e : Entry) → Mem e es → ordinary h e ≡ true → InItsBin ws h e
    unfolding members
    covered_binned f g e m o =
        let (i, below, listed) = g e.place (known_of e m o) in
        let t = ((f i below).members e.place listed).takes in
        (i, (rw (sized e m o) at t), (below, listed))

    binned_covered : ((e : Entry) → Mem e es → ordinary h e ≡ true → InItsBin ws h e) → AllListed
    unfolding members
    binned_covered f c m =
        let (e, member, (here, is_ordinary)) = of_known c m in
        let (i, takes, (below, listed)) = f e member is_ordinary in
        (i, below, (rw here at listed))

  -- used bytes are what free bytes, start and end leave
  shared_out : ChainFacts ws h es → used_bytes h es + free_bytes h es + 16 ≡ h.bytes
  shared_out facts = bytes_shared ws h (omega arith) facts.ends.start_size facts.chain.reaches_end

  -- where both walks come through, the facts hold; and the other way
  rest : ChainFacts ws h es
      → all_whole ws (table_of h) h.heads h.tails h.bytes marked_all (numbers_from 0 (length (table_of h))) ≡ true
      → met_all ws (table_of h) h.heads h.tails (summary_of h) ≡ length (keep (ordinary h) es)
      → (tally_for h es).free + h.used + 16 ≡ h.bytes → Rest ws h
  rest facts d e shared =
      let (listed, covered) =
      combs_bins ws (table_of h) table.valid all h.heads h.tails h.bytes some (eights facts) (bounded facts) h.bins marked_all few
      (marks facts) (ordinaries_once ws h)
      (record {
        whole = rw (table_bins h table) at d;
        count = (rw (table_bins h table) at e) ∙ sym (length-map (keep (ordinary h) es) (λ (d : Entry). d.place));
      }) in
      record {
        chain = facts;
        bins = λ i l. to_listed facts i l (listed i l);
        binned = covered_binned facts listed covered;
        used = omega (arith, shared_out facts, tally_free h es);
      }

  combs : (r : Rest ws h)
      → Combs ws (table_of h) table.valid all h.heads h.tails h.bytes some (eights r.chain) (bounded r.chain) h.bins marked_all
  combs r =
      bins_combs ws (table_of h) table.valid all h.heads h.tails h.bytes some (eights r.chain) (bounded r.chain) h.bins marked_all few
      (marks r.chain) (ordinaries_once ws h)
      (λ i l. of_listed r.chain i l (r.bins i l)) (binned_covered r.chain r.binned)

  -- the walks come through exactly when the facts hold
  pub well_iff : Decides (walks_well ws (table_of h) h.heads h.tails (summary_of h)) (Rest ws h)
  unfolding walks_well is_shared_m
  well_iff =
      meaning
      (both (both (both (both
      (whole_iff ws (summary_of h))
      (settled_iff (tally_for h es) (summary_of h)))
      (number_is ((tally_for h es).free + h.used + 16) h.bytes))
      (itself (all_whole ws (table_of h) h.heads h.tails h.bytes marked_all (numbers_from 0 (length (table_of h))))))
      (number_is (met_all ws (table_of h) h.heads h.tails (summary_of h)) (tally_for h es).ordinary))
      (λ ((((((sound, end), patrol), (top, donor)), shared), whole), count).
      rest (found_facts ws h big (record { sound = sound; end = end; top = top; donor = donor; patrol = patrol }))
      whole (count ∙ tally_ordinary h es) shared)
      (λ r.
      let f = facts_found ws h big r.chain in
      let c = combs r in (
        (((((f.sound, f.end), f.patrol), (f.top, f.donor)), omega (arith, shared_out r.chain, tally_free h es, r.used)), subst (λ (n : ℕ). all_whole ws (table_of h) h.heads h.tails h.bytes marked_all (numbers_from 0 n) ≡ true) (sym (table_bins h table)) c.whole),
        subst (λ (n : ℕ). total (λ i. length (list_at ws (table_of h) h.heads h.tails h.bytes i)) (numbers_from 0 n) % 2 ^ 32 ≡ length all) (sym (table_bins h table)) c.count
            ∙ length-map (keep (ordinary h) es) (λ (d : Entry). d.place) ∙ sym (tally_ordinary h es),
      ))
