-- Wrong programs (manual 7; document 01, "How far each statement reaches"; document 02, requests One, Two, Four, Five and Six): forty-three ways of
-- answering that the promises must rule out. Each answers one call, or the questions, wrongly and the other calls by the rules.
use Rattle.std.specs.Prelude.{Bool, true, false, not, cond, ◌&&◌, List, [], ◌∷◌, ℕ, suc, ◌+◌, ◌-◌, eqb, leb, ltb, ℤ, pos, Option, Some, None, is_none}
use Rattle.record.specs.declared.answers.Answer.{Answer}
use Rattle.record.specs.declared.answers.Answer.TheVariants.{Done, Granted, Returned, Told, Counted, Refused}
use Rattle.record.specs.declared.answers.Refusal.TheVariants.{BlockSize, NoRoom}
use Rattle.lists.specs.Lists.{head_or, last_or, but_last, keep, up_to, on_from, numbers_from, gathered}
use Rattle.record.specs.declared.heap.Heap.{Heap}
use Rattle.record.specs.declared.kinds.Kind.{Kind}
use Rattle.record.specs.declared.kinds.Kind.TheVariants.{Ordinary, Donor}
use Rattle.record.specs.declared.sources.Source.{Source}
use Rattle.record.specs.declared.sources.Source.TheVariants.{FromBin, FromDonor, FromTop}
use Rattle.record.specs.Heap.{table_of, with_donor, with_merge, with_patrol}
use Rattle.record.specs.Table.{least, small, bin_of, small_bins}
use Rattle.region.specs.declared.Block.{Block}
use Rattle.region.specs.Words.{word, store, forward, size}
use Rattle.rules.specs.Shape.{Entry, entry, shape}
use Rattle.rules.specs.Kinds.{overhead, ordinary_kind, unused, is_at, outside, size_on}
use Rattle.rules.specs.Check.{passes, counts_of}
use Rattle.rules.specs.Draft.{Draft, as_read, with_heap, now_uses, leave, put_between, put_into, on_bin, relink, settle, spot}
use Rattle.rules.specs.Serve.{need, permitted, from_bin, own_bin, larger_bin, try_donor, try_top, in_order, first_of}
use Rattle.rules.specs.Cut.{Grant, cut, chunks_of, grant_from}
use Rattle.rules.specs.Join.{joining, leave_bins, swallowing}
use Rattle.rules.specs.Allocate.{source_of, cleared, allocate_with}
use Rattle.rules.specs.Free.{is_live, block_spot, free_block, free_refusals, freed}
use Rattle.rules.specs.Reallocate.{resize_refusals}
use Rattle.rules.specs.Outcome.{judged, heap_fails, unchanged, made, grants}
use Rattle.rules.specs.Statements.{Left, left_by}
use Rattle.rules.specs.Calls.{Setup, Allocate, AllocateCleared, Free, Reallocate, SetMerge, Check, AskChunk, AskBin, Patrol}
use Rattle.promises.specs.Ways.{Way, ours}

-- what is done for one call, on each region and record
abbrev pub Doing : Type 0
Doing = List ℕ → Heap → Left

-- each call as given, in the order of `Call`; cleared allocate by the rules
abbrev pub done : (List ℕ → ℕ → Bool → Doing) → (ℕ → Doing) → (ℕ → Doing) → (ℕ → ℕ → Doing) → (Bool → Doing) → Doing → (ℕ → ℕ → Doing) → (ℕ → ℕ → Doing)
    → (ℕ → Doing) → Way
done setup allocate free reallocate set_merge check ask_chunk ask_bin patrol (Setup table donor merge) = setup table donor merge
done setup allocate free reallocate set_merge check ask_chunk ask_bin patrol (Allocate z) = allocate z
done setup allocate free reallocate set_merge check ask_chunk ask_bin patrol (AllocateCleared count size) = ours (AllocateCleared count size)
done setup allocate free reallocate set_merge check ask_chunk ask_bin patrol (Free b) = free b
done setup allocate free reallocate set_merge check ask_chunk ask_bin patrol (Reallocate b z) = reallocate b z
done setup allocate free reallocate set_merge check ask_chunk ask_bin patrol (SetMerge on) = set_merge on
done setup allocate free reallocate set_merge check ask_chunk ask_bin patrol Check = check
done setup allocate free reallocate set_merge check ask_chunk ask_bin patrol (AskChunk q p) = ask_chunk q p
done setup allocate free reallocate set_merge check ask_chunk ask_bin patrol (AskBin q i) = ask_bin q i
done setup allocate free reallocate set_merge check ask_chunk ask_bin patrol (Patrol f) = patrol f

-- the rules' own of these
abbrev sets_up : List ℕ → ℕ → Bool → Doing
sets_up table donor merge = ours (Setup table donor merge)

abbrev allocates : ℕ → Doing
allocates z = ours (Allocate z)

abbrev frees : ℕ → Doing
frees b = ours (Free b)

abbrev reallocates : ℕ → ℕ → Doing
reallocates b z = ours (Reallocate b z)

abbrev sets_merge : Bool → Doing
sets_merge on = ours (SetMerge on)

abbrev asks_chunk : ℕ → ℕ → Doing
asks_chunk q p = ours (AskChunk q p)

abbrev asks_bin : ℕ → ℕ → Doing
asks_bin q i = ours (AskBin q i)

abbrev patrols : ℕ → Doing
patrols f = ours (Patrol f)

-- all by the rules, but for the one that is named; but for the questions
abbrev pub but_setup : (List ℕ → ℕ → Bool → Doing) → Way
but_setup setup = done setup allocates frees reallocates sets_merge (ours Check) asks_chunk asks_bin patrols

abbrev pub but_allocate : (ℕ → Doing) → Way
but_allocate allocate = done sets_up allocate frees reallocates sets_merge (ours Check) asks_chunk asks_bin patrols

abbrev pub but_free : (ℕ → Doing) → Way
but_free free = done sets_up allocates free reallocates sets_merge (ours Check) asks_chunk asks_bin patrols

abbrev pub but_reallocate : (ℕ → ℕ → Doing) → Way
but_reallocate reallocate = done sets_up allocates frees reallocate sets_merge (ours Check) asks_chunk asks_bin patrols

abbrev pub but_set_merge : (Bool → Doing) → Way
but_set_merge set_merge = done sets_up allocates frees reallocates set_merge (ours Check) asks_chunk asks_bin patrols

abbrev pub but_check : Doing → Way
but_check check = done sets_up allocates frees reallocates sets_merge check asks_chunk asks_bin patrols

abbrev pub but_questions : (ℕ → ℕ → Doing) → (ℕ → ℕ → Doing) → Way
but_questions ask_chunk ask_bin = done sets_up allocates frees reallocates sets_merge (ours Check) ask_chunk ask_bin patrols

abbrev pub but_patrol : (ℕ → Doing) → Way
but_patrol patrol = done sets_up allocates frees reallocates sets_merge (ours Check) asks_chunk asks_bin patrol

-- an answer that changes nothing
abbrev pub merely : Answer → Doing
merely a ws h = left_by ws (unchanged h a)

-- 1: every allocation is refused for lack of room
abbrev pub refuses_always : Way
refuses_always = but_allocate (λ z. merely (Refused NoRoom))

-- 2: every allocation answers with the same block; record and words are right
abbrev pub same_block : Block → Way
same_block block =
    but_allocate
    (λ z ws h.
    let left = ours (Allocate z) ws h in
    record { answer = Granted block (pos (need overhead z)); heap = left.heap; words = left.words })

-- 3: free answers as it should and does nothing
abbrev pub idle_free : Way
idle_free = but_free (λ b ws h. merely (ours (Free b) ws h).answer ws h)

-- 4: every bin is said to have n chunks; the other questions are answered by the rules
abbrev pub invented_count : ℕ → Way
invented_count n = but_questions asks_chunk (λ q i ws h. cond (eqb q 1) (merely (Told (Some n)) ws h) (asks_bin q i ws h))

-- 5: the check says that n bytes are used; its other counts are right
abbrev pub invented_used : ℕ → Way
invented_used n =
    but_check
    (λ ws h.
    let c = counts_of h (shape ws h.bytes) in
    merely (Counted (record { chunks = c.chunks; ordinary = c.ordinary; used = n; free = c.free })) ws h)

-- 6: the first run of the patrol walks everything, however few chunks it is asked for: there are fewer chunks than heap bytes
abbrev pub walks_all : Way
walks_all = but_patrol (λ f ws h. ours (Patrol h.bytes) ws h)

-- 7: the patrol answers as it should and writes nothing
abbrev pub never_writes : Way
never_writes =
    but_patrol
    (λ f ws h.
    let left = ours (Patrol f) ws h in
    record { answer = left.answer; heap = left.heap; words = ws })

-- 8: a run that is refused has mended its first chunk before it meets what is beyond mending
abbrev is_refused : Answer → Bool
is_refused Done = false
is_refused (Granted block change) = false
is_refused (Returned change) = false
is_refused (Told value) = false
is_refused (Counted counts) = false
is_refused (Refused refusal) = true

abbrev pub writes_first : Way
writes_first =
    but_patrol
    (λ f ws h.
    let left = ours (Patrol f) ws h in
    record {
      answer = left.answer;
      heap = left.heap;
      words = cond (is_refused left.answer) (ours (Patrol 1) ws h).words left.words;
    })

-- 9: the size word of the first chunk is set to its size, though the chunk may be in use
abbrev pub sizes_all : Way
sizes_all =
    but_patrol
    (λ f ws h.
    let left = ours (Patrol f) ws h in
    let c = h.patrol.0 in
    record { answer = left.answer; heap = left.heap; words = store left.words c size (word ws c forward - c) })

-- the questions, with what the rules tell told in another way: a value, or none. A refused question stays refused
abbrev pub retold : (Option ℕ → Answer) → Answer → Answer
retold tell Done = Done
retold tell (Granted block change) = Granted block change
retold tell (Returned change) = Returned change
retold tell (Told value) = tell value
retold tell (Counted counts) = Counted counts
retold tell (Refused refusal) = Refused refusal

abbrev pub but_told : (Option ℕ → Answer) → Way
but_told tell =
    but_questions
    (λ q p ws h. merely (retold tell (asks_chunk q p ws h).answer) ws h)
    (λ q i ws h. merely (retold tell (asks_bin q i ws h).answer) ws h)

-- 10: 0 is told where there is none, as document 01 had it
abbrev pub zero_if_none : Option ℕ → Answer
zero_if_none (Some v) = Told (Some v)
zero_if_none None = Told (Some 0)

abbrev pub zero_for_none : Way
zero_for_none = but_told zero_if_none

-- 11: none is told where the value is 0
abbrev pub none_if_zero : Option ℕ → Answer
none_if_zero (Some v) = cond (eqb v 0) (Told None) (Told (Some v))
none_if_zero None = Told None

abbrev pub none_for_zero : Way
none_for_zero = but_told none_if_zero

-- 12: 0 is told, whatever the question
abbrev pub always_zero : Way
always_zero = but_told (λ v. Told (Some 0))

-- Allocate with the tries in another order, or with fewer of them: `order` is told whether the need is small, and what the own bin, the larger
-- bins, the donor and the top have. It is refused for lack of room where these tries find nothing
abbrev pub Ordering : Type 0
Ordering = Bool → Option Source → Option Source → Option Source → Option Source → List (Option Source)

-- what is found in bins for the need n, given its own bin
abbrev pub OfBins : Type 0
OfBins = ℕ → Draft → Option ℕ → Option Source

abbrev first_of_own : OfBins
first_of_own n d own = own_bin d.chain d.lists n own

abbrev first_of_larger : OfBins
first_of_larger n d own = larger_bin d.heap d.lists own

abbrev tried : OfBins → OfBins → Ordering → ℕ → Draft → Option Source
tried own larger order n d =
    let h = d.heap in
    let bin = bin_of (table_of h) n in
    first_of (order (small (table_of h) n) (own n d bin) (larger n d bin) (try_donor h d.chain n) (try_top h d.chain n))

-- allocate with another choice of the source, and with another cut
abbrev but_grant : (ℕ → Draft → Option Source) → (Option Source → ℕ → Draft → Grant) → Way
but_grant choose cuts =
    but_allocate
    (λ z ws h.
    let before = as_read ws h in
    let n = need overhead z in
    let source = choose n before in
    let g = cuts source n before in
    left_by ws
    (judged h (heap_fails ws h ∷ (not (permitted z), BlockSize) ∷ (is_none source, NoRoom) ∷ []) (made (grants 0 g.granted) g.draft)))

abbrev pub but_tries : OfBins → OfBins → Ordering → Way
but_tries own larger order = but_grant (tried own larger order) grant_from

abbrev pub but_order : Ordering → Way
but_order = but_tries first_of_own first_of_larger

-- 13: for a need that is not small the donor is tried before the top
abbrev pub donor_before_top : Way
donor_before_top =
    but_order (λ little own larger donor top. cond little (in_order little own larger donor top) (own ∷ larger ∷ donor ∷ top ∷ []))

-- 14: for a small need the larger bins are tried before the donor
abbrev pub larger_before_donor : Way
larger_before_donor =
    but_order (λ little own larger donor top. cond little (own ∷ larger ∷ donor ∷ top ∷ []) (in_order little own larger donor top))

-- 15: a need that is not small never comes from the donor, as document 01 had it
abbrev pub donor_for_small : Way
donor_for_small =
    but_order (λ little own larger donor top. cond little (in_order little own larger donor top) (own ∷ larger ∷ top ∷ []))

-- free with another rule of putting a chunk into a bin
abbrev Putting : Type 0
Putting = Entry → ℕ → Draft → Draft

abbrev settle_by : Putting → Kind → Entry → Draft → Draft
settle_by puts k e d = cond (ordinary_kind k) (on_bin (puts e) (bin_of (table_of d.heap) e.size) d) (settle k e d)

abbrev free_by : Putting → ℕ → Draft → Draft
free_by puts b d =
    let s = block_spot d b in
    let j = joining d.heap s.low s.here s.high in
    let linked = relink j.low (j.here ∷ []) j.high (leave_bins j.leaving d) in
    now_uses s.here.size 0 (swallowing j.here (settle_by puts j.becomes j.here linked))

-- free with another draft for a live block
abbrev but_freed : (ℕ → Draft → Draft) → Way
but_freed frees =
    but_free
    (λ b ws h.
    let before = as_read ws h in
    left_by ws (judged h (free_refusals (heap_fails ws h) before b) (made (freed before b).answer (cond (eqb b 0) before (frees b before)))))

-- outside the small array a chunk goes before the first one for which `stops` holds. The rules' own is `larger`
abbrev Stopping : Type 0
Stopping = List Entry → Entry → ℕ → Bool

abbrev pub but_put : Stopping → Way
but_put stops =
    but_freed
    (free_by
    (λ e i d.
    let cs = d.lists i in
    cond (ltb i (small_bins (table_of d.heap))) (put_into i e d)
    (put_between i (up_to (stops d.chain e) cs) e.place (on_from (stops d.chain e) cs) d)))

-- 16: a chunk is put before those of equal size
abbrev pub before_equals : Way
before_equals = but_put (λ es e c. leb e.size (size_on es c))

-- 17: a chunk is put at the tail, as document 01 had it
abbrev pub at_the_tail : Way
at_the_tail = but_put (λ es e c. false)

-- 18: of the own bin the last chunk that fits is taken
abbrev pub last_of_own : OfBins
last_of_own n d (Some i) = from_bin (last_or 0 (keep (λ c. leb n (size_on d.chain c)) (d.lists i)))
last_of_own n d None = None

abbrev pub last_that_fits : Way
last_that_fits = but_tries last_of_own first_of_larger in_order

-- 19: the larger bins are tried before the own bin
abbrev pub larger_before_own : Way
larger_before_own = but_order (λ little own larger donor top. larger ∷ in_order little own larger donor top)

-- 20: of the larger bins the last chunk is taken, the largest there
abbrev pub last_of_larger : OfBins
last_of_larger n d (Some i) = from_bin (last_or 0 (gathered d.lists (numbers_from (suc i) (d.heap.bins - suc i))))
last_of_larger n d None = None

abbrev pub largest_of_larger : Way
largest_of_larger = but_tries first_of_own last_of_larger in_order

-- 21: the top is tried before the bins
abbrev pub top_before_bins : Way
top_before_bins = but_order (λ little own larger donor top. top ∷ in_order little own larger donor top)

-- 22: allocate answers that it is done, and changes nothing
abbrev pub says_done : Way
says_done = but_allocate (λ z. merely Done)

-- 23: allocate answers the same change each time; block, record and words are right
abbrev changed_by : ℤ → Answer → Answer
changed_by d Done = Done
changed_by d (Granted block change) = Granted block d
changed_by d (Returned change) = Returned change
changed_by d (Told value) = Told value
changed_by d (Counted counts) = Counted counts
changed_by d (Refused refusal) = Refused refusal

abbrev pub invented_change : ℤ → Way
invented_change d =
    but_allocate
    (λ z ws h.
    let left = allocates z ws h in
    record { answer = changed_by d left.answer; heap = left.heap; words = left.words })

-- 24: of the top all is granted but 24 bytes
abbrev all_of_top : Option Source → ℕ → Draft → Grant
all_of_top (Some (FromBin c)) n d = grant_from (Some (FromBin c)) n d
all_of_top (Some FromDonor) n d = grant_from (Some FromDonor) n d
all_of_top (Some FromTop) n d = grant_from (Some FromTop) (size_on d.chain d.heap.top.0 - least) d
all_of_top None n d = grant_from None n d

abbrev pub takes_the_top : Way
takes_the_top = but_grant source_of all_of_top

-- 25: an ordinary chunk is granted whole, however large it is
abbrev whole_chunk : Option Source → ℕ → Draft → Grant
whole_chunk (Some (FromBin c)) n d = grant_from (Some (FromBin c)) (size_on d.chain c.0) d
whole_chunk (Some FromDonor) n d = grant_from (Some FromDonor) n d
whole_chunk (Some FromTop) n d = grant_from (Some FromTop) n d
whole_chunk None n d = grant_from None n d

abbrev pub never_splits : Way
never_splits = but_grant source_of whole_chunk

-- 26: a block that shrinks keeps its tail
abbrev pub keeps_the_tail : Way
keeps_the_tail =
    but_reallocate
    (λ b z ws h.
    let before = as_read ws h in
    let e = (block_spot before b).here in
    cond (is_live before b && leb (need overhead z) e.size)
    (left_by ws (judged h (resize_refusals (heap_fails ws h) before b z) (unchanged h (grants e.size e))))
    (reallocates b z ws h))

-- 27, 28: free joins nothing, or joins always, whatever the setting says
abbrev joins_if : Bool → Way
joins_if on =
    but_free
    (λ b ws h.
    let left = frees b ws (with_merge h on) in
    record { answer = left.answer; heap = with_merge left.heap h.merge; words = left.words })

abbrev pub never_joins : Way
never_joins = joins_if false

abbrev pub always_joins : Way
always_joins = joins_if true

-- 29: a freed chunk joins the donor below it, and is the donor then
abbrev joined_to_donor : ℕ → Draft → Draft
joined_to_donor b d =
    let s = block_spot d b in
    let below = last_or outside s.low in
    let joined = entry below.place (below.size + s.here.size) unused in
    cond (eqb below.place d.heap.donor.0)
    (now_uses s.here.size 0 (swallowing joined (settle Donor joined (relink (but_last s.low) (joined ∷ []) s.high d))))
    (free_block b d)

abbrev pub joins_donor_below : Way
joins_donor_below = but_freed joined_to_donor

-- 30: setup turns merging on, whatever was asked for
abbrev pub ignores_setting : Way
ignores_setting = but_setup (λ table donor merge. sets_up table donor true)

-- 31: in a bin of the small array a chunk is put last
abbrev pub small_at_the_tail : Way
small_at_the_tail =
    but_freed
    (free_by (λ e i d. cond (ltb i (small_bins (table_of d.heap))) (put_between i (d.lists i) e.place [] d) (put_into i e d)))

-- 32: in any other bin a chunk is put first
abbrev pub large_at_the_head : Way
large_at_the_head = but_put (λ es e c. true)

-- 33: plain allocate clears the block
abbrev pub clears_unasked : Way
clears_unasked = but_allocate (λ z ws h. left_by ws (allocate_with cleared ws h z))

-- 34, 35: the check, or a question about a bin, puts the first chunk of bin 0 last. The heap passes still
abbrev turned : Draft → Draft
turned d =
    let c = head_or 0 (d.lists 0) in
    let without = leave 0 c d in
    cond (eqb c 0) d (put_between 0 (without.lists 0) c [] without)

abbrev turning : Answer → Doing
turning a ws h = cond (passes ws h) (left_by ws (made a (turned (as_read ws h)))) (merely a ws h)

abbrev pub rewriting_check : Way
rewriting_check = but_check (λ ws h. turning (ours Check ws h).answer ws h)

abbrev pub rewriting_question : Way
rewriting_question = but_questions asks_chunk (λ q i ws h. turning (asks_bin q i ws h).answer ws h)

-- 36: the merge setting answers as it should and changes nothing
abbrev pub idle_setting : Way
idle_setting = but_set_merge (λ on ws h. merely (sets_merge on ws h).answer ws h)

-- 37: a double free is believed: on a heap that passes every block is accepted, and where there is none nothing changes
abbrev pub believes_twice : Way
believes_twice =
    but_free (λ b ws h. cond (passes ws h && not (is_live (as_read ws h) b)) (merely (Returned (pos 0)) ws h) (frees b ws h))

-- 38: free takes the place of a chunk for that of its block
abbrev pub takes_chunk_for_block : Way
takes_chunk_for_block =
    but_free (λ b ws h. cond (is_live (as_read ws h) (b + overhead)) (frees (b + overhead) ws h) (frees b ws h))

-- 39: free puts the first chunk of bin 0 last before it frees: two chunks of that bin change their order
abbrev pub turns_abin : Way
turns_abin = but_freed (λ b d. free_block b (turned d))

-- 40: what remains of the donor goes into a bin, and there is no donor any more
abbrev donor_once : Option Source → ℕ → Draft → Grant
donor_once (Some (FromBin c)) n d = grant_from (Some (FromBin c)) n d
donor_once (Some FromDonor) n d =
    let s = spot (is_at d.heap.donor.0) d.chain in
    let parts = cut s.here 0 n in
    let linked = relink s.low (chunks_of parts) s.high d in
    record {
      granted = parts.granted;
      draft = now_uses 0 parts.granted.size (settle Ordinary parts.above (with_heap (with_donor linked.heap 0) linked));
    }
donor_once (Some FromTop) n d = grant_from (Some FromTop) n d
donor_once None n d = grant_from None n d

abbrev pub gives_up_the_donor : Way
gives_up_the_donor = but_grant source_of donor_once

-- 41: allocate turns merging off
abbrev pub turns_merging_off : Way
turns_merging_off =
    but_allocate
    (λ z ws h.
    let left = allocates z ws h in
    record { answer = left.answer; heap = with_merge left.heap false; words = left.words })

-- 42: free brings the patrol back to the start
abbrev pub forgets_the_place : Way
forgets_the_place =
    but_free
    (λ b ws h.
    let left = frees b ws h in
    record { answer = left.answer; heap = with_patrol left.heap 0; words = left.words })

-- 43: a block that is reallocated moves as if merging were off: its old chunk joins nothing
abbrev pub moves_unjoined : Way
moves_unjoined =
    but_reallocate
    (λ b z ws h.
    let left = reallocates b z ws (with_merge h false) in
    record { answer = left.answer; heap = with_merge left.heap h.merge; words = left.words })
