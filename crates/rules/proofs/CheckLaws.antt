-- The test `passes` decides `Passes`, on every region and every record (`passes_iff`). Assumes nothing.
use mathlib.Core.Path.{◌≡◌, refl}
use mathlib.Core.Bool.{false≢true}
use mathlib.Core.List.{List, [], ◌∷◌}
use Prim.Native.Nat.{ℕ, ◌+◌, ◌*◌, ◌%◌, ◌<◌}
use native.Mathlib.Omega.{arith}
use lib.ListN.{length, get_or}
use lib.Seq.{length-take-le}
use Rattle.lists.specs.Lists.{Mem, head_or, last_or}
use Rattle.lists.proofs.ListsLaws.{Decides, number_is, at_most, less, meaning, both, if_then, for_each, for_some, for_below, is_member, once, itself, zeros_from}
use Rattle.lists.proofs.AscendingLaws.{ascending_iff}
use Rattle.record.specs.declared.heap.Heap.{Heap}
use Rattle.std.specs.Prelude.{Option, Some, None}
use Rattle.record.specs.Heap.{table_of}
use Rattle.record.specs.Table.{bin_of, small_bins}
use Rattle.record.proofs.TableLaws.{valid_iff}
use Rattle.region.specs.Words.{word, forward, backward, size, next_in_bin, previous_in_bin, bin}
use Rattle.rules.specs.Shape.{Entry, shape, bin_list, heap_bytes, chunk_end}
use Rattle.rules.specs.Kinds.{ordinary, outside, size_on}
use Rattle.rules.specs.Check.{Fits, fits, Tabled, tabled, Chained, chained, Ended, ended, Backed, backed, Sound, sound, Reserved, reserved, Linked, linked, is_bin, BelongsTo, belongs_to, Listed, listed, in_bin, used_bytes, PassesAs, Passes, passes_as, passes}

-- the record's table has as many sizes as the record has bins
pub table_bins : (h : Heap) → Tabled h → length (table_of h) ≡ h.bins
table_bins h t = length-take-le h.bins h.sizes (omega arith)

module _ (ws : List ℕ) (h : Heap) where
  pub fits_iff : Decides (fits ws h) (Fits ws h)
  fits_iff =
      meaning (both (both (at_most 10 (length ws)) (at_most (length ws) 16384)) (number_is h.bytes (heap_bytes (length ws))))
      (λ ((enough, most), bytes). record { enough = enough; not_too_many = most; bytes = bytes })
      (λ f. ((f.enough, f.not_too_many), f.bytes))

  tabled_iff : Decides (tabled h) (Tabled h)
  tabled_iff =
      meaning
      (both (both (both (both (both (both (both
      (number_is (length h.sizes) 32)
      (number_is (length h.heads) 32))
      (number_is (length h.tails) 32))
      (at_most h.bins 32))
      (valid_iff (table_of h)))
      (zeros_from h.bins h.sizes))
      (zeros_from h.bins h.heads))
      (zeros_from h.bins h.tails))
      (λ (((((((sizes, heads), tails), bins), valid), sizes_end), heads_end), tails_end).
      record {
        size_places = sizes;
        head_places = heads;
        tail_places = tails;
        bins = bins;
        valid = valid;
        sizes_end = sizes_end;
        heads_end = heads_end;
        tails_end = tails_end;
      })
      (λ f.
      (((((((f.size_places, f.head_places), f.tail_places), f.bins), f.valid), f.sizes_end), f.heads_end), f.tails_end))

  chained_iff : (es : List Entry) → Decides (chained ws h es) (Chained ws h es)
  chained_iff es =
      meaning
      (both
      (both (number_is ((last_or outside es).place + 8) h.bytes) (number_is (word ws (last_or outside es).place forward) 0))
      (for_each (λ e. number_is (e.place % 8) 0) es))
      (λ ((reaches, ends), eights). record { reaches_end = reaches; ends_there = ends; eights = eights })
      (λ f. ((f.reaches_end, f.ends_there), f.eights))

  backed_iff : (p : ℕ) (es : List Entry) → Decides (backed ws p es) (Backed ws p es)
  backed_iff p [] = (λ t. tt, λ f. refl)
  backed_iff p (e ∷ es) =
      both (number_is (word ws e.place backward) (p + e.flags)) (backed_iff e.place es)

  sound_iff : (e : Entry) → Decides (sound ws h e) (Sound ws h e)
  sound_iff e =
      meaning
      (both
      (both (at_most e.flags 1) (if_then (less 0 e.place) (if_then (less (e.place + 8) h.bytes) (at_most 24 e.size))))
      (if_then (number_is e.flags 0) (number_is (word ws e.place size) e.size)))
      (λ ((flags, room), sized). record { flags = flags; room = room; sized = sized })
      (λ f. ((f.flags, f.room), f.sized))

  reserved_iff : (c : ℕ) (e : Entry) → Decides (reserved ws c e) (Reserved ws c e)
  reserved_iff c e =
      meaning
      (both
      (both (number_is e.place c) (number_is e.flags 0))
      (both (both (number_is (word ws c next_in_bin) 0) (number_is (word ws c previous_in_bin) 0)) (number_is (word ws c bin) 0)))
      (λ ((here, free), ((next, previous), bin)).
      record { here = here; free = free; out = record { next = next; previous = previous; bin = bin } })
      (λ f. ((f.here, f.free), ((f.out.next, f.out.previous), f.out.bin)))

  linked_iff : (p : ℕ) (cs : List ℕ) → Decides (linked ws p cs) (Linked ws p cs)
  linked_iff p [] = (λ t. tt, λ f. refl)
  linked_iff p (c ∷ cs) =
      meaning
      (both (both (number_is (word ws c previous_in_bin) p) (number_is (word ws c next_in_bin) (head_or 0 cs))) (linked_iff c cs))
      (λ ((previous, next), rest). (previous, next, rest))
      (λ (previous, next, rest). ((previous, next), rest))

  bin_iff : (i : ℕ) (r : Option ℕ) → Decides (is_bin i r) (r ≡ Some i)
  bin_iff i (Some j) =
      meaning (number_is i j) (λ e. rw e refl) (λ e. cc)
  bin_iff i None = (λ t. absurd (false≢true t), λ e. cc)

  belongs_iff : (i : ℕ) (e : Entry) → Decides (belongs_to h i e) (BelongsTo h i e)
  belongs_iff i e = both (itself (ordinary h e)) (bin_iff i (bin_of (table_of h) e.size))

  listed_iff : (es : List Entry) (i : ℕ) (cs : List ℕ) → Decides (listed ws h es i cs) (Listed ws h es i cs)
  listed_iff es i cs =
      meaning
      (both (both (both (both (both
      (number_is (get_or h.tails i 0) (last_or 0 cs))
      (linked_iff 0 cs))
      (once cs))
      (for_each (λ c. for_some (λ e. both (number_is e.place c) (belongs_iff i e)) es) cs))
      (for_each (λ c. number_is (word ws c bin) (8 * i)) cs))
      (if_then (at_most (small_bins (table_of h)) i) (ascending_iff (size_on es) cs)))
      (λ (((((tail, links), once), chunks), words), order).
      record { tail = tail; links = links; once = once; chunks = chunks; words = words; order = order })
      (λ f. (((((f.tail, f.links), f.once), f.chunks), f.words), f.order))

  in_bin_iff : (c : ℕ) (r : Option ℕ)
      → Decides (in_bin ws h c r) ((i : ℕ) × (r ≡ Some i) × ((i < h.bins) × Mem c (bin_list ws h i)))
  in_bin_iff c (Some j) =
      meaning (both (less j h.bins) (is_member c (bin_list ws h j)))
      (λ t. (j, refl, t))
      (λ f. let e : f.0 ≡ j = cc f.1 in rw e at f.2)
  in_bin_iff c None = (λ t. absurd (false≢true t), λ f. cc f.1)

  passes_as_iff : (es : List Entry) → Decides (passes_as ws h es) (PassesAs ws h es)
  unfolding passes_as
  passes_as_iff es =
      meaning
      (both (both (both (both (both (both (both (both (both (both (both
      fits_iff
      tabled_iff)
      (chained_iff es))
      (ended_iff es))
      (backed_iff 0 es))
      (for_each sound_iff es))
      (for_some (λ e. both (reserved_iff h.top.0 e) (number_is (chunk_end e + 8) h.bytes)) es))
      (if_then (less 0 h.donor.0) (for_some (λ e. both (reserved_iff h.donor.0 e) (less h.donor.0 h.top.0)) es)))
      (for_below (λ i. listed_iff es i (bin_list ws h i)) h.bins))
      (for_each (λ e. if_then (itself (ordinary h e)) (in_bin_iff e.place (bin_of (table_of h) e.size))) es))
      (number_is h.used (used_bytes h es)))
      (for_some (λ e. number_is e.place h.patrol.0) es))
      (λ (((((((((((fits, table), chain), ends), backward), chunks), top), donor), bins), binned), used), patrol).
      record {
        fits = fits;
        table = table;
        chain = chain;
        ends = ends;
        backward = backward;
        chunks = chunks;
        top = top;
        donor = donor;
        bins = bins;
        binned = binned;
        used = used;
        patrol = patrol;
      })
      (λ f.
      (((((((((((f.fits, f.table), f.chain), f.ends), f.backward), f.chunks), f.top), f.donor), f.bins), f.binned), f.used), f.patrol))
    where
      ended_iff : (es : List Entry) → Decides (ended es) (Ended es)
      ended_iff es =
          meaning
          (both
          (both (number_is (head_or outside es).size 8) (number_is (head_or outside es).flags 1))
          (number_is (last_or outside es).flags 1))
          (λ ((size, starts), ends). record { start_size = size; start_used = starts; end_used = ends })
          (λ f. ((f.start_size, f.start_used), f.end_used))

  pub passes_iff : Decides (passes ws h) (Passes ws h)
  unfolding passes
  passes_iff = passes_as_iff (shape ws h.bytes)
