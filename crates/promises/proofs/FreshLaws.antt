-- An accepted setup makes a heap that passes, whatever the region held (`fresh_passes`), with the chain of a fresh heap (`fresh_chain`) and empty bins
-- (`lists_empty`). It leaves what lies above the header of a free chunk (`fresh_found`). Assumes nothing.
use mathlib.Core.Path.{◌≡◌, refl, sym, ap, ◌∙◌}
use mathlib.Core.Logic.{◌≢◌, inl, inr}
use mathlib.Core.Bool.{Bool, false, false≢true}
use mathlib.Core.List.Memᴰ
use mathlib.Core.List.{List, [], ◌∷◌, ◌++◌}
use Prim.Native.Nat.{ℕ, ◌+◌, ◌*◌, ◌-◌, ◌%◌, ◌≤◌, ◌<◌}
use native.Mathlib.Omega.{arith}
use lib.ListN.{length, length-append, get_or, replicate, length-replicate}
use lib.Seq.{take-append_seam, get_or-append-add}
use borrow.Author.Tests.{ne_eqb, not-false}
use Rattle.lists.specs.Lists.{Mem, last_or}
use Rattle.lists.proofs.ListsLaws.{each_cons, zero_at}
use Rattle.record.specs.declared.heap.Heap.{Heap}
use Rattle.record.specs.Table.{ValidTable, valid_table}
use Rattle.record.proofs.TableLaws.{valid_iff}
use Rattle.region.specs.Words.{Store, put, word, written, forward, backward}
use Rattle.region.proofs.WordsLaws.{off, got, length_written}
use Rattle.rules.specs.Shape.{Entry, entry, shape, members, bin_list, heap_bytes}
use Rattle.rules.specs.Kinds.{ordinary, live, outside}
use Rattle.rules.specs.Check.{Fits, Tabled, Unbinned, TopIs, DonorIs, Listed, used_bytes, Passes, PassesAs}
use Rattle.rules.specs.Draft.{headers, no_bin_words}
use Rattle.rules.specs.Setup.{donor_fits, fresh, first_headers, setup_refusals}
use Rattle.rules.proofs.OutcomeLaws.{Failed}
use Rattle.rules.proofs.KindsLaws.{kind_start, kind_end, kind_top, kind_donor}
use Rattle.rules.proofs.ShapeLaws.{read_none}
use Rattle.rules.proofs.TiledLaws.{Tiled}
use Rattle.drafts.proofs.LayoutLaws.{Laid, Layout, laid_between}
use Rattle.drafts.proofs.HeaderLaws.{Header, Headed, headed_joined, headed_backed, reads_as, headed_chained, headed_sound, PassByHeader, headed_keeps, headers_written}
use Rattle.promises.specs.Fresh.{first_chain}
use Rattle.promises.proofs.ReasonLaws.{length_in, Fitting, fitting_iff}

-- a table filled up with zeros reads 0 past its sizes
zero_past : (t : List ℕ) (n i : ℕ) → length t ≤ i → get_or (t ++ replicate n 0) i 0 ≡ 0
zero_past t n i l =
    ap (λ (k : ℕ). get_or (t ++ replicate n 0) k 0) (omega arith)
    ∙ get_or-append-add t (replicate n 0) (i - length t) 0
    ∙ zero_at n (i - length t)

-- P holds of every member of the empty list
no_more : (P : Entry → Type 0) (e : Entry) → Mem e [] → P e
no_more P e m = absurd (Memᴰ.not-nil m)

-- where no chunk is live no bytes are used
none_used : (h : Heap) (es : List Entry) → ((e : Entry) → Mem e es → live h e ≡ false) → used_bytes h es ≡ 0
none_used h [] f = refl
none_used h (e ∷ es) f = rw (f e (Memᴰ.head refl)) (none_used h es (λ d m. f d (Memᴰ.tail m)))

-- the patrol's place, 0, is the first chunk's
start_there : (bytes : ℕ) (es : List Entry) → Tiled 0 es bytes → 0 < bytes → (e : Entry) × Mem e es × (e.place ≡ 0)
start_there bytes [] t l = absurd (omega arith)
start_there bytes (e ∷ es) (here, _, _) l = (e, Memᴰ.head refl, here)

module _ (ws table : List ℕ) (merge : Bool) (valid : ValidTable table) (enough : 10 ≤ length ws) (few : length ws ≤ 16384) where
  abbrev bytes : ℕ
  bytes = heap_bytes (length ws)

  abbrev opened : ℕ → Heap
  opened donor = fresh bytes table donor merge

  abbrev words : ℕ → List ℕ
  words donor = written ws (first_headers bytes donor)

  fits : (donor : ℕ) → Fits (words donor) (opened donor)
  fits donor =
      let n = length_written (first_headers bytes donor) ws in
      record { enough = omega arith; not_too_many = omega arith; bytes = rw n refl }

  tabled : (donor : ℕ) → Tabled (opened donor)
  tabled donor =
      let few = valid.few in
      record {
        size_places = rw (length-append, length-replicate) (omega arith);
        head_places = refl;
        tail_places = refl;
        bins = few;
        valid = rw (take-append_seam table (replicate (32 - length table) 0)) valid;
        sizes_end = λ i l. zero_past table (32 - length table) i l;
        heads_end = λ i l. zero_at 32 i;
        tails_end = λ i l. zero_at 32 i;
      }

  -- every list is empty
  pub lists_empty : (donor i : ℕ) → bin_list (words donor) (opened donor) i ≡ []
  unfolding members
  lists_empty donor i = rw (zero_at 32 i) (read_none (words donor) bytes)

  -- a layout with its headers is the chain
  chain_read : (donor : ℕ) (es : List Entry) → Layout bytes es → Headed (words donor) outside es outside → shape (words donor) bytes ≡ es
  chain_read donor es y k = reads_as (words donor) bytes es (omega arith) y k

  -- the chunk is neither ordinary nor live
  abbrev Neither : ℕ → Entry → Type 0
  Neither donor e = (ordinary (opened donor) e ≡ false) × (live (opened donor) e ≡ false)

  -- a layout with its headers, no ordinary and no live chunk, and top and donor where they have to be: the heap passes
  module _ (donor : ℕ) (es : List Entry) (y : Layout bytes es) (k : Headed (words donor) outside es outside)
      (top : (e : Entry) × Mem e es × TopIs (words donor) (opened donor) e)
      (given : 0 < (opened donor).donor.0 → (e : Entry) × Mem e es × DonorIs (words donor) (opened donor) e)
      (none : (e : Entry) → Mem e es → Neither donor e) where
    listed : (i : ℕ) → Listed (words donor) (opened donor) es i (bin_list (words donor) (opened donor) i)
    listed i =
        rw (lists_empty donor i)
        (record {
          tail = zero_at 32 i;
          links = tt;
          once = tt;
          chunks = λ c m. absurd (Memᴰ.not-nil m);
          words = λ c m. absurd (Memᴰ.not-nil m);
          order = λ large. tt;
        })

    passes_so : PassesAs (words donor) (opened donor) es
    passes_so =
        record {
          fits = fits donor;
          table = tabled donor;
          chain = headed_chained y k (omega arith);
          ends = y.ended;
          backward = headed_backed (words donor) outside es outside k;
          chunks = headed_sound y k;
          top = top;
          donor = given;
          bins = λ i l. listed i;
          binned = λ e m o. absurd (false≢true (sym (none e m).0 ∙ o));
          used = sym (none_used (opened donor) es (λ e m. (none e m).1));
          patrol = start_there bytes es y.tiled (omega arith);
        }

    passes : Passes (words donor) (opened donor)
    passes = rw (chain_read donor es y k) passes_so

  -- the chunks of a fresh heap
  abbrev start : Entry
  start = entry 0 8 1

  abbrev donor_of : ℕ → Entry
  donor_of donor = entry 8 donor 0

  abbrev top_of : ℕ → Entry
  top_of donor = entry (8 + donor) (bytes - 8 - (8 + donor)) 0

  abbrev end : Entry
  end = entry (bytes - 8) 8 1

  start_laid : Laid bytes start
  start_laid =
      record { eight = refl; some = omega arith; ends = omega arith; flags = omega arith; room = λ l r. absurd (omega arith); free = λ f. absurd (omega arith) }

  end_laid : Laid bytes end
  end_laid =
      record { eight = omega arith; some = omega arith; ends = omega arith; flags = omega arith; room = λ l r. absurd (omega arith); free = λ f. absurd (omega arith) }

  -- the end's links, above a top at this place
  abbrev end_links : ℕ → List Store
  end_links top = put (bytes - 8) forward 0 ∷ put (bytes - 8) backward (top + 1) ∷ []

  -- the headers of the chunks es below the end are written, then the stores `later`: they make the end's header and spare the others
  headers_then : (es : List Entry) (later : List Store) → Tiled 0 es (bytes - 8) → ((e : Entry) → Mem e es → Laid bytes e)
      → ((e : Entry) → Mem e es → PassByHeader later e) → let after = written (written ws (headers 0 es)) later in
      Header after (last_or outside es) end outside → Headed after outside (es ++ end ∷ []) outside
  headers_then es later tiles laid spares own =
      headed_joined _ outside es (end ∷ []) outside
      (headed_keeps later (written ws (headers 0 es)) outside es end spares (headers_written ws outside es end 0 tiles laid (omega arith))) (own, tt)

  module _ (donor : ℕ) (eight : donor % 8 ≡ 0) (room : donor + 40 ≤ bytes) where
    top_laid : Laid bytes (top_of donor)
    top_laid = laid_between bytes (top_of donor) (omega arith) (omega arith) (record { some = omega arith; above = omega arith; below = omega arith })

    start_neither : Neither donor start
    start_neither = rw (← kind_start bytes (opened donor).donor.0 (8 + donor) start refl) (refl, refl)

    end_neither : Neither donor end
    end_neither = rw (← kind_end bytes (opened donor).donor.0 (8 + donor) end (λ q. omega arith) (omega arith)) (refl, refl)

    top_neither : Neither donor (top_of donor)
    top_neither =
        rw (← kind_top bytes (opened donor).donor.0 (8 + donor) (top_of donor) (λ q. omega arith) (λ q. omega arith) (λ q. omega arith) refl) (refl, refl)

  -- a free chunk keeps what lies above its header of six words
  abbrev Found : ℕ → Entry → Type 0
  Found donor e = e.flags ≡ 0 → (k : ℕ) → 6 ≤ k → 4 * k < e.size → word (words donor) e.place k ≡ word ws e.place k

  -- without a donor: start, top and end
  abbrev plain : List Entry
  plain = start ∷ top_of 0 ∷ end ∷ []

  plain_laid : Layout bytes plain
  plain_laid =
      record {
        tiled = omega arith;
        chunks = each_cons start_laid (each_cons (top_laid 0 (omega arith) (omega arith)) (each_cons end_laid (no_more (Laid bytes))));
        ended = record { start_size = refl; start_used = refl; end_used = refl };
        reaches = omega arith;
      }

  plain_headed : Headed (words 0) outside plain outside
  plain_headed =
      let ss : List Store = first_headers bytes 0 in
      headers_then (start ∷ top_of 0 ∷ []) (no_bin_words 8 ++ end_links 8) (omega arith)
      (each_cons start_laid (each_cons (top_laid 0 (omega arith) (omega arith)) (no_more (Laid bytes))))
      (each_cons (omega arith) (each_cons (omega arith) (no_more (PassByHeader (no_bin_words 8 ++ end_links 8)))))
      (record {
        back = got 9 ss ws (omega arith) tt;
        forth = got 8 ss ws (omega arith) (omega arith);
        sized = λ z. absurd (omega arith);
      })

  plain_top : Unbinned (words 0) 8
  plain_top =
      let ss : List Store = first_headers bytes 0 in
      record {
        next = got 5 ss ws (omega arith) (omega arith);
        previous = got 6 ss ws (omega arith) (omega arith);
        bin = got 7 ss ws (omega arith) (omega arith);
      }

  plain_passes : Passes (words 0) (opened 0)
  plain_passes =
      passes 0 plain plain_laid plain_headed
      (top_of 0, Memᴰ.tail (Memᴰ.head refl), (record { here = refl; free = refl; out = plain_top }, omega arith))
      (λ some. absurd (omega arith))
      (each_cons (start_neither 0 (omega arith) (omega arith))
      (each_cons (top_neither 0 (omega arith) (omega arith)) (each_cons (end_neither 0 (omega arith) (omega arith)) (no_more (Neither 0)))))

  plain_found : (e : Entry) → Mem e plain → Found 0 e
  plain_found =
      each_cons (λ f. absurd (omega arith))
      (each_cons (λ f k six less. off (first_headers bytes 0) ws 8 k (omega arith)) (each_cons (λ f. absurd (omega arith)) (no_more (Found 0))))

  -- with a donor
  module _ (donor : ℕ) (large : 24 ≤ donor) (eight : donor % 8 ≡ 0) (room : donor + 40 ≤ bytes) where
    abbrev donated : List Entry
    donated = start ∷ donor_of donor ∷ top_of donor ∷ end ∷ []

    some : donor ≢ 0
    some q = omega arith

    donor_laid : Laid bytes (donor_of donor)
    donor_laid = laid_between bytes (donor_of donor) refl (omega arith) (record { some = large; above = omega arith; below = omega arith })

    donated_laid : Layout bytes donated
    donated_laid =
        record {
          tiled = omega arith;
          chunks = each_cons start_laid (each_cons donor_laid (each_cons (top_laid donor eight room) (each_cons end_laid (no_more (Laid bytes)))));
          ended = record { start_size = refl; start_used = refl; end_used = refl };
          reaches = omega arith;
        }

    -- the stores, written out: those of the headers, and those after them
    abbrev later : List Store
    later = no_bin_words 8 ++ no_bin_words (8 + donor) ++ end_links (8 + donor)

    abbrev stores : List Store
    stores = headers 0 (start ∷ donor_of donor ∷ top_of donor ∷ []) ++ later

    stores_are : first_headers bytes donor ≡ stores
    stores_are = rw (ne_eqb donor 0 some)

    donated_headed : Headed (words donor) outside donated outside
    donated_headed =
        rw stores_are
        (headers_then (start ∷ donor_of donor ∷ top_of donor ∷ []) later (omega arith)
        (each_cons start_laid (each_cons donor_laid (each_cons (top_laid donor eight room) (no_more (Laid bytes)))))
        (each_cons (omega arith) (each_cons (omega arith) (each_cons (omega arith) (no_more (PassByHeader later)))))
        (record {
          back = got 15 stores ws (omega arith) tt;
          forth = got 14 stores ws (omega arith) (omega arith);
          sized = λ z. absurd (omega arith);
        }))

    donor_out : Unbinned (words donor) 8
    donor_out =
        rw stores_are
        (record {
          next = got 8 stores ws (omega arith) (omega arith);
          previous = got 9 stores ws (omega arith) (omega arith);
          bin = got 10 stores ws (omega arith) (omega arith);
        })

    top_out : Unbinned (words donor) (8 + donor)
    top_out =
        rw stores_are
        (record {
          next = got 11 stores ws (omega arith) (omega arith);
          previous = got 12 stores ws (omega arith) (omega arith);
          bin = got 13 stores ws (omega arith) (omega arith);
        })

    donor_named : (opened donor).donor.0 ≡ 8
    donor_named = rw (ne_eqb donor 0 some)

    donor_neither : Neither donor (donor_of donor)
    donor_neither =
        rw (← kind_donor bytes (opened donor).donor.0 (8 + donor) (donor_of donor) (λ q. omega arith) (λ q. omega arith) (λ q. omega arith) (λ q. omega arith) (sym donor_named)) (refl, refl)

    donated_passes : Passes (words donor) (opened donor)
    donated_passes =
        passes donor donated donated_laid donated_headed
        (top_of donor, Memᴰ.tail (Memᴰ.tail (Memᴰ.head refl)), (record { here = refl; free = refl; out = top_out }, omega arith))
        (λ there. (donor_of donor, Memᴰ.tail (Memᴰ.head refl), rw donor_named (record { here = refl; free = refl; out = donor_out }, omega arith)))
        (each_cons (start_neither donor eight room)
        (each_cons donor_neither (each_cons (top_neither donor eight room) (each_cons (end_neither donor eight room) (no_more (Neither donor))))))

    donated_found : (e : Entry) → Mem e donated → Found donor e
    donated_found =
        each_cons (λ f. absurd (omega arith))
        (each_cons (λ f k six less. rw stores_are (off stores ws 8 k (omega arith)))
        (each_cons (λ f k six less. rw stores_are (off stores ws (8 + donor) k (omega arith)))
        (each_cons (λ f. absurd (omega arith)) (no_more (Found donor)))))

    donated_is : first_chain bytes donor ≡ donated
    donated_is = rw (ne_eqb donor 0 some)

  pub fresh_chain : (donor : ℕ) → Fitting ws donor → shape (words donor) bytes ≡ first_chain bytes donor
  fresh_chain donor (inl z) = rw z (chain_read 0 plain plain_laid plain_headed)
  fresh_chain donor (inr ((large, eight), room)) =
      let r : donor + 40 ≤ bytes = omega arith in
      chain_read donor (donated donor large eight r) (donated_laid donor large eight r) (donated_headed donor large eight r)
      ∙ sym (donated_is donor large eight r)

  pub fresh_found : (donor : ℕ) → Fitting ws donor → (e : Entry) → Mem e (first_chain bytes donor) → Found donor e
  fresh_found donor (inl z) = rw z plain_found
  fresh_found donor (inr ((large, eight), room)) =
      let r : donor + 40 ≤ bytes = omega arith in
      rw (donated_is donor large eight r) (donated_found donor large eight r)

  pub fresh_passes : (donor : ℕ) → Fitting ws donor → Passes (words donor) (opened donor)
  fresh_passes donor (inl z) = rw z plain_passes
  fresh_passes donor (inr ((large, eight), room)) = donated_passes donor large eight (omega arith)

-- what an accepted setup was given
pub record Openable (ws table : List ℕ) (donor : ℕ) : Type 0 where
  pub valid : ValidTable table
  pub enough : 10 ≤ length ws
  pub few : length ws ≤ 16384
  pub fitting : Fitting ws donor

pub openable : (ws table : List ℕ) (donor : ℕ) → Failed (setup_refusals ws table donor) → Openable ws table donor
openable ws table donor (size, (t, (d, _))) =
    let n = length_in ws size in
    record {
      valid = (valid_iff table).0 (not-false (valid_table table) t);
      enough = n.0;
      few = n.1;
      fitting = (fitting_iff ws donor).0 (not-false (donor_fits (heap_bytes (length ws)) donor) d);
    }
