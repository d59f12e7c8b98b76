-- 0 is told apart from none (`zero`): it follows from what the questions tell, for any way of answering (`zero_follows`). Assumes nothing.
use Rattle.std.specs.Prelude.{Some, None}
use mathlib.Core.Path.{◌≡◌, refl, sym, ap, ◌∙◌}
use mathlib.Core.Bool.{false}
use mathlib.Core.List.Memᴰ
use mathlib.Core.List.{List, [], ◌∷◌}
use Prim.Native.Nat.{ℕ, ◌%◌, ◌<◌}
use native.Mathlib.Decide.{dec_lt}
use native.Mathlib.Omega.{arith}
use lib.ListN.{drop}
use borrow.Author.Tests.{eqb-true}
use Rattle.books.proofs.HeapBooks.{list_none}
use Rattle.lists.specs.Lists.{Mem, head_or}
use Rattle.lists.proofs.ListsLaws.{itself, not_so}
use Rattle.lists.proofs.SplitLaws.{begins_with}
use Rattle.record.specs.declared.answers.Answer.TheVariants.{Told}
use Rattle.record.specs.declared.heap.Heap.{Heap}
use Rattle.rules.specs.Shape.{Entry, shape, bin_list, chunk_end}
use Rattle.rules.specs.Kinds.{ordinary_kind, ordinary, in_use, outside}
use Rattle.rules.specs.Check.{Passes}
use Rattle.rules.proofs.KindsLaws.{used_not_ordinary}
use Rattle.rules.proofs.NamedLaws.{top_here, donor_here}
use Rattle.rules.proofs.SpotLaws.{bounds, ends, tiled_at, next_is}
use Rattle.rules.proofs.TiledLaws.{tiled_empty}
use Rattle.promises.specs.Ways.{Way, ours}
use Rattle.promises.specs.Room.{OnChain}
use Rattle.promises.specs.Telling.{of_chunk, Telling}
use Rattle.promises.specs.Zero.{ZeroAt, Zero}
use Rattle.promises.proofs.TellingLaws.{telling}

module _ (way : Way) (promised : Telling way) (ws : List ℕ) (h : Heap) (p : Passes ws h) where
  abbrev es : List Entry
  es = shape ws h.bytes

  abbrev start : Entry
  start = head_or outside es

  abbrev second : Entry
  second = head_or outside (drop 1 es)

  -- the chain begins with the start and the chunk above it
  begins_two : es ≡ start ∷ second ∷ drop 1 (drop 1 es)
  begins_two =
      let n = ends ws h p in
      let b = bounds ws h p in
      let t = tiled_at ws h p [] start (drop 1 es) n.begins in
      let more = begins_with outside (drop 1 es) (λ z. let k = tiled_empty (chunk_end start) h.bytes (drop 1 es) t.above z in omega (arith, n.start_place, n.start_size, b.some)) in
      n.begins ∙ ap (λ (l : List Entry). start ∷ l) more

  second_place : second.place ≡ 8
  second_place =
      let n = ends ws h p in
      let s = next_is ws h p [] start second (drop 1 (drop 1 es)) begins_two in
      omega (arith, s.place, n.start_place, n.start_size)

  -- a chunk of the chain that is not ordinary, at c, is in no bin
  in_none : (e : Entry) → OnChain ws h e → ordinary h e ≡ false → (c : ℕ) → e.place ≡ c → of_chunk way ws h 1 c ≡ Told None
  in_none e m o c q = ap (of_chunk way ws h 1) (sym q) ∙ (promised ws h p).no_bin e m o

  zero_at : ZeroAt way ws h
  unfolding in_use
  zero_at =
      record {
        of_start = ap (of_chunk way ws h 6) (sym (ends ws h p).start_place) ∙ (promised ws h p).no_previous start (drop 1 es, (ends ws h p).begins);
        above_start =
            ap (of_chunk way ws h 6) (sym second_place) ∙ (promised ws h p).previous start second ([], drop 1 (drop 1 es), begins_two)
            ∙ ap (λ v. Told (Some v)) (ends ws h p).start_place;
        in_bin_zero = λ c m. bin_zero c m (dec_lt 0 h.bins);
        in_use = λ e m u. in_none e m (not_so (itself (ordinary h e)) (used_not_ordinary h e (eqb-true (e.flags % 2) 1 u))) e.place refl;
        donor = λ l. let d = donor_here ws h p l in in_none _ d.member (ap ordinary_kind d.kind) h.donor.0 d.place;
        top = let t = top_here ws h p in in_none _ t.member (ap ordinary_kind t.kind) h.top.0 t.place;
        empty_bin = λ i l q. ((promised ws h p).no_first i l q, (promised ws h p).no_last i l q);
      }
    where
      bin_zero : (c : ℕ) → Mem c (bin_list ws h 0) → Dec (0 < h.bins) → of_chunk way ws h 1 c ≡ Told (Some 0)
      bin_zero c m (yes l) = (promised ws h p).bin 0 c l m
      bin_zero c m (no n) = absurd (Memᴰ.not-nil (rw (list_none ws h p 0 (omega arith)) at m))

pub zero_follows : (way : Way) → Telling way → Zero way
zero_follows = zero_at

pub zero : Zero ours
zero = zero_follows ours telling
