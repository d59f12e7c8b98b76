-- On a heap that passes, the source that the code chooses is the one that the rule names (`choose_is`). Assumes nothing.
use Rattle.std.proofs.Common.{◌≡◌, ℕ, ◌<◌, cond, leb, List, length, sym, refl, ap, ◌∙◌, arith, eq-eqb}
use native.Mathlib.Decide.{ℕ_discrete}
use Rattle.bins.specs.Bins.{first_fit_m, next_occupied_m, steps}
use Rattle.books.proofs.HeapBooks.{member_entry, list_head, list_nodes, list_short, leads_is}
use Rattle.bins.proofs.SearchLaws.{first_fit_is, next_occupied_is}
use Rattle.lists.specs.Lists.{Mem, head_or}
use Rattle.lists.proofs.MembersLaws.{kept_same}
use Rattle.record.specs.declared.heap.Heap.{Heap}
use Rattle.record.specs.declared.sources.Source.TheVariants.{FromDonor, FromTop}
use Rattle.std.specs.Prelude.{Option, Some, None}
use Rattle.record.specs.Heap.{table_of, summary_of}
use Rattle.record.specs.Table.{TakenBy, bin_of}
use Rattle.record.proofs.TableLaws.{bin_taken}
use Rattle.region.specs.Words.{word, size}
use Rattle.rules.specs.Allocate.{source_of}
use Rattle.rules.specs.Check.{Passes}
use Rattle.rules.specs.Draft.{as_read}
use Rattle.rules.specs.Kinds.{size_on}
use Rattle.rules.specs.Serve.{from_bin, own_bin, try_donor, larger_bin, try_top, chosen}
use Rattle.rules.specs.Shape.{Entry, shape, bin_list}
use Rattle.rules.proofs.SpotLaws.{size_on_lem}
use Rattle.rules.proofs.NamedLaws.{top_here, donor_here}
use Rattle.rules.proofs.CheckLaws.{table_bins}
use Rattle.grant.specs.Choose.{own_m, larger_m, donor_m, top_m, choose_m}

module _ (ws : List ℕ) (h : Heap) (p : Passes ws h) (n : ℕ) where
  abbrev es : List Entry
  es = shape ws h.bytes

  -- the size word of a member, of the donor and of the top is the distance to the next chunk
  member_size : (i c : ℕ) → i < h.bins → Mem c (bin_list ws h i) → word ws c size ≡ size_on es c
  member_size i c l m =
      let r = member_entry ws h p i c l m in
      r.1.sized ∙ sym (size_on_lem ws h p c r.0 r.1.member r.1.place)

  top_size : word ws h.top.0 size ≡ size_on es h.top.0
  top_size = let t = top_here ws h p in rw t.place at t.free.sized

  donor_size : 0 < h.donor.0 → word ws h.donor.0 size ≡ size_on es h.donor.0
  donor_size l = let t = donor_here ws h p l in rw t.place at t.free.sized

  -- each of the four tries is the rule's
  own_is : (b : Option ℕ) → TakenBy (table_of h) n b → from_bin (own_m ws h.heads n b) ≡ own_bin es (bin_list ws h) n b
  unfolding own_m
  own_is (Some i) k =
      let l : i < h.bins = rw (table_bins h p.table) at k.inside in
      ap from_bin
      (ap (first_fit_m steps ws n) (list_head ws h p i)
      ∙ first_fit_is ws n (bin_list ws h i) (leads_is ws h p i l) (list_short ws h p i)
      ∙ ap (head_or 0) (kept_same _ _ (bin_list ws h i) (λ c m. ap (leb n) (member_size i c l m))))
  own_is None k = refl

  larger_is : (b : Option ℕ) → TakenBy (table_of h) n b → from_bin (larger_m h.heads (length (table_of h)) b) ≡ larger_bin h (bin_list ws h) b
  unfolding larger_m
  larger_is (Some i) k =
      ap from_bin
      (ap (next_occupied_m h.heads i) (table_bins h p.table)
      ∙ next_occupied_is h.heads (bin_list ws h) h.bins (λ j l. list_head ws h p j) (λ j l c m. (list_nodes ws h p j l c m).some) i)
  larger_is None k = refl

  donor_is_lem : cond (donor_m ws h.donor.0 n) (Some FromDonor) None ≡ try_donor h es n
  unfolding donor_m
  donor_is_lem = go (ℕ_discrete h.donor.0 0)
    where
      go : Dec (h.donor.0 ≡ 0) → cond (donor_m ws h.donor.0 n) (Some FromDonor) None ≡ try_donor h es n
      go (yes e) = rw (eq-eqb h.donor.0 0 e)
      go (no k) = rw (donor_size (omega arith))

  top_is_lem : cond (top_m ws h.top.0 n) (Some FromTop) None ≡ try_top h es n
  unfolding top_m
  top_is_lem = rw top_size

  pub choose_is : choose_m ws (table_of h) h.heads (summary_of h) n ≡ source_of n (as_read ws h)
  unfolding choose_m chosen as_read
  choose_is =
      let t = bin_taken (table_of h) n in
      rw (own_is (bin_of (table_of h) n) t, larger_is (bin_of (table_of h) n) t, donor_is_lem, top_is_lem)
