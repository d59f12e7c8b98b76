-- The books of a heap that passes: each bin holds the list that is read from its head; no chunk is in two lists; members lie far apart;
-- a list has at most 8192 members; every ordinary chunk is in a list. Assumes nothing.
use mathlib.Core.Path.{◌≡◌, refl, sym, ap, ◌∙◌}
use mathlib.Core.Logic.{◌≢◌, ◌⊎◌, inl, inr}
use mathlib.Core.Bool.{true}
use mathlib.Core.List.Memᴰ
use mathlib.Core.List.{List, [], ◌∷◌}
use Prim.Native.Nat.{ℕ, ◌+◌, ◌*◌, ◌≤◌, ◌<◌}
use native.Mathlib.Decide.{dec_lt}
use native.Mathlib.Omega.{arith}
use lib.ListN.{length, get_or}
use Rattle.lists.specs.Lists.{Mem, head_or}
use Rattle.record.specs.declared.heap.Heap.{Heap}
use Rattle.std.specs.Prelude.{Some}
use Rattle.record.specs.Heap.{table_of}
use Rattle.record.specs.Table.{bin_of}
use Rattle.region.specs.Words.{word, size, bin}
use Rattle.rules.specs.Shape.{Entry, shape, members, bin_list, chunk_end}
use Rattle.rules.specs.Kinds.{ordinary}
use Rattle.rules.specs.Check.{Linked, Passes}
use Rattle.rules.proofs.ChainLaws.{places_fit}
use Rattle.rules.proofs.ShapeLaws.{Leads, read_none, read_head}
use Rattle.rules.proofs.SpotLaws.{bounds, inside, chunks_apart, far, few_chunks}
use Rattle.rules.proofs.NamedLaws.{IsOrdinary, is_ordinary_lem}
use Rattle.books.specs.Books.{books}
use Rattle.books.proofs.SegmentLaws.{Node}
use Rattle.books.proofs.BooksLaws.{Holds, Far}

-- the links of a doubly linked list lead along it
pub linked_leads : (ws : List ℕ) (q : ℕ) (cs : List ℕ) → Linked ws q cs → ((c : ℕ) → Mem c cs → 0 < c) → Leads ws cs
linked_leads ws q [] l f = tt
linked_leads ws q (c ∷ cs) (_, next, rest) f = (f c (Memᴰ.head refl), next, linked_leads ws c cs rest (λ d m. f d (Memᴰ.tail m)))

-- e is the chunk of the member c of bin i
pub record Member (ws : List ℕ) (h : Heap) (es : List Entry) (i c : ℕ) (e : Entry) : Type 0 where
  pub member : Mem e es
  pub place : e.place ≡ c
  pub kind : ordinary h e ≡ true
  pub is : IsOrdinary ws h e
  pub takes : bin_of (table_of h) e.size ≡ Some i
  pub sized : word ws c size ≡ e.size
  pub binned : word ws c bin ≡ 8 * i

module _ (ws : List ℕ) (h : Heap) (p : Passes ws h) where
  abbrev pub es : List Entry
  es = shape ws h.bytes

  pub member_entry : (i c : ℕ) → i < h.bins → Mem c (bin_list ws h i) → (e : Entry) × Member ws h es i c e
  member_entry i c l m =
      let (e, on, (place, (kind, takes))) = (p.bins i l).chunks c m in
      let o = is_ordinary_lem ws h p e on kind in (
        e,
        record {
          member = on;
          place = place;
          kind = kind;
          is = o;
          takes = takes;
          sized = rw place at o.free.sized;
          binned = (p.bins i l).words c m;
        },
      )

  pub list_nodes : (i : ℕ) → i < h.bins → (c : ℕ) → Mem c (bin_list ws h i) → Node (length ws) c
  list_nodes i l c m =
      let (e, r) = member_entry i c l m in
      let b = bounds ws h p in
      let o = inside ws h p e r.member in
      record { eight = omega arith; some = omega arith; fits = omega arith }

  pub list_head : (i : ℕ) → get_or h.heads i 0 ≡ head_or 0 (bin_list ws h i)
  unfolding members
  list_head i = let b = bounds ws h p in read_head ws h.bytes (get_or h.heads i 0) (omega arith)

  pub heap_holds : (i : ℕ) → i < h.bins → Holds (books ws h.heads h.tails) i (bin_list ws h i)
  heap_holds i l =
      let k = p.bins i l in
      record { head = list_head i; tail = k.tail; links = k.links; nodes = list_nodes i l; once = k.once }

  pub members_far : (i j c d : ℕ) → i < h.bins → j < h.bins → Mem c (bin_list ws h i) → Mem d (bin_list ws h j) → c ≢ d → Far c d
  members_far i j c d li lj m k n =
      let (a, x) = member_entry i c li m in
      let (b, y) = member_entry j d lj k in
      rw (← x.place, ← y.place)
      (far ws h p a b x.member y.member (λ q. n (omega arith)) (omega arith) (omega arith) (omega arith) (omega arith))

  -- no chunk is in two lists: its bin word names one bin
  pub lists_apart : (i j : ℕ) → i < h.bins → j < h.bins → i ≢ j → (c : ℕ) → Mem c (bin_list ws h i) → Mem c (bin_list ws h j) → ⊥
  lists_apart i j li lj n c m k =
      let a = (member_entry i c li m).1 in
      let b = (member_entry j c lj k).1 in
      let q : 8 * i ≡ 8 * j = sym a.binned ∙ b.binned in
      n (omega arith)

  pub leads_is : (i : ℕ) → i < h.bins → Leads ws (bin_list ws h i)
  leads_is i l = linked_leads ws 0 (bin_list ws h i) (p.bins i l).links (λ c m. (list_nodes i l c m).some)

  -- past the bin count all heads are 0
  pub list_none : (i : ℕ) → h.bins ≤ i → bin_list ws h i ≡ []
  unfolding members
  list_none i l = rw (p.table.heads_end i l) (read_none ws h.bytes)

  -- the members are places of different chunks, and those have at least 8 bytes each
  pub list_short : (i : ℕ) → length (bin_list ws h i) ≤ 8192
  list_short i = go (dec_lt i h.bins)
    where
      go : Dec (i < h.bins) → length (bin_list ws h i) ≤ 8192
      go (yes l) =
          let fits = places_fit (bin_list ws h i) es (p.bins i l).once (λ c m. let (e, r) = member_entry i c l m in (e, r.member, r.place)) in
          let b = bounds ws h p in
          let few = few_chunks ws h p in
          omega arith
      go (no n) = let e = ap length (list_none i (omega arith)) in omega arith

  pub ordinary_listed : (e : Entry) → Mem e es → ordinary h e ≡ true
      → (i : ℕ) × (i < h.bins) × (bin_of (table_of h) e.size ≡ Some i) × Mem e.place (bin_list ws h i)
  ordinary_listed e m o = let (i, takes, (inside, member)) = p.binned e m o in (i, inside, takes, member)

  -- a member ends, with its 24 bytes, below every chunk above it
  pub member_below : (j x : ℕ) → j < h.bins → Mem x (bin_list ws h j) → (y : Entry) → Mem y es → x < y.place → x + 24 ≤ y.place
  member_below j x l m y my lt =
      let (e, r) = member_entry j x l m in
      let b = r.is.free.between in
      go e r.place b.some (chunks_apart ws h p e y r.member my (λ q. omega arith))
    where
      go : (d : Entry) → d.place ≡ x → 24 ≤ d.size → (chunk_end d ≤ y.place) ⊎ (chunk_end y ≤ d.place) → x + 24 ≤ y.place
      go d q s (inl k) = omega arith
      go d q s (inr k) = absurd (omega arith)
