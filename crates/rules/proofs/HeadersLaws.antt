-- Whether a heap passes, and how it is read, depends only on the headers of its chunks: the two links of every chunk
-- and the four other words of a free one. Assumes nothing.
use mathlib.Core.Path.{◌≡◌, refl, sym, ap, ap₂, ◌∙◌, fun_ext}
use mathlib.Core.List.Memᴰ
use mathlib.Core.List.{List, [], ◌∷◌}
use Prim.Native.Nat.{ℕ, zero, suc, ◌<◌}
use native.Mathlib.Decide.{ℕ_discrete, dec_lt}
use native.Mathlib.Omega.{arith}
use lib.ListN.{get_or}
use Rattle.lists.specs.Lists.{Mem}
use Rattle.record.specs.declared.heap.Heap.{Heap}
use Rattle.region.specs.Words.{word, forward, backward, size, next_in_bin, previous_in_bin, bin}
use Rattle.rules.specs.Shape.{Entry, shape, members_from, members, bin_list}
use Rattle.rules.specs.Kinds.{unused}
use Rattle.rules.specs.Check.{Fits, Backed, Sound, Reserved, Linked, Listed, Passes, PassesAs}
use Rattle.rules.specs.Draft.{Draft, as_read}
use Rattle.rules.proofs.ShapeLaws.{Up, last_entry, up_entry, chain_from, shape_goes, shape_stops, shape_is, chain_by, read_none, read_on}
use Rattle.rules.proofs.SpotLaws.{ends}
use Rattle.rules.proofs.NamedLaws.{is_ordinary_lem}

-- the header of the chunk e is the same in two regions
pub record SameHeader (ws ws' : List ℕ) (e : Entry) : Type 0 where
  pub links : (word ws e.place forward ≡ word ws' e.place forward) × (word ws e.place backward ≡ word ws' e.place backward)
  pub words : e.flags ≡ unused → (k : ℕ) → k < 6 → word ws e.place k ≡ word ws' e.place k

-- a bin is read alike in two regions where its members have the same forward bin links
members_same : (ws ws' : List ℕ) (k c : ℕ)
    → ((d : ℕ) → Mem d (members_from k ws c) → word ws d next_in_bin ≡ word ws' d next_in_bin)
    → members_from k ws' c ≡ members_from k ws c
members_same ws ws' zero c f = refl
members_same ws ws' (suc k) c f =
    elim (ℕ_discrete c 0) [
      | yes z ↦ rw z refl
      | no n ↦
          let g = read_on ws k c n in
          let links : (d : ℕ) → Mem d (c ∷ members_from k ws (word ws c next_in_bin)) → word ws d next_in_bin ≡ word ws' d next_in_bin =
          λ d m. f d (rw g m) in
          read_on ws' k c n
          ∙ ap (λ (ds : List ℕ). c ∷ ds)
          (ap (members_from k ws') (sym (links c (Memᴰ.head refl)))
          ∙ members_same ws ws' k (word ws c next_in_bin) (λ d m. links d (Memᴰ.tail m)))
          ∙ sym g
    ]

-- backward links, and bin links, that are right in one region are right in another with the same link words
backed_same : (ws ws' : List ℕ) (q : ℕ) (es : List Entry)
    → ((e : Entry) → Mem e es → word ws e.place backward ≡ word ws' e.place backward)
    → Backed ws q es → Backed ws' q es
backed_same ws ws' q [] f b = tt
backed_same ws ws' q (e ∷ es) f (back, rest) =
    (sym (f e (Memᴰ.head refl)) ∙ back, backed_same ws ws' e.place es (λ d m. f d (Memᴰ.tail m)) rest)

linked_same : (ws ws' : List ℕ) (q : ℕ) (cs : List ℕ)
    → ((c : ℕ) → Mem c cs → (word ws c next_in_bin ≡ word ws' c next_in_bin) × (word ws c previous_in_bin ≡ word ws' c previous_in_bin))
    → Linked ws q cs → Linked ws' q cs
linked_same ws ws' q [] f b = tt
linked_same ws ws' q (c ∷ cs) f (previous, next, rest) =
    let (same_next, same_previous) = f c (Memᴰ.head refl) in
    (sym same_previous ∙ previous, sym same_next ∙ next, linked_same ws ws' c cs (λ d m. f d (Memᴰ.tail m)) rest)

-- a heap that passes, and a second region in which its chunks have the same headers
module _ {ws ws' : List ℕ} {h : Heap} (p : Passes ws h) (same : (e : Entry) → Mem e (shape ws h.bytes) → SameHeader ws ws' e) where
  abbrev es : List Entry
  es = shape ws h.bytes

  -- if the chunks ds have the same headers, the second region's chain from c on is ds
  abbrev Same : ℕ → List Entry → Type 0
  Same c ds = ((e : Entry) → Mem e ds → SameHeader ws ws' e) → chain_from ws' h.bytes c ≡ ds

  pub headers_shape : shape ws' h.bytes ≡ es
  headers_shape =
      let r = chain_by ws h.bytes Same last more 0 in
      shape_is ws' h.bytes ∙ r (rw (shape_is ws h.bytes) at same) ∙ sym (shape_is ws h.bytes)
    where
      last : (c : ℕ) → (Up ws h.bytes c → ⊥) → Same c (last_entry ws h.bytes c ∷ [])
      last c n m =
          let (forth, back) = (m _ (Memᴰ.head refl)).links in
          shape_stops ws' h.bytes c (λ u. n (rw forth u)) ∙ rw back refl

      more : (c : ℕ) (ds : List Entry) → Up ws h.bytes c → Same (word ws c forward) ds → Same c (up_entry ws h.bytes c ∷ ds)
      more c ds u r m =
          let (forth, back) = (m _ (Memᴰ.head refl)).links in
          let s = r (λ e k. m e (Memᴰ.tail k)) in
          shape_goes ws' h.bytes c (rw (← forth) u) ∙ rw (← forth, ← back, s) refl

  -- members of bins are ordinary chunks, so their six header words are the same
  member_word : (i : ℕ) → i < h.bins → (c : ℕ) → Mem c (bin_list ws h i) → (k : ℕ) → k < 6 → word ws c k ≡ word ws' c k
  member_word i l c m k s =
      let (e, on, (place, (o, _))) = (p.bins i l).chunks c m in
      rw (← place) ((same e on).words (is_ordinary_lem ws h p e on o).free.flags k s)

  -- past the bin count all heads are 0
  pub headers_list : (i : ℕ) → bin_list ws' h i ≡ bin_list ws h i
  unfolding members
  headers_list i =
      elim (dec_lt i h.bins) [
        | yes l ↦ members_same ws ws' h.bytes (get_or h.heads i 0) (λ d m. member_word i l d m next_in_bin (omega arith))
        | no n ↦ rw (p.table.heads_end i (omega arith)) (read_none ws' h.bytes ∙ sym (read_none ws h.bytes))
      ]

  reserved_same : (c : ℕ) (e : Entry) → Mem e es → Reserved ws c e → Reserved ws' c e
  reserved_same c e m r =
      let w : (k : ℕ) → k < 6 → word ws c k ≡ word ws' c k = rw r.here at ((same e m).words r.free) in
      let o = r.out in
      record {
        here = r.here;
        free = r.free;
        out =
            record {
              next = sym (w next_in_bin (omega arith)) ∙ o.next;
              previous = sym (w previous_in_bin (omega arith)) ∙ o.previous;
              bin = sym (w bin (omega arith)) ∙ o.bin;
            };
      }

  sound_same : (e : Entry) → Mem e es → Sound ws' h e
  sound_same e m =
      let s = p.chunks e m in
      record {
        flags = s.flags;
        room = s.room;
        sized = λ f. sym ((same e m).words f size (omega arith)) ∙ s.sized f;
      }

  listed_same : (i : ℕ) → i < h.bins → Listed ws' h es i (bin_list ws h i)
  listed_same i l =
      let s = p.bins i l in
      record {
        tail = s.tail;
        links =
            linked_same ws ws' 0 (bin_list ws h i)
            (λ c m. (member_word i l c m next_in_bin (omega arith), member_word i l c m previous_in_bin (omega arith)))
            s.links;
        once = s.once;
        chunks = s.chunks;
        words = λ c m. sym (member_word i l c m bin (omega arith)) ∙ s.words c m;
        order = s.order;
      }

  passes_as_same : Fits ws' h → PassesAs ws' h es
  passes_as_same fits =
      let c = p.chain in
      record {
        fits = fits;
        table = p.table;
        chain =
            record {
              reaches_end = c.reaches_end;
              ends_there = sym (same _ (ends ws h p).end).links.0 ∙ c.ends_there;
              eights = c.eights;
            };
        ends = p.ends;
        backward = backed_same ws ws' 0 es (λ e m. (same e m).links.1) p.backward;
        chunks = sound_same;
        top = let (e, m, (reserved, reaches)) = p.top in (e, m, (reserved_same _ e m reserved, reaches));
        donor = λ l. let (e, m, (reserved, below)) = p.donor l in (e, m, (reserved_same _ e m reserved, below));
        bins = λ i l. rw (headers_list i) (listed_same i l);
        binned = λ e m o. let (i, takes, (inside, member)) = p.binned e m o in (i, takes, (inside, rw (headers_list i) member));
        used = p.used;
        patrol = p.patrol;
      }

  pub headers_pass : Fits ws' h → Passes ws' h
  headers_pass fits = rw headers_shape (passes_as_same fits)

  pub headers_read : as_read ws' h ≡ as_read ws h
  unfolding as_read
  headers_read = ap₂ read headers_shape (fun_ext headers_list)
    where
      read : List Entry → (ℕ → List ℕ) → Draft
      read chain lists = record { heap = h; chain = chain; lists = lists; stores = [] }
