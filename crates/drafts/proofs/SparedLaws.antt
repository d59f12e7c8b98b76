-- Which words a call writes (`Spared`): if P holds of the bin links of all members of bins, and of the header words of the chunks that the call
-- links in and settles, it holds of every word that the call writes. It is used with P: a word of the heap outside all live blocks. Assumes nothing.
use mathlib.Core.Path.{◌≡◌, refl}
use mathlib.Core.Logic.{◌≢◌, ◌⊎◌, inl, inr}
use mathlib.Core.Bool.{Bool, true, false}
use mathlib.Core.List.Memᴰ
use mathlib.Core.List.{List, [], ◌∷◌, ◌++◌}
use Prim.Native.Nat.{ℕ, ◌+◌, ◌*◌, ◌/◌, ◌%◌, ◌≤◌, ◌<◌}
use native.Mathlib.Decide.{ℕ_discrete, dec_lt}
use native.Mathlib.Omega.{arith}
use lib.Dec.{eqb}
use borrow.Author.Tests.{eq-eqb, eqb-true}
use Rattle.lists.specs.Lists.{Mem, head_or, last_or, up_to, past}
use Rattle.lists.proofs.ListsLaws.{each_cons}
use Rattle.lists.proofs.MembersLaws.{last_member}
use Rattle.lists.proofs.SplitLaws.{before_from, after_from}
use Rattle.record.specs.declared.heap.Heap.{Heap}
use Rattle.record.specs.declared.kinds.Kind.{Kind}
use Rattle.record.specs.declared.kinds.Kind.TheVariants.{Start, InUse, Ordinary, Donor, Top, End}
use Rattle.std.specs.Prelude.{Option, Some, None}
use Rattle.record.specs.Heap.{table_of}
use Rattle.record.specs.Table.{bin_of}
use Rattle.region.specs.Words.{Store, forward, backward, size, next_in_bin, previous_in_bin, bin}
use Rattle.region.proofs.PrefixLaws.{Below}
use Rattle.region.proofs.WordsLaws.{Fall, fall_both, fall_so, Off}
use Rattle.rules.specs.Shape.{Entry, shape, bin_list, chunk_end}
use Rattle.rules.specs.Kinds.{unused, block_of, block_end, outside}
use Rattle.rules.specs.Check.{Passes}
use Rattle.rules.specs.Draft.{Draft, as_read, also_writes, now_uses, patrols_at, followed_by, preceded_by, meet, relist, leave, on_bin, leave_bin, put_between, put_into, put_in_bin, size_stores, headers, relink, settle}
use Rattle.rules.proofs.KindsLaws.{Used, block_starts, block_ends}
use Rattle.books.proofs.BooksLaws.{put_stores}
use Rattle.books.proofs.HeapBooks.{member_entry, list_none}
use Rattle.books.proofs.WayLaws.{InRelisted, member_relisted}
use Rattle.drafts.proofs.PutLaws.{part_before, part_after, parts_whole, put_between_lem}
use Rattle.drafts.proofs.LayoutLaws.{Beside, Layout, laid_once, laid_beside}

-- the word at index i is in the heap bytes, and in no block in use of the chain `all`
pub record Outside (bytes : ℕ) (all : List Entry) (i : ℕ) : Type 0 where
  pub heap : 4 * i + 4 ≤ bytes
  pub blocks : (e : Entry) → Mem e all → Used e → (4 * i < block_of e) ⊎ (block_end e ≤ 4 * i)

module _ {bytes : ℕ} {all : List Entry} (y : Layout bytes all) {e : Entry} (m : Mem e all) where
  chunk_word : (i : ℕ) → e.place ≤ 4 * i → 4 * i + 4 ≤ chunk_end e → (Used e → 4 * i < block_of e) → Outside bytes all i
  chunk_word i lo hi own =
      let l = (y.chunks e m).ends in
      record { heap = omega arith; blocks = λ x k f. go x k f (ℕ_discrete x.place e.place) }
    where
      beside : (x : Entry) → Beside x e → (4 * i < block_of x) ⊎ (block_end x ≤ 4 * i)
      beside x (inl b) = inr (let r = block_ends x in omega arith)
      beside x (inr b) = inl (let r = block_starts x in omega arith)

      go : (x : Entry) → Mem x all → Used x → Dec (x.place ≡ e.place) → (4 * i < block_of x) ⊎ (block_end x ≤ 4 * i)
      go x k f (yes q) =
          let s = laid_once y k m q in
          inl (rw s (own (rw s at f)))
      go x k f (no n) = beside x (laid_beside y k m n)

  -- the links of a chunk are such words
  pub link_word : (k : ℕ) → k < 2 → Outside bytes all (e.place / 4 + k)
  link_word k l =
      let z = (y.chunks e m).eight in
      let s = (y.chunks e m).some in
      chunk_word (e.place / 4 + k) (omega arith) (omega arith) (λ q. let b = block_starts e in omega arith)

  -- every word of a free chunk is such a word
  pub free_word : e.flags ≡ 0 → (c k : ℕ) → c % 8 ≡ 0 → e.place ≤ c → c + 4 * k + 4 ≤ chunk_end e → Outside bytes all (c / 4 + k)
  free_word f c k z lo hi = chunk_word (c / 4 + k) (omega arith) (omega arith) (λ u. absurd (omega arith))

module _ (P : ℕ → Type 0) where
  -- P holds of the two bin links of the chunk at c; of its bin links and bin word; of the bin links of all members of a list
  abbrev LinkWords : ℕ → Type 0
  LinkWords c = P (c / 4 + next_in_bin) × P (c / 4 + previous_in_bin)

  abbrev BinWords : ℕ → Type 0
  BinWords c = P (c / 4 + next_in_bin) × P (c / 4 + previous_in_bin) × P (c / 4 + bin)

  abbrev pub MemberLinks : List ℕ → Type 0
  MemberLinks cs = (c : ℕ) → Mem c cs → LinkWords c

  -- P holds of the words of e's header
  abbrev HeaderWords : Entry → Type 0
  HeaderWords e = P (e.place / 4 + forward) × P (e.place / 4 + backward) × (e.flags ≡ 0 → P (e.place / 4 + size))

  links_both : (xs ys : List ℕ) → MemberLinks xs → MemberLinks ys → MemberLinks (xs ++ ys)
  links_both xs ys f g c m = elim (Memᴰ.append_cases xs m) [ inl k ↦ f c k | inr k ↦ g c k ]

  meet_falls : (xs ys : List ℕ) → MemberLinks xs → MemberLinks ys → Fall P (meet xs ys)
  meet_falls xs ys f g =
      fall_both P (followed_by xs (head_or 0 ys)) (preceded_by ys (last_or 0 xs)) (followed xs (head_or 0 ys) f) (preceded ys (last_or 0 xs) g)
    where
      followed : (xs : List ℕ) (v : ℕ) → MemberLinks xs → Fall P (followed_by xs v)
      followed [] v f = tt
      followed (x ∷ xs) v f = ((f (last_or x xs) (last_member x xs)).0, tt)

      preceded : (ys : List ℕ) (v : ℕ) → MemberLinks ys → Fall P (preceded_by ys v)
      preceded [] v g = tt
      preceded (y ∷ ys) v g = ((g y (Memᴰ.head refl)).1, tt)

  -- P holds of all words that the draft's stores write, and of the bin links of all members of its lists
  pub record Spared (d : Draft) : Type 0 where
    pub stores : Fall P d.stores
    pub members : (i : ℕ) → MemberLinks (d.lists i)

  pub writes_spared : (ss : List Store) (d : Draft) → Spared d → Fall P ss → Spared (also_writes ss d)
  writes_spared ss d s f = record { stores = fall_both P d.stores ss s.stores f; members = s.members }

  pub uses_spared : (before after : ℕ) (d : Draft) → Spared d → Spared (now_uses before after d)
  uses_spared before after d s = record { stores = s.stores; members = s.members }

  pub patrols_spared : (c : ℕ) (d : Draft) → Spared d → Spared (patrols_at c d)
  patrols_spared c d s = record { stores = s.stores; members = s.members }

  relist_spared : (i : ℕ) (cs : List ℕ) (ss : List Store) (d : Draft) → Spared d → MemberLinks cs → Fall P ss → Spared (relist i cs ss d)
  relist_spared i cs ss d s l f =
      record {
        stores = fall_both P d.stores ss s.stores f;
        members = λ j c m. go j c (member_relisted i cs d.lists j m);
      }
    where
      go : (j c : ℕ) → InRelisted i cs d.lists j c → LinkWords c
      go j c (inl k) = l c k.1
      go j c (inr k) = s.members j c k.1

  -- for a step on the bin of a size it is enough to know it for every bin
  on_bin_spared : (step : ℕ → Draft → Draft) (d : Draft) → Spared d → ((i : ℕ) → Spared (step i d)) → (b : Option ℕ) → Spared (on_bin step b d)
  on_bin_spared step d s f (Some i) = f i
  on_bin_spared step d s f None = s

  -- a chunk leaves its bin
  pub leave_spared : (e : Entry) (d : Draft) → Spared d → Spared (leave_bin e d)
  unfolding leave_bin leave
  leave_spared e d s = on_bin_spared (λ i. leave i e.place) d s left (bin_of (table_of d.heap) e.size)
    where
      left : (i : ℕ) → Spared (leave i e.place d)
      left i =
          let xs : List ℕ = up_to (eqb e.place) (d.lists i) in
          let ys : List ℕ = past (eqb e.place) (d.lists i) in
          let f : MemberLinks xs = λ c m. s.members i c (before_from (eqb e.place) (d.lists i) m) in
          let g : MemberLinks ys = λ c m. s.members i c (after_from (eqb e.place) (d.lists i) m) in
          relist_spared i (xs ++ ys) (meet xs ys) d s (links_both xs ys f g) (meet_falls xs ys f g)

  -- so it is if P holds of the bin links of those that are left
  pub left_spared : (e : Entry) (d : Draft) → Fall P d.stores → ((i : ℕ) → MemberLinks ((leave_bin e d).lists i)) → Spared (leave_bin e d)
  unfolding leave_bin leave
  left_spared e d f members = record { stores = go (bin_of (table_of d.heap) e.size) members; members = members }
    where
      go : (b : Option ℕ) → ((i : ℕ) → MemberLinks ((on_bin (λ i. leave i e.place) b d).lists i)) → Fall P (on_bin (λ i. leave i e.place) b d).stores
      go (Some i) g =
          let xs : List ℕ = up_to (eqb e.place) (d.lists i) in
          let ys : List ℕ = past (eqb e.place) (d.lists i) in
          let all : MemberLinks (xs ++ ys) = rw (eq-eqb i i refl) at (g i) in
          fall_both P d.stores (meet xs ys) f
          (meet_falls xs ys (λ c m. all c (Memᴰ.append_left ys m)) (λ c m. all c (Memᴰ.append_right xs m)))
      go None g = f

  -- chunks are linked in: P holds of their header words and of the backward link of the chunk above them
  headers_fall : (p : ℕ) (es : List Entry) → ((e : Entry) → Mem e es → HeaderWords e) → Fall P (headers p es)
  headers_fall p [] f = tt
  headers_fall p (e ∷ es) f =
      let o = f e (Memᴰ.head refl) in (
        o.0,
        (
          o.1,
          fall_both P (size_stores e (eqb e.flags unused)) (headers e.place es) (own (eqb e.flags unused) refl o.2)
              (headers_fall e.place es (λ d m. f d (Memᴰ.tail m))),
        ),
      )
    where
      own : (t : Bool) → eqb e.flags unused ≡ t → (e.flags ≡ 0 → P (e.place / 4 + size)) → Fall P (size_stores e t)
      own true q g = (g (eqb-true e.flags unused q), tt)
      own false q g = tt

  pub relink_spared : (low es high : List Entry) (d : Draft) → Spared d → ((e : Entry) → Mem e es → HeaderWords e)
      → P ((head_or outside high).place / 4 + backward) → Spared (relink low es high d)
  unfolding relink
  relink_spared low es high d s f a =
      let ss : List Store = headers (last_or outside low).place es in
      record {
        stores = fall_both P (d.stores ++ ss) _ (fall_both P d.stores ss s.stores (headers_fall (last_or outside low).place es f)) (a, tt);
        members = s.members;
      }

  -- a chunk settles: P holds of its bin links and its bin word
  module _ (e : Entry) (d : Draft) (s : Spared d) (own : BinWords e.place) where
    put_spared : (i : ℕ) (xs ys : List ℕ) → MemberLinks xs → MemberLinks ys → Spared (put_between i xs e.place ys d)
    unfolding put_between
    put_spared i xs ys f g =
        let c : ℕ = e.place in
        let one : MemberLinks (c ∷ []) = each_cons (own.0, own.1) (λ x m. absurd (Memᴰ.not-nil m)) in
        relist_spared i (xs ++ c ∷ ys) (put_stores i xs c ys) d s (links_both xs (c ∷ ys) f (each_cons (own.0, own.1) g))
        (fall_both P (meet xs (c ∷ []) ++ meet (c ∷ []) ys) _
        (fall_both P (meet xs (c ∷ [])) (meet (c ∷ []) ys) (meet_falls xs (c ∷ []) f one) (meet_falls (c ∷ []) ys one g)) (own.2, tt))

    in_bin_spared : Spared (put_in_bin e d)
    unfolding put_in_bin
    in_bin_spared = on_bin_spared (λ i. put_into i e) d s into (bin_of (table_of d.heap) e.size)
      where
        into : (i : ℕ) → Spared (put_into i e d)
        into i =
            let xs : List ℕ = part_before i e d in
            let ys : List ℕ = part_after i e d in
            let all : MemberLinks (xs ++ ys) = rw (parts_whole i e d) at (s.members i) in
            rw (put_between_lem i e d)
            (put_spared i xs ys (λ c m. all c (Memᴰ.append_left ys m)) (λ c m. all c (Memᴰ.append_right xs m)))

    pub settle_spared : (k : Kind) → Spared (settle k e d)
    unfolding settle
    settle_spared Ordinary = in_bin_spared
    settle_spared Donor = record { stores = fall_both P d.stores _ s.stores (own.0, (own.1, (own.2, tt))); members = s.members }
    settle_spared Top = record { stores = fall_both P d.stores _ s.stores (own.0, (own.1, (own.2, tt))); members = s.members }
    settle_spared Start = s
    settle_spared InUse = s
    settle_spared End = s

-- a heap that passes, with no stores yet, where P holds of the bin links of free chunks
pub read_spared : (P : ℕ → Type 0) (ws : List ℕ) (h : Heap) → Passes ws h
    → ((e : Entry) → Mem e (shape ws h.bytes) → e.flags ≡ 0 → LinkWords P e.place) → Spared P (as_read ws h)
unfolding as_read
read_spared P ws h p f = record { stores = tt; members = λ i c m. go i c m (dec_lt i h.bins) }
  where
    go : (i c : ℕ) → Mem c (bin_list ws h i) → Dec (i < h.bins) → LinkWords P c
    go i c m (yes l) = let (e, r) = member_entry ws h p i c l m in rw (← r.place) (f e r.member r.is.free.flags)
    go i c m (no n) = absurd (Memᴰ.not-nil (rw (list_none ws h p i (omega arith)) at m))

-- a draft that writes only such words: no word of a block in use is written, and none past the heap bytes
module _ {bytes : ℕ} {all : List Entry} {d : Draft} (s : Spared (Outside bytes all) d) where
  pub blocks_spared : (e : Entry) → Mem e all → Used e → (i : ℕ) → block_of e ≤ 4 * i → 4 * i < block_end e → Off i d.stores
  blocks_spared e m f i lo hi = fall_so (Outside bytes all) (λ w. i ≢ w) (λ w o q. go ((rw (← q) at o).blocks e m f)) d.stores s.stores
    where
      go : (4 * i < block_of e) ⊎ (block_end e ≤ 4 * i) → ⊥
      go (inl l) = omega arith
      go (inr l) = omega arith

  pub heap_stores : Below (bytes / 4) d.stores
  heap_stores = fall_so (Outside bytes all) (λ w. w < bytes / 4) (λ w o. omega arith) d.stores s.stores
