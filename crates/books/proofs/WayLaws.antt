-- The invariant of the books during a call (`OnWay`): the bins hold the lists that the rules name. It holds on a heap that passes, and
-- a chunk that leaves a bin, one that is put into a bin, and stores elsewhere keep it. Assumes nothing.
use mathlib.Core.Path.{◌≡◌, refl, sym, ◌∙◌}
use mathlib.Core.Logic.{◌≢◌, ◌⊎◌, inl, inr}
use mathlib.Core.Bool.{cond}
use mathlib.Core.List.Memᴰ
use mathlib.Core.List.{List, [], ◌∷◌, ◌++◌}
use Prim.Native.Nat.{ℕ, ◌+◌, ◌*◌, ◌/◌, ◌%◌, ◌≤◌, ◌<◌}
use native.Mathlib.Decide.{ℕ_discrete, dec_lt}
use native.Mathlib.Omega.{arith}
use lib.Dec.{eqb}
use lib.ListN.{length, length-set}
use borrow.Author.Tests.{eq-eqb, ne_eqb}
use Rattle.lists.specs.Lists.{Mem, up_to, past}
use Rattle.lists.proofs.MembersLaws.{member_with, member_without, distinct_parts}
use Rattle.lists.proofs.SplitLaws.{before_from, after_from, split_at_member}
use Rattle.record.specs.declared.heap.Heap.{Heap}
use Rattle.region.specs.Words.{word, Store, put, written, next_in_bin, previous_in_bin, bin}
use Rattle.region.proofs.WordsLaws.{Off, off, word_same, length_written, written_append}
use Rattle.rules.specs.Shape.{bin_list}
use Rattle.rules.specs.Check.{Passes}
use Rattle.rules.specs.Draft.{meet}
use Rattle.rules.proofs.ShapeLaws.{Leads}
use Rattle.books.specs.Books.{Books, books}
use Rattle.books.proofs.SegmentLaws.{Node, PassBy, NoLinkOf, NoLink, meet_off, linked_keeps}
use Rattle.books.proofs.BooksLaws.{Holds, Far, left_books, put_at, put_stores, leave_holds, leave_others, put_off, put_holds, put_others}
use Rattle.books.proofs.HeapBooks.{heap_holds, members_far, lists_apart, linked_leads}

-- the books hold the lists of n bins; no chunk is in two of them; members lie at least 24 bytes apart; each bin word is right
pub record OnWay (b : Books) (lists : ℕ → List ℕ) (n : ℕ) : Type 0 where
  pub few : n ≤ 32
  pub heads : n ≤ length b.heads
  pub tails : n ≤ length b.tails
  pub holds : (j : ℕ) → j < n → Holds b j (lists j)
  pub apart : (i j : ℕ) → i < n → j < n → i ≢ j → (c : ℕ) → Mem c (lists i) → Mem c (lists j) → ⊥
  pub far : (i j c d : ℕ) → i < n → j < n → Mem c (lists i) → Mem d (lists j) → c ≢ d → Far c d
  pub binned : (j c : ℕ) → j < n → Mem c (lists j) → word b.words c bin ≡ 8 * j

-- the lists with that of bin i replaced
abbrev pub relisted : ℕ → List ℕ → (ℕ → List ℕ) → ℕ → List ℕ
relisted i cs lists j = cond (eqb j i) cs (lists j)

-- the lists without the chunk at c, which was in bin i
abbrev pub unlisted : ℕ → ℕ → (ℕ → List ℕ) → ℕ → List ℕ
unlisted i c lists = relisted i (up_to (eqb c) (lists i) ++ past (eqb c) (lists i)) lists

-- d is in the list of bin j after the replacement
abbrev pub InRelisted : ℕ → List ℕ → (ℕ → List ℕ) → ℕ → ℕ → Type 0
InRelisted i cs lists j d = ((j ≡ i) × Mem d cs) ⊎ ((j ≢ i) × Mem d (lists j))

module _ (i : ℕ) (cs : List ℕ) (lists : ℕ → List ℕ) where
  pub relisted_same : relisted i cs lists i ≡ cs
  relisted_same = rw (eq-eqb i i refl)

  pub relisted_other : (j : ℕ) → j ≢ i → relisted i cs lists j ≡ lists j
  relisted_other j ne = rw (ne_eqb j i ne)

  pub member_relisted : (j : ℕ) {d : ℕ} → Mem d (relisted i cs lists j) → InRelisted i cs lists j d
  member_relisted j {d} m = go (ℕ_discrete j i)
    where
      go : Dec (j ≡ i) → InRelisted i cs lists j d
      go (yes q) = inl (q, rw (eq-eqb j i q) at m)
      go (no ne) = inr (ne, rw (ne_eqb j i ne) at m)

-- leaving a bin writes only links of members
pub leave_off : (c : ℕ) (cs : List ℕ) (x : ℕ) → NoLink x cs → Off x (meet (up_to (eqb c) cs) (past (eqb c) cs))
leave_off c cs x f =
    meet_off x (up_to (eqb c) cs) (past (eqb c) cs) (λ d m. f d (before_from (eqb c) cs m)) (λ d m. f d (after_from (eqb c) cs m))

-- a word of the chunk at d that is none of its bin links is no link of a member, if each member is d or far from it
pub no_link : (d k : ℕ) (cs : List ℕ) → k < 6 → k ≢ next_in_bin → k ≢ previous_in_bin → d % 8 ≡ 0
    → ((c : ℕ) → Mem c cs → (c % 8 ≡ 0) × (d ≢ c → Far d c)) → NoLink (d / 4 + k) cs
no_link d k cs s n3 n4 z f = λ c m. let (eight, far) = f c m in at c eight far (ℕ_discrete d c)
  where
    at : (c : ℕ) → c % 8 ≡ 0 → (d ≢ c → Far d c) → Dec (d ≡ c) → NoLinkOf (d / 4 + k) c
    at c e g (yes q) = omega arith
    at c e g (no ne) = let r = g ne in omega arith

-- no word of a chunk far from all members is a link of a member
pub far_no_link : (d k : ℕ) (cs : List ℕ) → k < 6 → d % 8 ≡ 0 → ((c : ℕ) → Mem c cs → (c % 8 ≡ 0) × Far d c) → NoLink (d / 4 + k) cs
far_no_link d k cs s z f = λ c m. let (eight, far) = f c m in at c eight far
  where
    at : (c : ℕ) → c % 8 ≡ 0 → Far d c → NoLinkOf (d / 4 + k) c
    at c e g = omega arith

-- nor is one of the first three words of the chunk at d, if the members below it end below it
pub header_no_link : (d k : ℕ) (cs : List ℕ) → k < 3 → d % 8 ≡ 0
    → ((c : ℕ) → Mem c cs → (c % 8 ≡ 0) × (c < d → c + 24 ≤ d)) → NoLink (d / 4 + k) cs
header_no_link d k cs s z f = λ c m. let (eight, below) = f c m in at c eight below (dec_lt c d)
  where
    at : (c : ℕ) → c % 8 ≡ 0 → (c < d → c + 24 ≤ d) → Dec (c < d) → NoLinkOf (d / 4 + k) c
    at c e g (yes q) = let r = g q in omega arith
    at c e g (no ne) = omega arith

-- the books of a heap that passes
pub way_begins : (ws : List ℕ) (h : Heap) → Passes ws h → OnWay (books ws h.heads h.tails) (bin_list ws h) h.bins
way_begins ws h p =
    record {
      few = omega arith;
      heads = omega arith;
      tails = omega arith;
      holds = heap_holds ws h p;
      apart = lists_apart ws h p;
      far = members_far ws h p;
      binned = λ j c l m. (p.bins j l).words c m;
    }

-- the links lead along the lists, so the rules read these lists
pub way_leads : {b : Books} {lists : ℕ → List ℕ} {n : ℕ} → OnWay b lists n → (j : ℕ) → j < n → Leads b.words (lists j)
way_leads {b} {lists} w j l = let h = w.holds j l in linked_leads b.words 0 (lists j) h.links (λ c m. (h.nodes c m).some)

-- books that hold cs in bin i, and in every other bin its list, hold the lists with that of bin i replaced
replaced_holds : {after : Books} {i : ℕ} {cs : List ℕ} (lists : ℕ → List ℕ) (n : ℕ) → Holds after i cs
    → ((j : ℕ) → j < n → j ≢ i → Holds after j (lists j)) → (j : ℕ) → j < n → Holds after j (relisted i cs lists j)
replaced_holds {after} {i} {cs} lists n own others j lj = go (ℕ_discrete j i)
  where
    go : Dec (j ≡ i) → Holds after j (relisted i cs lists j)
    go (yes q) = rw (eq-eqb j i q, q) own
    go (no ne) = rw (ne_eqb j i ne) (others j lj ne)

module _ (b : Books) (lists : ℕ → List ℕ) (n : ℕ) (w : OnWay b lists n) where
  -- stores to no link and no bin word of a member keep the invariant
  pub way_keeps : (ss : List Store) → ((j c : ℕ) → j < n → Mem c (lists j) → PassBy ss c)
      → OnWay (books (written b.words ss) b.heads b.tails) lists n
  way_keeps ss f =
      record {
        few = w.few;
        heads = w.heads;
        tails = w.tails;
        holds = λ j l. kept j l (w.holds j l);
        apart = w.apart;
        far = w.far;
        binned = λ j c l m. off ss b.words c bin (f j c l m).2 ∙ w.binned j c l m;
      }
    where
      kept : (j : ℕ) → j < n → Holds b j (lists j) → Holds (books (written b.words ss) b.heads b.tails) j (lists j)
      kept j l h =
          record {
            head = h.head;
            tail = h.tail;
            links = linked_keeps ss b.words (lists j) (λ d m. let (next, previous, bin) = f j d l m in (next, previous)) h.links;
            nodes = rw length_written h.nodes;
            once = h.once;
          }

  -- a word of a member other than its links is no member's link
  pub way_no_link : (i j d k : ℕ) → i < n → j < n → Mem d (lists j) → k < 6 → k ≢ next_in_bin → k ≢ previous_in_bin → NoLink (d / 4 + k) (lists i)
  way_no_link i j d k li lj m s n3 n4 =
      no_link d k (lists i) s n3 n4 ((w.holds j lj).nodes d m).eight
      (λ c e. (((w.holds i li).nodes c e).eight, λ ne. w.far j i d c lj li m e ne))

  -- the chunk at c, between xs and ys, leaves bin i
  module _ (i c : ℕ) (l : i < n) (xs ys : List ℕ) (s : lists i ≡ xs ++ c ∷ ys) where
    before : Holds b i (xs ++ c ∷ ys)
    before = rw s at (w.holds i l)

    here : Mem c (lists i)
    here = rw s (Memᴰ.append_right xs (Memᴰ.head refl))

    -- what is in a list afterwards was in it
    stays : (j : ℕ) {d : ℕ} → Mem d (relisted i (xs ++ ys) lists j) → Mem d (lists j)
    stays j {d} k = go (member_relisted i (xs ++ ys) lists j k)
      where
        go : InRelisted i (xs ++ ys) lists j d → Mem d (lists j)
        go (inl (own, k)) = rw (own, s) (member_with xs c ys k)
        go (inr (other, k)) = k

    -- every other chunk is still in its list
    remains : (j : ℕ) {d : ℕ} → d ≢ c → Mem d (lists j) → Mem d (relisted i (xs ++ ys) lists j)
    remains j {d} ne k = go (ℕ_discrete j i)
      where
        other : (d ≡ c) ⊎ Mem d (xs ++ ys) → Mem d (xs ++ ys)
        other (inl z) = absurd (ne z)
        other (inr z) = z

        go : Dec (j ≡ i) → Mem d (relisted i (xs ++ ys) lists j)
        go (yes z) = rw (eq-eqb j i z) (other (member_without xs c ys (rw (z, s) at k)))
        go (no m) = rw (ne_eqb j i m) k

    leave_each : (j : ℕ) → j < n → Holds (left_books b i xs ys) j (relisted i (xs ++ ys) lists j)
    leave_each =
        replaced_holds lists n (leave_holds b i xs c ys before (omega arith) (omega arith))
        (λ j lj ne. leave_others b i xs c ys j (lists j) (w.holds j lj) ne before (λ d m k. w.apart j i lj l ne d m (rw s k)))

    left_way : OnWay (left_books b i xs ys) (relisted i (xs ++ ys) lists) n
    left_way =
        record {
          few = w.few;
          heads = rw length-set w.heads;
          tails = rw length-set w.tails;
          holds = leave_each;
          apart = λ i₁ j l₁ lj ne d m k. w.apart i₁ j l₁ lj ne d (stays i₁ m) (stays j k);
          far = λ i₁ j d e l₁ lj m k ne. w.far i₁ j d e l₁ lj (stays i₁ m) (stays j k) ne;
          binned =
              λ j d lj m.
              let f : NoLink (d / 4 + bin) (xs ++ c ∷ ys) = rw s at (way_no_link i j d bin l lj (stays j m) (omega arith) (omega arith) (omega arith)) in
              off (meet xs ys) b.words d bin
              (meet_off _ xs ys (λ x k. f x (Memᴰ.append_left (c ∷ ys) k)) (λ y k. f y (Memᴰ.append_right xs (Memᴰ.tail k))))
              ∙ w.binned j d lj (stays j m);
        }

    -- it is far from all members that are left, so it can be put again
    left_far : (j d : ℕ) → j < n → Mem d (relisted i (xs ++ ys) lists j) → Far c d
    left_far j d lj m = w.far i j c d l lj here (stays j m) (λ e. gone e (member_relisted i (xs ++ ys) lists j m))
      where
        twice : c ≡ d → Mem d xs ⊎ Mem d ys → ⊥
        twice e (inl k) = (distinct_parts xs (c ∷ ys) before.once).none d k (Memᴰ.head (sym e))
        twice e (inr k) = (distinct_parts xs (c ∷ ys) before.once).right.0 (rw (← e) at k)

        gone : c ≡ d → InRelisted i (xs ++ ys) lists j d → ⊥
        gone e (inl (own, k)) = twice e (Memᴰ.append_cases xs k)
        gone e (inr (other, k)) = w.apart j i lj l other d k (rw e at here)

  -- the chunk at c, a member of bin i, leaves it
  module _ (i c : ℕ) (l : i < n) (m : Mem c (lists i)) where
    pub way_leaves : OnWay (left_books b i (up_to (eqb c) (lists i)) (past (eqb c) (lists i))) (unlisted i c lists) n
    way_leaves = left_way i c l (up_to (eqb c) (lists i)) (past (eqb c) (lists i)) (split_at_member m)

    pub way_left_far : (j d : ℕ) → j < n → Mem d (unlisted i c lists j) → Far c d
    way_left_far = left_far i c l (up_to (eqb c) (lists i)) (past (eqb c) (lists i)) (split_at_member m)

    pub way_stays : (j : ℕ) {d : ℕ} → Mem d (unlisted i c lists j) → Mem d (lists j)
    way_stays = stays i c l (up_to (eqb c) (lists i)) (past (eqb c) (lists i)) (split_at_member m)

    pub way_remains : (j : ℕ) {d : ℕ} → d ≢ c → Mem d (lists j) → Mem d (unlisted i c lists j)
    way_remains = remains i c l (up_to (eqb c) (lists i)) (past (eqb c) (lists i)) (split_at_member m)

-- the chunk at c, far from all members, can be put into bin i between xs and ys
pub record Placing (b : Books) (lists : ℕ → List ℕ) (n i : ℕ) (xs : List ℕ) (c : ℕ) (ys : List ℕ) : Type 0 where
  pub way : OnWay b lists n
  pub inside : i < n
  pub node : Node (length b.words) c
  pub far : (j d : ℕ) → j < n → Mem d (lists j) → Far c d
  pub split : lists i ≡ xs ++ ys

module _ {b : Books} {lists : ℕ → List ℕ} {n i : ℕ} {xs : List ℕ} {c : ℕ} {ys : List ℕ} (p : Placing b lists n i xs c ys) where
  abbrev w : OnWay b lists n
  w = p.way

  abbrev l : i < n
  l = p.inside

  held : Holds b i (xs ++ ys)
  held = rw p.split at (w.holds i l)

  -- d was a member of bin j, or it is the chunk at c and j is bin i
  abbrev From : ℕ → ℕ → Type 0
  From j d = Mem d (lists j) ⊎ ((j ≡ i) × (d ≡ c))

  pub is_from : (j : ℕ) {d : ℕ} → Mem d (relisted i (xs ++ c ∷ ys) lists j) → From j d
  is_from j {d} k = go (member_relisted i (xs ++ c ∷ ys) lists j k)
    where
      own : (j ≡ i) → (d ≡ c) ⊎ Mem d (xs ++ ys) → From j d
      own q (inl e) = inr (q, e)
      own q (inr m) = inl (rw (q, p.split) m)

      go : InRelisted i (xs ++ c ∷ ys) lists j d → From j d
      go (inl (q, m)) = own q (member_without xs c ys m)
      go (inr (other, m)) = inl m

  put_each : (j : ℕ) → j < n → Holds (put_at b i xs c ys) j (relisted i (xs ++ c ∷ ys) lists j)
  put_each =
      replaced_holds lists n (put_holds b i xs c ys held p.node (λ d m. p.far i d l (rw p.split m)) (omega arith) (omega arith))
      (λ j lj ne.
      put_others b i xs c ys j (lists j) (w.holds j lj) ne held p.node (λ d m. p.far j d lj m)
      (λ d m k. w.apart j i lj l ne d m (rw p.split k)))

  put_apart : (i₁ j d : ℕ) → i₁ < n → j < n → i₁ ≢ j → From i₁ d → From j d → ⊥
  put_apart i₁ j d l₁ lj ne (inl m) (inl k) = w.apart i₁ j l₁ lj ne d m k
  put_apart i₁ j d l₁ lj ne (inl m) (inr q) = let f = p.far i₁ d l₁ m in omega arith
  put_apart i₁ j d l₁ lj ne (inr q) (inl k) = let f = p.far j d lj k in omega arith
  put_apart i₁ j d l₁ lj ne (inr q) (inr r) = omega arith

  put_far : (i₁ j d e : ℕ) → i₁ < n → j < n → d ≢ e → From i₁ d → From j e → Far d e
  put_far i₁ j d e l₁ lj ne (inl m) (inl k) = w.far i₁ j d e l₁ lj m k ne
  put_far i₁ j d e l₁ lj ne (inl m) (inr q) = let f = p.far i₁ d l₁ m in omega arith
  put_far i₁ j d e l₁ lj ne (inr q) (inl k) = let f = p.far j e lj k in omega arith
  put_far i₁ j d e l₁ lj ne (inr q) (inr r) = omega arith

  put_binned : (j d : ℕ) → j < n → From j d → word (put_at b i xs c ys).words d bin ≡ 8 * j
  put_binned j d lj (inl m) =
      let g = (w.holds j lj).nodes d m in
      let f = p.far j d lj m in
      off (put_stores i xs c ys) b.words d bin
      (put_off b i xs c ys (d / 4 + bin) (rw p.split at (way_no_link b lists n w i j d bin l lj m (omega arith) (omega arith) (omega arith))) (omega arith))
      ∙ w.binned j d lj m
  put_binned j d lj (inr (own, new)) =
      let ss : List Store = meet xs (c ∷ []) ++ meet (c ∷ []) ys in
      let k = length_written ss b.words in
      rw (own, new, written_append ss (put c bin (8 * i) ∷ []) b.words) (word_same _ c bin (8 * i) (omega arith))

  pub way_puts : OnWay (put_at b i xs c ys) (relisted i (xs ++ c ∷ ys) lists) n
  way_puts =
      record {
        few = w.few;
        heads = rw length-set w.heads;
        tails = rw length-set w.tails;
        holds = put_each;
        apart = λ i₁ j l₁ lj ne d m k. put_apart i₁ j d l₁ lj ne (is_from i₁ m) (is_from j k);
        far = λ i₁ j d e l₁ lj m k ne. put_far i₁ j d e l₁ lj ne (is_from i₁ m) (is_from j k);
        binned = λ j d lj m. put_binned j d lj (is_from j m);
      }
