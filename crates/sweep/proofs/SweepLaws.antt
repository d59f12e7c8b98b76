-- The walk of the bins' lists, step by step: what is left and what is done always come to the whole. Assumes nothing.
use Rattle.std.proofs.Common.{◌≡◌, ℕ, zero, suc, ◌+◌, ◌-◌, ◌*◌, ◌/◌, ◌%◌, ◌^◌, ◌<◌, ◌≤◌, Bool, true, false, cond, ◌&&◌, ◌||◌, ltb, leb, List, [], ◌∷◌, Some, None, length, get_or, sym, refl, ap, ◌∙◌, add-zero, zero-add, add-one, arith, lt-ltb, eq-eqb, ne_eqb, le-leb}
use mathlib.Core.Bool.{and-true, and-false}
use native.Mathlib.Decide.{ℕ_discrete, dec_lt, dec_le}
use lib.Bits.{bit_or, or_add_and, and_le_l, and_le_r}
use borrow.Author.Tests.{lt-leb}
use Rattle.lists.specs.Lists.{last_or, total, numbers_from}
use Rattle.lists.proofs.ListsLaws.{same_test, number_is, at_most, less, both}
use Rattle.marks.specs.Marks.{number_m, marked}
use Rattle.chain.specs.Length.{Lent}
use Rattle.record.specs.Table.{ValidTable, size_at, takes_bin}
use Rattle.region.specs.Words.{word, size, next_in_bin, previous_in_bin, bin}
use Rattle.rules.specs.Shape.{members_from}
use Rattle.rules.proofs.ShapeLaws.{read_none, read_spent, read_more}
use Rattle.sweep.specs.declared.Members.{Members}
use Rattle.sweep.specs.declared.Sizes.{Sizes}
use Rattle.sweep.specs.Sweep.{sizes_m, says_listed_m, is_placed_m, stands_m, is_listed_m, combed, beyond, WholeIs, SweptIs, NextListed, list_at, all_whole, SweepIs}

-- a size is below a bound exactly if it is at most one less
below_most : (above s : ℕ) → 0 < above → ltb s above ≡ leb s (above - 1)
below_most above s h =
    same_test (less s above) (at_most s (above - 1)) (λ l. omega arith) (λ l. omega arith)

-- two comparisons of a size are the test for the bin
takes_sizes : (table : List ℕ) (i s : ℕ) → ValidTable table → i < length table → s < 2 ^ 32
    → takes_bin table i s ≡ (leb (sizes_m table i).least s && leb s (sizes_m table i).most)
unfolding takes_bin
takes_sizes table i s valid inside small = rw (lt-ltb i (length table) inside) (go (dec_le (length table) (suc i)))
  where
    go : Dec (length table ≤ suc i)
        → (leb (size_at table i) s && (leb (length table) (suc i) || ltb s (size_at table (suc i))))
        ≡ (leb (size_at table i) s && leb s (cond (leb (length table) (suc i)) (2 ^ 32 - 1) (size_at table (suc i) - 1)))
    go (yes l) = rw (le-leb (length table) (suc i) l, le-leb s (2 ^ 32 - 1) (omega arith))
    go (no n) =
        let up = valid.ascends i (omega arith) in
        rw (lt-leb (length table) (suc i) (omega arith), below_most (size_at table (suc i)) s (omega arith))

-- what bin i asks somewhere along its list: only the least size changes, and it never falls
pub record Asks (table : List ℕ) (i : ℕ) (sizes : Sizes) : Type 0 where
  pub word : sizes.word ≡ (sizes_m table i).word
  pub most : sizes.most ≡ (sizes_m table i).most
  pub from : (sizes_m table i).least ≤ sizes.least

-- of the first member it asks for its own size or more
pub asks_begin : {table : List ℕ} {i : ℕ} {sizes : Sizes} → sizes ≡ sizes_m table i → Asks table i sizes
asks_begin e =
    record {
      word = ap (λ (z : Sizes). z.word) e;
      most = ap (λ (z : Sizes). z.most) e;
      from = let q = ap (λ (z : Sizes). z.least) e in omega arith;
    }

-- a member that passed is not smaller than the one before
pub rises : (ws : List ℕ) (sizes : Sizes) (p c : ℕ) {t : Bool} → t ≡ says_listed_m ws sizes p c → t ≡ true → sizes.least ≤ word ws c size
unfolding says_listed_m
rises ws sizes p c {t} et ht =
    ((both (both (number_is (word ws c bin) sizes.word) (number_is (word ws c previous_in_bin) p)) (at_most sizes.least (word ws c size))
    ).0 (sym et ∙ ht)).1

-- behind it its size is the least
pub asks_on : {table : List ℕ} {i : ℕ} {sizes : Sizes} → Asks table i sizes → (s : ℕ) → sizes.least ≤ s
    → Asks table i (record { word = sizes.word; least = s; most = sizes.most })
asks_on asks s up = record { word = asks.word; most = asks.most; from = omega (arith, asks.from) }

-- of a size that is not below the bin's one comparison is the test for the bin
takes_most : (table : List ℕ) (i s : ℕ) → ValidTable table → i < length table → s < 2 ^ 32 → (sizes_m table i).least ≤ s
    → takes_bin table i s ≡ leb s (sizes_m table i).most
takes_most table i s valid inside small low = rw (takes_sizes table i s valid inside small, le-leb (sizes_m table i).least s low)

-- what the test of a member comes to. It is a record, so that the checker finds by itself what is tested
pub record Tested (ws table : List ℕ) (i bytes : ℕ) (ms : List ℕ) (p s c : ℕ) (t : Bool) : Type 0 where
  pub is : t ≡ stands_m ws table i bytes ms p s c

-- one comparison of its number tests the place of a member
module _ {ws : List ℕ} {bytes : ℕ} (lent : Lent ws bytes) (c : ℕ) where
  number_placed : ltb (number_m c) (bytes / 8 - 2) ≡ is_placed_m bytes c
  number_placed =
      same_test (less (number_m c) (bytes / 8 - 2)) (both (number_is (c % 8) 0) (less (c + 16) bytes))
      (λ l. (omega (arith, lent.not_too_many), omega (arith, lent.eights, lent.not_too_many)))
      (λ (eight, below). omega (arith, lent.eights))

  -- the tests of a member, in the code's order: its place by its number, its mark, its words
  module _ {k : ℕ} (ek : k ≡ number_m c) {t : Bool} (et : t ≡ ltb k (bytes / 8 - 2)) where
    placed : t ≡ is_placed_m bytes c
    placed = et ∙ ap (λ (n : ℕ). ltb n (bytes / 8 - 2)) ek ∙ number_placed

    pub not_placed : {table : List ℕ} {i : ℕ} {ms : List ℕ} {p s : ℕ} → t ≡ false → Tested ws table i bytes ms p s c false
    unfolding stands_m
    not_placed h = record { is = rw (sym placed ∙ h) }

    module _ (ht : t ≡ true) (ms : List ℕ) {m : Bool} (em : m ≡ marked ms (8 * k)) where
      -- the mark with its number is its own
      own_mark : m ≡ marked ms c
      own_mark =
          let (eight, below) = (both (number_is (c % 8) 0) (less (c + 16) bytes)).0 (sym placed ∙ ht) in
          let same : 8 * k ≡ c = omega arith in
          em ∙ ap (marked ms) same

      pub not_marked : {table : List ℕ} {i p s : ℕ} → m ≡ false → Tested ws table i bytes ms p s c false
      unfolding stands_m
      not_marked h = record { is = rw (sym placed ∙ ht, sym own_mark ∙ h) }

      pub by_words : m ≡ true → {table : List ℕ} {i p : ℕ} {sizes : Sizes} → Asks table i sizes → {w : Bool} → w ≡ says_listed_m ws sizes p c
          → Tested ws table i bytes ms p sizes.least c w
      unfolding stands_m says_listed_m
      by_words hm asks ew = record { is = rw (sym placed ∙ ht, sym own_mark ∙ hm) (rw asks.word at ew) }

-- where the walk of one list stands, at c behind p of size s, with `left` steps left. Sizes do not go down along a list, so s is the greatest so
-- far: if it is not too large for the bin, none before it is
module _ (ws table : List ℕ) (i bytes : ℕ) (ms : List ℕ) (first : ℕ) where
  pub record Combing (c p s left : ℕ) : Type 0 where
    pub combs :
        (leb s (sizes_m table i).most && combed ws table i bytes ms p s (members_from left ws c))
        ≡ combed ws table i bytes ms 0 (size_at table i) (members_from bytes ws first)
    pub ends : beyond ws c (members_from left ws c) ≡ beyond ws first (members_from bytes ws first)
    pub count : bytes + length (members_from left ws c) ≡ left + length (members_from bytes ws first)
    pub lasts : last_or p (members_from left ws c) ≡ last_or 0 (members_from bytes ws first)
    pub within : left ≤ bytes

-- what bounds the larger of two sizes bounds the smaller
smaller_bound : (s z most : ℕ) → s ≤ z → (rest : Bool) → (leb s most && (leb z most && rest)) ≡ (leb z most && rest)
smaller_bound s z most up rest = go (dec_le z most)
  where
    go : Dec (z ≤ most) → (leb s most && (leb z most && rest)) ≡ (leb z most && rest)
    go (yes l) = rw (le-leb s most (omega arith), le-leb z most l)
    go (no n) = rw (lt-leb z most (omega arith)) (and-false (leb s most))

module _ {ws table : List ℕ} {i bytes : ℕ} {ms : List ℕ} {first : ℕ} where
  pub combing_begins : {s : ℕ} → s ≡ size_at table i → size_at table i ≤ (sizes_m table i).most → Combing ws table i bytes ms first first 0 s bytes
  combing_begins e l =
      rw e (record { combs = rw (le-leb (size_at table i) (sizes_m table i).most l); ends = refl; count = refl; lasts = refl; within = omega arith })

  module _ {c p s left : ℕ} (o : Combing ws table i bytes ms first c p s left) where
    -- no list is longer than its steps
    pub torn_long : left ≡ 0 → (c ≡ 0 → ⊥) → SweptIs ws table i bytes ms first None
    unfolding SweptIs
    torn_long e n =
        let r = read_spent ws left c e in
        let q : beyond ws first (members_from bytes ws first) ≡ c = sym o.ends ∙ ap (beyond ws c) r in
        rw (q, ne_eqb c 0 n) (and-false (combed ws table i bytes ms 0 (size_at table i) (members_from bytes ws first)))

    -- the list has been read: the last size, which is the greatest, decides
    module _ (e : c ≡ 0) where
      none_left : members_from left ws c ≡ []
      none_left = ap (members_from left ws) e ∙ read_none ws left

      by_last : combed ws table i bytes ms 0 (size_at table i) (members_from bytes ws first) ≡ leb s (sizes_m table i).most
      by_last = sym o.combs ∙ rw none_left (and-true (leb s (sizes_m table i).most))

      pub torn_large : (sizes_m table i).most < s → SweptIs ws table i bytes ms first None
      unfolding SweptIs
      torn_large l = rw (by_last, lt-leb s (sizes_m table i).most l)

      pub whole_list_lem : s ≤ (sizes_m table i).most → SweptIs ws table i bytes ms first (Some (record { count = bytes - left; last = p }))
      unfolding SweptIs
      whole_list_lem l =
          let q : beyond ws first (members_from bytes ws first) ≡ c = sym o.ends ∙ ap (beyond ws c) none_left in
          let k : bytes + 0 ≡ left + length (members_from bytes ws first) = rw none_left at o.count in
          record {
            whole = rw (by_last, le-leb s (sizes_m table i).most l, q, eq-eqb c 0 e);
            count = omega arith;
            ends = sym (ap (last_or p) none_left) ∙ o.lasts;
          }

    module _ (n : c ≡ 0 → ⊥) (h : 0 < left) {t : Bool} (test : Tested ws table i bytes ms p s c t) where
      pub torn_here : t ≡ false → SweptIs ws table i bytes ms first None
      unfolding SweptIs is_listed_m
      torn_here ht =
          let r = read_more ws left c n h in
          rw (sym o.combs, r, sym test.is ∙ ht, and-false)

      pub combing_goes : t ≡ true → ValidTable table → i < length table → size_at table i ≤ s → s ≤ word ws c size → word ws c size < 2 ^ 32
          → {z : ℕ} → z ≡ word ws c size → {d : ℕ} → d ≡ word ws c next_in_bin → Combing ws table i bytes ms first d c z (left - 1)
      unfolding is_listed_m
      combing_goes ht valid inside low up small ez ed =
          let r = read_more ws left c n h in
          let most = (sizes_m table i).most in
          let rest = combed ws table i bytes ms c (word ws c size) (members_from (left - 1) ws (word ws c next_in_bin)) in
          let q : (leb s most && (leb (word ws c size) most && rest)) ≡ combed ws table i bytes ms 0 (size_at table i) (members_from bytes ws first) =
          rw (r, sym test.is ∙ ht, takes_most table i (word ws c size) valid inside small (omega arith)) at o.combs in
          rw (ed, ez)
          (record {
            combs = sym (smaller_bound s (word ws c size) most up rest) ∙ q;
            ends = rw r at o.ends;
            count = count r;
            lasts = rw r at o.lasts;
            within = omega (arith, o.within);
          })
        where
          count : members_from left ws c ≡ c ∷ members_from (left - 1) ws (word ws c next_in_bin)
              → bytes + length (members_from (left - 1) ws (word ws c next_in_bin)) ≡ (left - 1) + length (members_from bytes ws first)
          count r =
              let q : bytes + suc (length (members_from (left - 1) ws (word ws c next_in_bin))) ≡ left + length (members_from bytes ws first) = rw r at o.count in
              omega arith

-- the code tests both ends of a list at once
no_ends : (head tail : ℕ) → bit_or head tail ≡ 0 → (head ≡ 0) × (tail ≡ 0)
no_ends head tail e =
    let sum = or_add_and head tail in
    let l = and_le_l head tail in
    let r = and_le_r head tail in
    (omega arith, omega arith)

module _ {heads tails : List ℕ} {from : ℕ} where
  pub nothing_passed : NextListed heads tails from from
  nothing_passed = record { onward = omega arith; passed = λ i lo hi. absurd (omega arith) }

  pub one_passed : {b : ℕ} → NextListed heads tails from b → bit_or (get_or heads b 0) (get_or tails b 0) ≡ 0
      → NextListed heads tails from (b + 1)
  one_passed {b} o e =
      record { onward = omega (arith, o.onward); passed = λ i lo hi. go i lo hi (ℕ_discrete i b) }
    where
      go : (i : ℕ) → from ≤ i → i < b + 1 → Dec (i ≡ b) → (get_or heads i 0 ≡ 0) × (get_or tails i 0 ≡ 0)
      go i lo hi (yes q) = rw q (no_ends (get_or heads b 0) (get_or tails b 0) e)
      go i lo hi (no n) = o.passed i lo (omega arith)

-- the numbers from b on, n of them in all
count_on : (b n : ℕ) → b < n → numbers_from b (n - b) ≡ b ∷ numbers_from (suc b) (n - suc b)
count_on b n h = let e : n - b ≡ suc (n - suc b) = omega arith in rw e

count_out : (b n : ℕ) → n ≤ b → numbers_from b (n - b) ≡ []
count_out b n h = let e : n - b ≡ 0 = omega arith in rw e

-- where the walk of all lists stands, before bin b
module _ (ws table heads tails : List ℕ) (bytes : ℕ) (ms : List ℕ) where
  abbrev length_at : ℕ → ℕ
  length_at i = length (list_at ws table heads tails bytes i)

  pub record Sweeping (b met : ℕ) : Type 0 where
    pub whole :
        all_whole ws table heads tails bytes ms (numbers_from b (length table - b))
        ≡ all_whole ws table heads tails bytes ms (numbers_from 0 (length table))
    pub count :
        (met + total length_at (numbers_from b (length table - b))) % 2 ^ 32
        ≡ total length_at (numbers_from 0 (length table)) % 2 ^ 32
    pub fits : met < 2 ^ 32

module _ {ws table heads tails : List ℕ} {bytes : ℕ} {ms : List ℕ} where
  pub sweeping_begins : Sweeping ws table heads tails bytes ms 0 0
  sweeping_begins =
      let e : length table - 0 ≡ length table = omega arith in
      record { whole = rw e; count = rw (e, zero-add); fits = omega arith }

  module _ {met : ℕ} where
    -- an empty list is whole, and has no members
    over_empty : {b : ℕ} → Sweeping ws table heads tails bytes ms b met → get_or heads b 0 ≡ 0 → get_or tails b 0 ≡ 0
        → Sweeping ws table heads tails bytes ms (suc b) met
    over_empty {b} o head tail = go (dec_lt b (length table))
      where
        go : Dec (b < length table) → Sweeping ws table heads tails bytes ms (suc b) met
        go (yes h) =
            let r = count_on b (length table) h in
            let none : list_at ws table heads tails bytes b ≡ [] = ap (members_from bytes ws) head ∙ read_none ws bytes in
            record {
              whole = rw (r, none, head, tail) at o.whole;
              count = rw (r, none, zero-add) at o.count;
              fits = o.fits;
            }
        go (no n) =
            let here = count_out b (length table) (omega arith) in
            let there = count_out (suc b) (length table) (omega arith) in
            record { whole = rw there (rw here at o.whole); count = rw there (rw here at o.count); fits = o.fits }

    -- so the bins that are passed over add nothing
    over_all : (n b : ℕ) → ((i : ℕ) → b ≤ i → i < b + n → (get_or heads i 0 ≡ 0) × (get_or tails i 0 ≡ 0))
        → Sweeping ws table heads tails bytes ms b met → Sweeping ws table heads tails bytes ms (b + n) met
    over_all zero b empty o = rw (add-zero b) o
    over_all (suc n) b empty o =
        let (head, tail) = empty b (omega arith) (omega arith) in
        let e : b + suc n ≡ suc b + n = omega arith in
        rw e (over_all n (suc b) (λ i lo hi. empty i (omega arith) (omega arith)) (over_empty o head tail))

    pub sweeping_skips : {b next : ℕ} → Sweeping ws table heads tails bytes ms b met → NextListed heads tails b next
        → Sweeping ws table heads tails bytes ms next met
    sweeping_skips {b} {next} o p =
        let e : b + (next - b) ≡ next = omega (arith, p.onward) in
        rw e at (over_all (next - b) b (λ i lo hi. p.passed i lo (omega (arith, p.onward))) o)

  module _ {b met : ℕ} (o : Sweeping ws table heads tails bytes ms b met) where
    -- how many members the list of a bin has
    abbrev members_in : ℕ → ℕ
    members_in i = length_at ws table heads tails bytes ms i

    pub all_clean : length table ≤ b → SweepIs ws table heads tails bytes ms (Some met)
    unfolding SweepIs
    all_clean h =
        let r = count_out b (length table) h in
        let q : (met + 0) % 2 ^ 32 ≡ total members_in (numbers_from 0 (length table)) % 2 ^ 32 = rw r at o.count in
        record {
          whole = sym o.whole ∙ ap (all_whole ws table heads tails bytes ms) r;
          count = omega (arith, o.fits);
        }

    -- bin b has been swept: its list is not whole, or these are its members
    module _ (h : b < length table) {first : ℕ} (ef : first ≡ get_or heads b 0) where
      pub dirty_list : SweptIs ws table b bytes ms first None → SweepIs ws table heads tails bytes ms None
      unfolding SweptIs SweepIs
      dirty_list torn =
          sym o.whole ∙ ap (all_whole ws table heads tails bytes ms) (count_on b (length table) h) ∙ rw (← ef, torn)

      module _ {found : Members} (list : WholeIs ws table b bytes ms first found) {t : ℕ} (et : t ≡ get_or tails b 0) where
        pub dirty_tail : (t ≡ found.last → ⊥) → SweepIs ws table heads tails bytes ms None
        unfolding SweepIs
        dirty_tail n =
            sym o.whole ∙ ap (all_whole ws table heads tails bytes ms) (count_on b (length table) h)
            ∙ rw (← ef, list.whole, ← et, ← list.ends, ne_eqb t found.last n)

        pub sweeping_goes : t ≡ found.last → {met' : ℕ} → met' ≡ (met + found.count) % 2 ^ 32
            → Sweeping ws table heads tails bytes ms (b + 1) met'
        sweeping_goes e em =
            let r = count_on b (length table) h in
            rw (em, add-one)
            (record {
              whole = whole r;
              count = count r;
              fits = omega arith;
            })
          where
            whole : numbers_from b (length table - b) ≡ b ∷ numbers_from (suc b) (length table - suc b)
                → all_whole ws table heads tails bytes ms (numbers_from (suc b) (length table - suc b))
                ≡ all_whole ws table heads tails bytes ms (numbers_from 0 (length table))
            whole r = rw (r, ← ef, list.whole, ← et, ← list.ends, eq-eqb t found.last e) at o.whole

            count : numbers_from b (length table - b) ≡ b ∷ numbers_from (suc b) (length table - suc b)
                → ((met + found.count) % 2 ^ 32 + total members_in (numbers_from (suc b) (length table - suc b))) % 2 ^ 32
                ≡ total members_in (numbers_from 0 (length table)) % 2 ^ 32
            count r =
                let q : (met + (members_in b + total members_in (numbers_from (suc b) (length table - suc b)))) % 2 ^ 32 ≡ total members_in (numbers_from 0 (length table)) % 2 ^ 32 = rw r at o.count in
                let m : found.count ≡ members_in b = rw ef at list.count in
                omega arith
