-- What the walk of the bins' lists finds is what the check asks of them, both ways: each list is linked from head to tail and in order of size,
-- its members are ordinary chunks of its bin, and all of those are in some list. Assumes nothing.
use mathlib.Core.Path.{◌≡◌, refl, ◌∙◌, ap}
use mathlib.Core.Bool.{true}
use mathlib.Core.Logic.{◌⊎◌, inl, inr}
use mathlib.Core.List.Memᴰ
use mathlib.Core.List.{List, [], ◌∷◌}
use Prim.Native.Nat.{ℕ, zero, suc, ◌+◌, ◌*◌, ◌%◌, ◌^◌, ◌≤◌, ◌<◌}
use native.Mathlib.Decide.{ℕ_discrete}
use native.Mathlib.Omega.{arith}
use lib.ListN.{length, get_or}
use Rattle.lists.specs.Lists.{Mem, head_or, last_or, total, numbers_from, gathered, Distinct, Ascending}
use Rattle.lists.proofs.ListsLaws.{Decides, number_is, at_most, less, both, both_if, for_below, each_cons, meaning}
use Rattle.lists.proofs.CountLaws.{distinct_fits, distinct_covers, gathered_length, gathered_from, gathered_has, gathered_once}
use Rattle.lists.proofs.MembersLaws.{DistinctParts}
use Rattle.marks.specs.Marks.{marked}
use Rattle.std.specs.Prelude.{Some}
use Rattle.record.specs.Table.{ValidTable, size_at, bin_of}
use Rattle.record.proofs.TableLaws.{bin_takes, takes_iff}
use Rattle.region.specs.Words.{word, size, next_in_bin, previous_in_bin, bin}
use Rattle.rules.specs.Check.{Linked}
use Rattle.rules.specs.Shape.{members_from}
use Rattle.rules.proofs.ShapeLaws.{read_head, read_on}
use Rattle.sweep.specs.Sweep.{stands_m, is_listed_m, combed, beyond, list_at, whole_bin, all_whole}

-- members that have been passed, the last one first: 0 is none of them, each one's backward bin link names the next, and the last one's 0
abbrev Trail : List ℕ → List ℕ → Type 0
Trail ws [] = Unit {0}
Trail ws (p ∷ ps) = (0 < p) × (word ws p previous_in_bin ≡ head_or 0 ps) × Trail ws ps

-- so each of them names 0, or one that was passed before the last
named : (ws : List ℕ) (p : ℕ) (ps : List ℕ) → Trail ws (p ∷ ps) → (c : ℕ) → Mem c (p ∷ ps)
    → (word ws c previous_in_bin ≡ 0) ⊎ Mem (word ws c previous_in_bin) ps
named ws p [] (placed, back, trail) c (Memᴰ.tail m) = elim m [ ]
named ws p [] (placed, back, trail) c (Memᴰ.head e) = inl (ap (λ (x : ℕ). word ws x previous_in_bin) e ∙ back)
named ws p (d ∷ ds) (placed, back, trail) c (Memᴰ.head e) = inr (Memᴰ.head (ap (λ (x : ℕ). word ws x previous_in_bin) e ∙ back))
named ws p (d ∷ ds) (placed, back, trail) c (Memᴰ.tail m) = further (named ws d ds trail c m)
  where
    further : (word ws c previous_in_bin ≡ 0) ⊎ Mem (word ws c previous_in_bin) ds
        → (word ws c previous_in_bin ≡ 0) ⊎ Mem (word ws c previous_in_bin) (d ∷ ds)
    further (inl e) = inl e
    further (inr k) = inr (Memᴰ.tail k)

-- and one that names the last is none of them
new : (ws ps : List ℕ) (c : ℕ) → Trail ws ps → Distinct ps → word ws c previous_in_bin ≡ head_or 0 ps → Mem c ps → ⊥
new ws [] c trail once back m = Memᴰ.not-nil m
new ws (p ∷ ps) c trail (alone, once) back m = neither (named ws p ps trail c m)
  where
    neither : (word ws c previous_in_bin ≡ 0) ⊎ Mem (word ws c previous_in_bin) ps → ⊥
    neither (inl e) = omega (arith, trail.0)
    neither (inr k) = alone (rw back at k)

-- so a list that is linked backwards has no member twice
linked_apart : (ws cs ps : List ℕ) → Linked ws (head_or 0 ps) cs → ((c : ℕ) → Mem c cs → 0 < c) → Trail ws ps → Distinct ps → DistinctParts cs ps
linked_apart ws [] ps links placed trail once =
    record { left = tt; right = once; none = λ d m k. Memᴰ.not-nil m }
linked_apart ws (c ∷ cs) ps (back, next, links) placed trail once =
    let first = new ws ps c trail once back in
    let r =
    linked_apart ws cs (c ∷ ps) links (λ d m. placed d (Memᴰ.tail m)) (placed c (Memᴰ.head refl), back, trail) (first, once) in
    record { left = (λ m. r.none c m (Memᴰ.head refl), r.left); right = once; none = λ d m k. common first r.none d m k }
  where
    common : (Mem c ps → ⊥) → ((d : ℕ) → Mem d cs → Mem d (c ∷ ps) → ⊥) → (d : ℕ) → Mem d (c ∷ cs) → Mem d ps → ⊥
    common first others d (Memᴰ.head e) k = first (rw e at k)
    common first others d (Memᴰ.tail m) k = others d m (Memᴰ.tail k)

linked_once : (ws cs : List ℕ) → Linked ws 0 cs → ((c : ℕ) → Mem c cs → 0 < c) → Distinct cs
linked_once ws cs links placed = (linked_apart ws cs [] links placed tt tt).left

-- a linked list ends where it is read from its head
linked_ends : (ws cs : List ℕ) (c p : ℕ) → Linked ws p cs → c ≡ head_or 0 cs → beyond ws c cs ≡ 0
linked_ends ws [] c p links e = e
linked_ends ws (d ∷ ds) c p (back, next, links) e = linked_ends ws ds (word ws d next_in_bin) d links next

-- a reading that ends at 0 begins with its first member
next_head : (ws : List ℕ) (k c : ℕ) → beyond ws c (members_from k ws c) ≡ 0 → c ≡ head_or 0 (members_from k ws c)
next_head ws zero c h = h
next_head ws (suc k) c h = read_head ws (suc k) c (omega arith)

module _ (ws table : List ℕ) (valid : ValidTable table) (all : List ℕ) where
  -- the marks say which places are those of chunks of `all`
  abbrev pub Marks : List ℕ → Type 0
  Marks ms = (c : ℕ) → c % 8 ≡ 0 → Decides (marked ms c) (Mem c all)

  -- what every member of bin i is, wherever it stands
  pub record MemberFacts (i c : ℕ) : Type 0 where
    pub known : Mem c all
    pub bins : word ws c bin ≡ i % 32 * 8
    pub takes : bin_of table (word ws c size) ≡ Some i

  -- all of a list are, and each names the one before it and is no smaller. The first is behind one at p of size s
  abbrev CombedIs : ℕ → ℕ → ℕ → List ℕ → Type 0
  CombedIs i p s [] = Unit {0}
  CombedIs i p s (c ∷ cs) =
      (MemberFacts i c × (word ws c previous_in_bin ≡ p) × (s ≤ word ws c size)) × CombedIs i c (word ws c size) cs

  combed_facts : (i : ℕ) (cs : List ℕ) (p s : ℕ) → CombedIs i p s cs → (c : ℕ) → Mem c cs → MemberFacts i c
  combed_facts i [] p s _ d x3 = elim x3 [ ]
  combed_facts i (c ∷ cs) p s ((facts, back, up), others) d (Memᴰ.head e) = rw e facts
  combed_facts i (c ∷ cs) p s ((facts, back, up), others) d (Memᴰ.tail m) = combed_facts i cs c (word ws c size) others d m

  -- so they are in order of size
  combed_order : (i : ℕ) (cs : List ℕ) (p s : ℕ) → CombedIs i p s cs
      → ((c : ℕ) → Mem c cs → s ≤ word ws c size) × Ascending (λ c. word ws c size) cs
  combed_order i [] p s h = (λ c m. absurd (Memᴰ.not-nil m), tt)
  combed_order i (c ∷ cs) p s ((facts, back, up), others) =
      let (above, order) = combed_order i cs c (word ws c size) others in
      (each_cons up (λ d m. let l = above d m in omega arith), (above, order))

  -- members that name each other backwards along a reading are linked both ways
  read_linked : (i k c p s : ℕ) → beyond ws c (members_from k ws c) ≡ 0 → CombedIs i p s (members_from k ws c) → Linked ws p (members_from k ws c)
  read_linked i zero c p s b h = tt
  read_linked i (suc k) c p s b h = go (ℕ_discrete c 0) (λ b' h'. read_linked i k (word ws c next_in_bin) c (word ws c size) b' h')
    where
      go : Dec (c ≡ 0)
          → (beyond ws (word ws c next_in_bin) (members_from k ws (word ws c next_in_bin)) ≡ 0
          → CombedIs i c (word ws c size) (members_from k ws (word ws c next_in_bin)) → Linked ws c (members_from k ws (word ws c next_in_bin)))
          → Linked ws p (members_from (suc k) ws c)
      go (yes e) f = rw e tt
      go (no n) f =
          let q = read_on ws k c n in
          let b' : beyond ws (word ws c next_in_bin) (members_from k ws (word ws c next_in_bin)) ≡ 0 = rw q at b in
          let ((facts, back, up), others) : CombedIs i p s (c ∷ members_from k ws (word ws c next_in_bin)) = rw q at h in
          rw q (back, next_head ws k (word ws c next_in_bin) b', f b' others)

  -- and back: members that are linked and in order are combed
  linked_combed : (i : ℕ) (cs : List ℕ) (p s : ℕ) → Linked ws p cs → ((c : ℕ) → Mem c cs → MemberFacts i c)
      → ((c : ℕ) → Mem c cs → s ≤ word ws c size) → Ascending (λ c. word ws c size) cs → CombedIs i p s cs
  linked_combed i [] p s links f low order = tt
  linked_combed i (c ∷ cs) p s (back, next, links) f low (above, order) = (
    (f c (Memᴰ.head refl), back, low c (Memᴰ.head refl)),
    linked_combed i cs c (word ws c size) links (λ d m. f d (Memᴰ.tail m)) above order,
  )

-- the lists of the bins, read from the heads with at most `bytes` steps each
module _ (ws table : List ℕ) (valid : ValidTable table) (all heads tails : List ℕ) (bytes : ℕ) (some : 0 < bytes)
    (eights : (c : ℕ) → Mem c all → c % 8 ≡ 0) (bounded : (c : ℕ) → Mem c all → (0 < c) × (c + 16 < bytes)) where
  abbrev list : ℕ → List ℕ
  list i = list_at ws table heads tails bytes i

  -- one bin's list
  pub record BinIs (i : ℕ) : Type 0 where
    pub tail : get_or tails i 0 ≡ last_or 0 (list i)
    pub links : Linked ws 0 (list i)
    pub once : Distinct (list i)
    pub members : (c : ℕ) → Mem c (list i) → MemberFacts ws table valid all i c
    pub order : Ascending (λ c. word ws c size) (list i)

  module _ (ms : List ℕ) (marks : Marks ws table valid all ms) (i : ℕ) where
    -- the tests of a member decide that it is one, that it names the one before it, and that it is no smaller
    listed_iff : (p s c : ℕ)
        → Decides (is_listed_m ws table i bytes ms p s c) (MemberFacts ws table valid all i c × (word ws c previous_in_bin ≡ p) × (s ≤ word ws c size))
    unfolding is_listed_m stands_m
    listed_iff p s c =
        meaning
        (both (both (both (both (both_if (both (number_is (c % 8) 0) (less (c + 16) bytes)) (λ (eight, below). marks c eight))
        (number_is (word ws c bin) (i % 32 * 8)))
        (number_is (word ws c previous_in_bin) p)) (at_most s (word ws c size))) (takes_iff table valid i (word ws c size)))
        (λ ((((((eight, below), known), bins), back), up), takes). (record { known = known; bins = bins; takes = takes }, back, up))
        (λ (m, back, up). ((((((eights c m.known, (bounded c m.known).1), m.known), m.bins), back), up), m.takes))

    combed_iff : (cs : List ℕ) (p s : ℕ) → Decides (combed ws table i bytes ms p s cs) (CombedIs ws table valid all i p s cs)
    combed_iff [] p s = (λ h. tt, λ h. refl)
    combed_iff (c ∷ cs) p s = both (listed_iff p s c) (combed_iff cs c (word ws c size))

    -- so the walk of a bin's list comes through exactly if the list is right
    bin_iff : Decides (whole_bin ws table heads tails bytes ms i) (BinIs i)
    bin_iff =
        meaning
        (both (both (combed_iff (list i) 0 (size_at table i)) (number_is (beyond ws (get_or heads i 0) (list i)) 0)) (number_is (get_or tails i 0) (last_or 0 (list i))))
        (λ ((combed, ends), tail).
        let links = read_linked ws table valid all i bytes (get_or heads i 0) 0 (size_at table i) ends combed in
        let members = combed_facts ws table valid all i (list i) 0 (size_at table i) combed in
        record {
          tail = tail;
          links = links;
          once = linked_once ws (list i) links (λ c m. (bounded c (members c m).known).0);
          members = members;
          order = (combed_order ws table valid all i (list i) 0 (size_at table i) combed).1;
        })
        (λ q. (
          (
            linked_combed ws table valid all i (list i) 0 (size_at table i) q.links q.members
                (λ c m. (bin_takes table (q.members c m).takes).not_above) q.order,
            linked_ends ws (list i) (get_or heads i 0) 0 q.links (read_head ws bytes (get_or heads i 0) some),
          ),
          q.tail,
        ))

  -- a chunk is in the lists of two bins only if they are one
  bins_apart : (i j : ℕ) → BinIs i → BinIs j → (c : ℕ) → Mem c (list i) → Mem c (list j) → i ≡ j
  bins_apart i j p q c m k =
      let a = (p.members c m).takes in
      let b = (q.members c k).takes in
      cc

  -- every chunk of `all` is in the list of some bin
  abbrev pub Covered : ℕ → Type 0
  Covered n = (c : ℕ) → Mem c all → (i : ℕ) × (i < n) × Mem c (list i)

  -- the walk comes through, and meets as many members as there are chunks
  pub record Combs (n : ℕ) (ms : List ℕ) : Type 0 where
    pub whole : all_whole ws table heads tails bytes ms (numbers_from 0 n) ≡ true
    pub count : total (λ i. length (list i)) (numbers_from 0 n) % 2 ^ 32 ≡ length all

  module _ (n : ℕ) (ms : List ℕ) (few : length all < 2 ^ 32) (marks : Marks ws table valid all ms) (once : Distinct all) where
    module _ (f : (i : ℕ) → i < n → BinIs i) where
      -- all members together
      abbrev everyone : List ℕ
      everyone = gathered list (numbers_from 0 n)

      everyone_once : Distinct everyone
      everyone_once =
          gathered_once list n 0 (λ i lo hi. (f i (omega arith)).once)
          (λ i j lo lt hi c m k. let e = bins_apart i j (f i (omega arith)) (f j (omega arith)) c m k in omega arith)

      everyone_known : (c : ℕ) → Mem c everyone → Mem c all
      everyone_known c m =
          let (i, (low, high), listed) = gathered_from list n 0 m in
          ((f i (omega arith)).members c listed).known

      counted : length everyone ≡ total (λ i. length (list i)) (numbers_from 0 n)
      counted = gathered_length list (numbers_from 0 n)

      not_more : length everyone ≤ length all
      not_more = distinct_fits everyone all everyone_once everyone_known

      covers : total (λ i. length (list i)) (numbers_from 0 n) % 2 ^ 32 ≡ length all → Covered n
      covers h c m =
          let a = not_more in
          let b = counted in
          let k = distinct_covers everyone all everyone_once everyone_known (omega arith) c m in
          let (i, (low, high), listed) = gathered_from list n 0 k in
          (i, omega (arith, high), listed)

      count_all : Covered n → total (λ i. length (list i)) (numbers_from 0 n) % 2 ^ 32 ≡ length all
      count_all g =
          let a = not_more in
          let b = counted in
          let d = distinct_fits all everyone once (λ c m. let (i, below, listed) = g c m in gathered_has list n 0 i (omega arith) (omega arith) listed) in
          omega arith

    bins_iff : Decides (all_whole ws table heads tails bytes ms (numbers_from 0 n)) ((i : ℕ) → i < n → BinIs i)
    bins_iff = for_below (bin_iff ms marks) n

    -- the walk comes through exactly if each bin's list is right and every chunk of `all` is in one
    pub combs_bins : Combs n ms → ((i : ℕ) → i < n → BinIs i) × Covered n
    combs_bins q =
        let f = bins_iff.0 q.whole in
        (f, covers f q.count)

    pub bins_combs : ((i : ℕ) → i < n → BinIs i) → Covered n → Combs n ms
    bins_combs f g = record { whole = bins_iff.1 f; count = count_all f g }
