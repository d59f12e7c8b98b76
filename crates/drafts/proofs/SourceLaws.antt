-- The chosen source on a heap that passes is a free chunk of the chain, with at least the need, and with 24 bytes more if it is the donor
-- or the top; the chain is split there (`source_can`). The laws of grants take their preconditions as one record, `Grantable`. Assumes nothing.
use mathlib.Core.Path.{◌≡◌, refl, subst}
use mathlib.Core.Bool.{Bool, true, false, cond, not, ◌&&◌, true≢false, false≢true}
use mathlib.Core.List.Memᴰ
use mathlib.Core.List.{List, [], ◌∷◌, ◌++◌}
use Prim.Native.Nat.{ℕ, suc, ◌+◌, ◌-◌, ◌%◌, ◌≤◌, ◌<◌}
use native.Mathlib.Decide.{ℕ_discrete}
use native.Mathlib.Omega.{arith}
use lib.Dec.{eqb, leb}
use lib.ListN.{length-take}
use borrow.Author.Tests.{eq-eqb, ne_eqb, leb-true}
use Rattle.lists.specs.Lists.{Mem, head_or, keep, numbers_from, gathered}
use Rattle.lists.proofs.ListsLaws.{at_most, number_is, denied, both}
use Rattle.lists.proofs.MembersLaws.{kept_from}
use Rattle.lists.proofs.CountLaws.{gathered_from}
use Rattle.record.specs.declared.heap.Heap.{Heap}
use Rattle.record.specs.declared.sources.Source.{Source}
use Rattle.record.specs.declared.sources.Source.TheVariants.{FromBin, FromDonor, FromTop}
use Rattle.std.specs.Prelude.{Option, Some, None, is_none}
use Rattle.record.specs.Heap.{at, table_of}
use Rattle.record.specs.Table.{Takes, TakenBy, small, bin_of}
use Rattle.record.proofs.TableLaws.{bin_taken, sizes_grow}
use Rattle.rules.specs.Shape.{Entry, shape, bin_list}
use Rattle.rules.specs.Kinds.{free_kind, ordinary_kind, kind_of, is_at, overhead, size_on}
use Rattle.rules.specs.Check.{Passes}
use Rattle.rules.specs.Draft.{as_read, spot}
use Rattle.rules.specs.Cut.{grant_at, grant_from}
use Rattle.rules.specs.Serve.{from_bin, own_bin, try_donor, larger_bin, try_top, in_order, first_of, chosen, need}
use Rattle.rules.specs.Allocate.{source_of}
use Rattle.rules.proofs.SpotLaws.{spot_at, size_on_lem}
use Rattle.rules.proofs.NamedLaws.{Free, top_here, donor_here}
use Rattle.rules.proofs.KindsLaws.{ordinary_kind_lem}
use Rattle.books.proofs.HeapBooks.{member_entry}
use Rattle.drafts.specs.Sources.{place_in, kind_in}
use Rattle.drafts.proofs.NeedLaws.{need_large, need_eight}

-- a source has one of the three free kinds
pub free_source : (s : Option Source) → is_none s ≡ false → free_kind (kind_in s) ≡ true
free_source (Some (FromBin c)) q = refl
free_source (Some FromDonor) q = refl
free_source (Some FromTop) q = refl
free_source None q = absurd (true≢false q)

-- n bytes can be granted from the source, the chunk e
pub record CanGrant (ws : List ℕ) (h : Heap) (n : ℕ) (source : Option Source) (e : Entry) : Type 0 where
  pub member : Mem e (shape ws h.bytes)
  pub place : e.place ≡ place_in h.donor.0 h.top.0 source
  pub kind : kind_of h e ≡ kind_in source
  pub free : Free ws h e
  pub enough : n ≤ e.size
  pub spare : ordinary_kind (kind_in source) ≡ false → n + 24 ≤ e.size
  pub here : (spot (is_at e.place) (shape ws h.bytes)).here ≡ e
  pub split : shape ws h.bytes ≡ (spot (is_at e.place) (shape ws h.bytes)).low ++ e ∷ (spot (is_at e.place) (shape ws h.bytes)).high
  pub is : grant_from source n (as_read ws h) ≡ grant_at (kind_in source) (spot (is_at e.place) (shape ws h.bytes)) n (as_read ws h)

-- the try finds no source; if it finds one, P holds of it
abbrev pub Fails : Option Source → Type 0
Fails s = is_none s ≡ true

abbrev pub Good : (Option Source → Type 0) → Option Source → Type 0
Good P s = is_none s ≡ false → P s

-- P holds of what the first try finds, and, if it fails, of what the others find
first_good : (P : Option Source → Type 0) (s : Option Source) (ss : List (Option Source)) → Good P s → (Fails s → Good P (first_of ss)) → Good P (first_of (s ∷ ss))
first_good P (Some s) ss g others some = g some
first_good P None ss g others some = others refl some

none_good : (P : Option Source → Type 0) → Good P (first_of [])
none_good P some = absurd (true≢false some)

-- P holds of the chosen source, if it holds of what each try finds where those before it fail
pub in_order_good : (P : Option Source → Type 0) (little : Bool) (own larger donor top : Option Source)
    → Good P own
    → (Fails own → (little ≡ true → Fails donor) → Good P larger)
    → (Fails own → (little ≡ false → Fails larger × Fails top) → Good P donor)
    → (Fails own → Fails larger → (little ≡ true → Fails donor) → Good P top)
    → Good P (first_of (in_order little own larger donor top))
in_order_good P true own larger donor top o l d t =
    first_good P own (donor ∷ larger ∷ top ∷ []) o
    (λ fo. first_good P donor (larger ∷ top ∷ []) (d fo (λ q. absurd (true≢false q)))
    (λ fd. first_good P larger (top ∷ []) (l fo (λ q. fd))
    (λ fl. first_good P top [] (t fo fl (λ q. fd)) (λ ft. none_good P))))
in_order_good P false own larger donor top o l d t =
    first_good P own (larger ∷ top ∷ donor ∷ []) o
    (λ fo. first_good P larger (top ∷ donor ∷ []) (l fo (λ q. absurd (false≢true q)))
    (λ fl. first_good P top (donor ∷ []) (t fo fl (λ q. absurd (false≢true q)))
    (λ ft. first_good P donor [] (d fo (λ q. (fl, ft))) (λ fd. none_good P))))

-- where no source is chosen all four fail
first_fails : (s : Option Source) (ss : List (Option Source)) → Fails (first_of (s ∷ ss)) → Fails s × Fails (first_of ss)
first_fails (Some s) ss f = absurd (false≢true f)
first_fails None ss f = (refl, f)

pub in_order_fails : (little : Bool) (own larger donor top : Option Source) → Fails (first_of (in_order little own larger donor top))
    → Fails own × Fails larger × Fails donor × Fails top
in_order_fails true own larger donor top f =
    let (o, rest) = first_fails own (donor ∷ larger ∷ top ∷ []) f in
    let (d, rest) = first_fails donor (larger ∷ top ∷ []) rest in
    let (l, rest) = first_fails larger (top ∷ []) rest in
    (o, l, d, (first_fails top [] rest).0)
in_order_fails false own larger donor top f =
    let (o, rest) = first_fails own (larger ∷ top ∷ donor ∷ []) f in
    let (l, rest) = first_fails larger (top ∷ donor ∷ []) rest in
    let (t, rest) = first_fails top (donor ∷ []) rest in
    (o, l, (first_fails donor [] rest).0, t)

-- the first of a list is a member, if it is not 0
first_member : (cs : List ℕ) → (head_or 0 cs ≡ 0 → ⊥) → Mem (head_or 0 cs) cs
first_member [] n = absurd (n refl)
first_member (c ∷ cs) n = Memᴰ.head refl

-- a try that takes the first of a list
pub from_first_good : (P : Option Source → Type 0) (cs : List ℕ) → (Mem (head_or 0 cs) cs → P (Some (FromBin (at (head_or 0 cs))))) → Good P (from_bin (head_or 0 cs))
from_first_good P cs f = go (ℕ_discrete (head_or 0 cs) 0)
  where
    go : Dec (head_or 0 cs ≡ 0) → Good P (from_bin (head_or 0 cs))
    go (yes z) = rw (eq-eqb (head_or 0 cs) 0 z) (λ some. absurd (true≢false some))
    go (no n) = rw (ne_eqb (head_or 0 cs) 0 n) (λ some. f (first_member cs n))

-- P holds of the first if it holds of every member
pub from_bin_good : (P : Option Source → Type 0) (cs : List ℕ) → ((c : ℕ) → Mem c cs → P (Some (FromBin (at c)))) → Good P (from_bin (head_or 0 cs))
from_bin_good P cs f = from_first_good P cs (f (head_or 0 cs))

-- a try that takes s under a test
pub if_good : (P : Option Source → Type 0) (s : Option Source) (t : Bool) → (t ≡ true → P s) → Good P (cond t s None)
if_good P s true f = λ some. f refl
if_good P s false f = λ some. absurd (true≢false some)

module _ (ws : List ℕ) (h : Heap) (p : Passes ws h) (n : ℕ) where
  abbrev es : List Entry
  es = shape ws h.bytes

  abbrev Can : Option Source → Type 0
  Can s = (e : Entry) × CanGrant ws h n s e

  -- the chain is split at the chunk's own place
  can_at : (s : Option Source) (e : Entry) → Mem e es → e.place ≡ place_in h.donor.0 h.top.0 s → kind_of h e ≡ kind_in s → Free ws h e → n ≤ e.size
      → (ordinary_kind (kind_in s) ≡ false → n + 24 ≤ e.size)
      → grant_from s n (as_read ws h) ≡ grant_at (kind_in s) (spot (is_at e.place) es) n (as_read ws h) → Can s
  can_at s e m q k f enough spare is =
      let t = spot_at ws h p e.place e m refl in
      (e, record { member = m; place = q; kind = k; free = f; enough = enough; spare = spare; here = t.here; split = t.split; is = is })

  -- a member of a bin with at least n bytes
  from_bin_can : (i c : ℕ) → i < h.bins → Mem c (bin_list ws h i) → ((e : Entry) → Mem e es → e.place ≡ c → bin_of (table_of h) e.size ≡ Some i → n ≤ e.size)
      → Can (Some (FromBin (at c)))
  unfolding grant_from as_read
  from_bin_can i c l m large =
      let (e, r) = member_entry ws h p i c l m in
      can_at (Some (FromBin (at c))) e r.member r.place (ordinary_kind_lem (kind_of h e) r.kind) r.is.free
      (large e r.member r.place r.takes) (λ q. absurd (true≢false q)) (rw r.place)

  -- each of the four tries finds only chunks that can
  own_good : (b : Option ℕ) → TakenBy (table_of h) n b → Good Can (own_bin es (bin_list ws h) n b)
  own_good (Some i) k =
      from_bin_good Can (keep (λ c. leb n (size_on es c)) (bin_list ws h i))
      (λ c m.
      let (member, fits) = kept_from (λ c. leb n (size_on es c)) (bin_list ws h i) m in
      from_bin_can i c (inside i k) member (λ e me q t. subst (λ (s : ℕ). n ≤ s) (size_on_lem ws h p c e me q) (leb-true n (size_on es c) fits)))
    where
      inside : (i : ℕ) → Takes (table_of h) n i → i < h.bins
      inside i k = omega (arith, k.inside, length-take h.bins h.sizes)
  own_good None k = λ some. absurd (true≢false some)

  -- the bins above that of n have larger chunks
  larger_good : (b : Option ℕ) → TakenBy (table_of h) n b → Good Can (larger_bin h (bin_list ws h) b)
  larger_good (Some i) k =
      from_bin_good Can (gathered (bin_list ws h) (numbers_from (suc i) (h.bins - suc i)))
      (λ c m.
      let (j, (above, inside), member) = gathered_from (bin_list ws h) (h.bins - suc i) (suc i) m in
      from_bin_can j c (omega arith) member
      (λ e me q t. let u = sizes_grow (table_of h) k (subst (λ (r : Option ℕ). TakenBy (table_of h) e.size r) t (bin_taken (table_of h) e.size)) (omega arith) in omega arith))
  larger_good None k = λ some. absurd (true≢false some)

  donor_good : Good Can (try_donor h es n)
  unfolding grant_from as_read
  donor_good =
      if_good Can (Some FromDonor) (not (eqb h.donor.0 0) && leb (n + 24) (size_on es h.donor.0))
      (λ t.
      let (some, enough) = (both (denied (number_is h.donor.0 0)) (at_most (n + 24) (size_on es h.donor.0))).0 t in
      let d = donor_here ws h p (omega arith) in
      can_at (Some FromDonor) (spot (is_at h.donor.0) es).here d.member d.place d.kind d.free (omega arith) (λ q. enough) (rw d.place))

  top_good : Good Can (try_top h es n)
  unfolding grant_from as_read
  top_good =
      if_good Can (Some FromTop) (leb (n + 24) (size_on es h.top.0))
      (λ t.
      let f = leb-true (n + 24) (size_on es h.top.0) t in
      let d = top_here ws h p in
      can_at (Some FromTop) (spot (is_at h.top.0) es).here d.member d.place d.kind d.free (omega arith) (λ q. f) (rw d.place))

  -- the chosen source can grant
  pub source_can : is_none (source_of n (as_read ws h)) ≡ false → (e : Entry) × CanGrant ws h n (source_of n (as_read ws h)) e
  unfolding as_read chosen
  source_can =
      let t = bin_taken (table_of h) n in
      let own : Option ℕ = bin_of (table_of h) n in
      in_order_good Can (small (table_of h) n) (own_bin es (bin_list ws h) n own) (larger_bin h (bin_list ws h) own) (try_donor h es n) (try_top h es n)
      (own_good own t) (λ o d. larger_good own t) (λ o l. donor_good) (λ o l d. top_good)

-- the heap passes, n is at least 24 and a multiple of 8, as every need is, and some chunk can serve it
pub record Grantable (ws : List ℕ) (h : Heap) (n : ℕ) : Type 0 where
  pub well : Passes ws h
  pub large : 24 ≤ n
  pub eight : n % 8 ≡ 0
  pub some : is_none (source_of n (as_read ws h)) ≡ false

-- the need of z bytes is so
pub need_grantable : {ws : List ℕ} {h : Heap} (z : ℕ) → Passes ws h → is_none (source_of (need overhead z) (as_read ws h)) ≡ false
    → Grantable ws h (need overhead z)
need_grantable z p some = record { well = p; large = need_large z; eight = need_eight z; some = some }
