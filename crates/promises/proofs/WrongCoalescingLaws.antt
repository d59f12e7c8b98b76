-- Each of the three wrong ways of joining breaks the promise `Coalescing`, shown on heaps of the demonstration's setup. Assumes nothing.
use mathlib.Core.Path.{◌≡◌, refl, ap}
use mathlib.Core.Logic.{inl}
use mathlib.Core.Bool.{true, false}
use mathlib.Core.List.{List, [], ◌∷◌, ◌++◌}
use native.Mathlib.Omega.{arith}
use lib.ListN.{length}
use Rattle.lists.proofs.SplitLaws.{in_split}
use Rattle.record.specs.declared.kinds.Kind.TheVariants.{Donor}
use Rattle.rules.specs.Shape.{Entry, entry, shape}
use Rattle.rules.specs.Kinds.{kind_of, ordinary, is_free, live, used, unused}
use Rattle.rules.specs.Check.{Passes}
use Rattle.rules.specs.Calls.{Allocate, Free, SetMerge, State}
use Rattle.rules.proofs.CasesLaws.{computes}
use Rattle.promises.specs.Ways.{ours}
use Rattle.promises.specs.Room.{HoldsBlock}
use Rattle.promises.specs.Splitting.{chain_left}
use Rattle.promises.specs.Coalescing.{begins_at, Coalescing}
use Rattle.promises.specs.Wrong.{never_joins, always_joins, joins_donor_below}
use Rattle.promises.proofs.WrongLaws.{heap_after, passing}

-- block 16 is live, between the start and the donor
abbrev start : Entry
start = entry 0 8 used

abbrev lowest : Entry
lowest = entry 8 24 used

abbrev donor : Entry
donor = entry 32 40 unused

abbrev rest : List Entry
rest = entry 72 176 unused ∷ entry 248 8 used ∷ []

record UnderDonor (s : State) : Type 0 where
  passes : Passes s.words s.heap
  chain : shape s.words s.heap.bytes ≡ start ∷ lowest ∷ donor ∷ rest
  lives : live s.heap lowest ≡ true
  kind : kind_of s.heap donor ≡ Donor
  place : s.heap.donor.0 ≡ 32
  begins : begins_at s.heap start lowest ≡ 8

held : {s : State} → UnderDonor s → HoldsBlock s.words s.heap 16 lowest
held u = record { member = in_split (start ∷ []) lowest (donor ∷ rest) u.chain; live = u.lives; block = refl }

-- 27: merging is on, and the donor does not join the chunk below it, which is freed
abbrev merging : State
merging = heap_after (Allocate 16 ∷ [])

merging_under : UnderDonor merging
unfolding computes
merging_under =
    record {
      passes = passing merging refl;
      chain = refl;
      lives = refl;
      kind = refl;
      place = refl;
      begins = refl;
    }

is_on : merging.heap.merge ≡ true
unfolding computes
is_on = refl

donor_stays : (never_joins (Free 16) merging.words merging.heap).heap.donor.0 ≡ 32
unfolding computes ours
donor_stays = refl

pub coalescing_refutes_never_joining : Coalescing never_joins → ⊥
coalescing_refutes_never_joining promised =
    let u = merging_under in
    let g = (promised merging.words merging.heap u.passes).free 16 [] start lowest donor rest u.chain (held u) in
    omega (arith, g.new_donor is_on u.kind, donor_stays)

-- 28: merging is off, and the donor joins all the same
abbrev apart : State
apart = heap_after (Allocate 16 ∷ SetMerge false ∷ [])

apart_under : UnderDonor apart
unfolding computes
apart_under =
    record {
      passes = passing apart refl;
      chain = refl;
      lives = refl;
      kind = refl;
      place = refl;
      begins = refl;
    }

is_off : apart.heap.merge ≡ false
unfolding computes
is_off = refl

donor_moves : (always_joins (Free 16) apart.words apart.heap).heap.donor.0 ≡ 8
unfolding computes ours
donor_moves = refl

pub coalescing_refutes_always_joining : Coalescing always_joins → ⊥
coalescing_refutes_always_joining promised =
    let u = apart_under in
    let g = (promised apart.words apart.heap u.passes).free 16 [] start lowest donor rest u.chain (held u) in
    omega (arith, g.same_donor (inl is_off), donor_moves)

-- 29: a block above the donor, at 80, is freed; the one above it, at 104, is live. The donor takes in the freed chunk
abbrev above : State
above = heap_after (Allocate 16 ∷ Allocate 16 ∷ Allocate 16 ∷ [])

abbrev freed : Entry
freed = entry 72 24 used

abbrev next : Entry
next = entry 96 24 used

abbrev last : List Entry
last = entry 120 128 unused ∷ entry 248 8 used ∷ []

record OverDonor : Type 0 where
  passes : Passes above.words above.heap
  chain : shape above.words above.heap.bytes ≡ (start ∷ lowest ∷ []) ++ donor ∷ freed ∷ next ∷ last
  lives : live above.heap freed ≡ true
  not_ordinary : ordinary above.heap donor ≡ false
  not_free : is_free above.heap next ≡ false

over_donor : OverDonor
unfolding computes
over_donor =
    record {
      passes = passing above refl;
      chain = refl;
      lives = refl;
      not_ordinary = refl;
      not_free = refl;
    }

freed_held : HoldsBlock above.words above.heap 80 freed
freed_held =
    let u = over_donor in
    record { member = in_split (start ∷ lowest ∷ donor ∷ []) freed (next ∷ last) u.chain; live = u.lives; block = refl }

-- six chunks are left
six_left : length (chain_left (joins_donor_below (Free 80) above.words above.heap)) ≡ 6
unfolding computes ours
six_left = refl

-- and the rules leave seven
fewer : {xs ys : List Entry} → xs ≡ ys → length xs ≡ 6 → length ys ≡ 7 → ⊥
fewer e six seven = omega (arith, ap length e)

pub coalescing_refutes_joining_the_donor_below : Coalescing joins_donor_below → ⊥
coalescing_refutes_joining_the_donor_below promised =
    let u = over_donor in
    let g = (promised above.words above.heap u.passes).free 80 (start ∷ lowest ∷ []) donor freed next last u.chain freed_held in
    fewer (g.alone u.not_ordinary u.not_free) six_left refl
