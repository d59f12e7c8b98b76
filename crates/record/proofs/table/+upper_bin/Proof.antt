-- `table::upper_bin` halves a range that has the bin of the size until one bin is left. The measure is the depth, which is never 0
-- (`depth_some`) and falls with each call: so a search of a whole table makes 5 calls at most (`five_deep`). Assumes nothing.
use Prim.Native.Nat.{ℕ, ◌+◌, ◌/◌, ◌<◌}
use native.Mathlib.Omega.{arith}
use borrow.Fn.Kinds.{In}
use borrow.Fn.PlainCycle.{Measures, is, falls, and}
use Rattle.record.proofs.HalvingLaws.{depth, depth_falls, only_bin, not_after, after, narrowed}
use Rattle.record.proofs.table.upper_bin.Reads as upper_bin_here
use Rattle.record.proofs.table.upper_bin.Kinds as upper_bin_kinds
use Rattle.record.proofs.table.+upper_bin.Lts-upper_bin as upper_bin_lts
use Rattle.record.proofs.table.+upper_bin.{statement}
use Rattle.record.proofs.table.+upper_bin.Tie.{close}

-- of table, size, low and width the last
abbrev μ_upper_bin : Measures 2 upper_bin_kinds.ps ℕ
μ_upper_bin κs a = depth a.1.1.1.0

abbrev upper_bin_at : ℕ → In 2 upper_bin_kinds.ps
upper_bin_at t = and 2 upper_bin_kinds.ps (is 2 upper_bin_kinds.ps μ_upper_bin t) upper_bin_here.Pre

abbrev upper_bin_below : ℕ → In 2 upper_bin_kinds.ps
upper_bin_below t =
    and 2 upper_bin_kinds.ps (falls 2 upper_bin_kinds.ps ◌<◌ μ_upper_bin t) upper_bin_here.Pre

-- the upper half has the bin: it is found, or searched for there
in_upper : (t : ℕ) → upper_bin_lts.Need-returns-then-rest-le1 (upper_bin_below t, upper_bin_here.Post) (upper_bin_at t) upper_bin_here.Post
in_upper t c =
    let a = c.before.before.before.before.args in
    let k = c.before.before.before.before.requires.1 in
    let here = not_after k (a.low + a.width / 2) (omega (arith, k.inside, k.from, k.below)) (omega (arith, c.before.if-sizes-middle.true)) in
    only_bin k (omega arith) (omega (arith, k.below, c.if-rest-le1.true))

upper_searched : (t : ℕ) → upper_bin_lts.Need-upper_bin-requires (upper_bin_below t, upper_bin_here.Post) (upper_bin_at t) upper_bin_here.Post
upper_searched t c κs =
    let a = c.before.before.before.before.args in
    let (deep, k) = c.before.before.before.before.requires in (
      depth_falls deep (omega (arith, c.if-rest-le1.false)) (omega arith),
      let here = not_after k (a.low + a.width / 2) (omega (arith, k.inside, k.from, k.below)) (omega (arith, c.before.if-sizes-middle.true)) in
          narrowed k (omega (arith, k.inside)) (omega arith) (omega (arith, k.below)),
    )

-- the lower half has it
in_lower : (t : ℕ) → upper_bin_lts.Need-returns-then-half-le1 (upper_bin_below t, upper_bin_here.Post) (upper_bin_at t) upper_bin_here.Post
in_lower t c =
    let a = c.before.before.before.before.args in
    let k = c.before.before.before.before.requires.1 in
    let there = after k (a.low + a.width / 2) (omega (arith, k.inside, k.from, k.below)) (omega (arith, c.before.if-sizes-middle.false)) in
    only_bin k (omega (arith, k.from)) (omega (arith, c.if-half-le1.true))

lower_searched : (t : ℕ) → upper_bin_lts.Need-upper_bin-requires-2 (upper_bin_below t, upper_bin_here.Post) (upper_bin_at t) upper_bin_here.Post
lower_searched t c κs =
    let a = c.before.before.before.before.args in
    let (deep, k) = c.before.before.before.before.requires in (
      depth_falls deep (omega (arith, c.if-half-le1.false)) (omega arith),
      let there = after k (a.low + a.width / 2) (omega (arith, k.inside, k.from, k.below)) (omega (arith, c.before.if-sizes-middle.false)) in
          narrowed k (omega (arith, k.inside)) (omega (arith, k.from)) (omega arith),
    )

pub +upper_bin_spec : {M : Type 1} → statement M
+upper_bin_spec =
    close
    μ_upper_bin
    λ t. upper_bin_lts.spec
    (upper_bin_below t, upper_bin_here.Post)
    (upper_bin_at t)
    upper_bin_here.Post
    (λ c. let k = c.requires.1 in omega (arith, k.inside, k.valid.few))
    (λ c. let k = c.before.requires.1 in omega (arith, k.inside, k.valid.few))
    (λ c. let k = c.before.before.requires.1 in omega (arith, k.inside, k.from, k.below))
    (λ c. omega arith)
    (in_upper t)
    (upper_searched t)
    (λ c. c.upper_bin.ensures)
    (in_lower t)
    (lower_searched t)
    (λ c. c.upper_bin-2.ensures)
