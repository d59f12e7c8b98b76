-- The fourteen proved cases of the document hold, and those of the donor, of the order in bins and of the fit: the checker computes them. Assumes nothing.
use mathlib.Core.Path.{◌≡◌, refl}
use mathlib.Core.Bool.{true}
use Prim.Native.Nat.{ℕ}
use Rattle.lists.specs.Lists.{every}
use Rattle.region.specs.Words.{word, store}
use Rattle.record.specs.Table.{valid_table}
use Rattle.rules.specs.Shape.{shape, members}
use Rattle.rules.specs.Kinds.{in_use, kind_at}
use Rattle.rules.specs.Check.{passes_as, passes}
use Rattle.rules.specs.Serve.{chosen}
use Rattle.rules.specs.Draft.{as_read, leave, put_between, put_into, leave_bin, put_in_bin, settle, relink}
use Rattle.rules.specs.Cut.{cut, grant_at, grant_from}
use Rattle.rules.specs.Join.{joining, moved_down, release}
use Rattle.rules.specs.Setup.{setup}
use Rattle.rules.specs.Allocate.{allocate, allocate_cleared}
use Rattle.rules.specs.Free.{free_block, free}
use Rattle.rules.specs.Reallocate.{resized, resize, reallocate}
use Rattle.rules.specs.Merge.{set_merge, checked, check}
use Rattle.rules.specs.Ask.{ask_chunk, ask_bin}
use Rattle.rules.specs.Patrol.{skips, broken, next_of, mends, patrol_run, patrol}
use Rattle.rules.specs.Calls.{step, next}
use Rattle.rules.specs.Cases.{cases, donor_cases, order_cases, fit_cases, case_holds}

-- `unfolding computes` opens every definition by which a call's outcome is computed
unfoldable pub computes : ℕ
unfolding word store valid_table shape members in_use kind_at passes_as passes chosen as_read leave put_between put_into leave_bin put_in_bin settle relink cut grant_at grant_from joining moved_down release setup allocate allocate_cleared free_block free resized resize reallocate set_merge checked check ask_chunk ask_bin skips broken next_of mends patrol_run patrol step next
computes = 0

pub marked_cases : every case_holds cases ≡ true
unfolding computes case_holds
marked_cases = refl

pub donor_cases_lem : every case_holds donor_cases ≡ true
unfolding computes case_holds
donor_cases_lem = refl

pub order_cases_lem : every case_holds order_cases ≡ true
unfolding computes case_holds
order_cases_lem = refl

pub fit_cases_lem : every case_holds fit_cases ≡ true
unfolding computes case_holds
fit_cases_lem = refl
