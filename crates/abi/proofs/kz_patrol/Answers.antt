-- A run by its rule, on the record that the words say. Assumes nothing.
use Rattle.std.proofs.Common.{refl}
use Rattle.rules.specs.Patrol.{patrol}
use Rattle.abi.specs.Flat.{record_in}
use Rattle.abi.proofs.HandedLaws.{patrols, patrol_refused}
use Rattle.abi.proofs.kz_patrol.Goals as goal

pub returns-in-Ok : goal.returns-in-Ok
unfolding record_in
returns-in-Ok c =
    let a = c.args in
    let h = record_in a.state.now in
    patrols a.region.now a.state.now (patrol a.region.now h a.chunks) h (c.in-Ok.ensures h refl refl) c.tell.ensures

pub returns-in-Err : goal.returns-in-Err
unfolding record_in
returns-in-Err c =
    let a = c.args in
    let h = record_in a.state.now in
    patrol_refused a.region.now a.state.now (patrol a.region.now h a.chunks) h refl (c.in-Err.ensures h refl refl) c.tell-in-Err.ensures
