use Rattle.lf_sim.specs.Settings.{world_of}
use Rattle.lf_cone.specs.Cones.{IsRequired}
use Rattle.lf_cone.specs.Places.{pause_row, place_at, IsGathered}
use Rattle.lf_cone.proofs.required.put_pauses.Given as goal

abbrev pub invariant-loop-node : goal.invariant-loop-node
invariant-loop-node g l =
    IsGathered (IsRequired (world_of l.setting) l.view.effects.set l.setting.spec l.view.reach l.view.marks.faults.now)
    (place_at (pause_row l.step) l.node) l.found.items
