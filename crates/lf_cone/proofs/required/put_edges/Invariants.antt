use Rattle.lf_sim.specs.Settings.{world_of}
use Rattle.lf_cone.specs.Cones.{IsRequired}
use Rattle.lf_cone.specs.Places.{sender_row, place_at, IsGathered}
use Rattle.lf_cone.proofs.required.put_edges.Given as goal

abbrev pub invariant-loop-step : goal.invariant-loop-step
invariant-loop-step g l =
    IsGathered (IsRequired (world_of l.setting) l.view.effects.set l.setting.spec l.view.reach l.view.marks.faults.now)
    (place_at (sender_row 0 l.step) 0) l.found.items
