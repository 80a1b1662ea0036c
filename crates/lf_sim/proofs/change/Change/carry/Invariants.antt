use Rattle.lf_sim.specs.Settings.{world_of}
use Rattle.lf_sim.specs.Changes.{Covers, IsOnItsWay}
use Rattle.lf_sim.proofs.change.Change.carry.Given as goal

-- the steps so far are done
abbrev pub invariant-loop-step : goal.invariant-loop-step
invariant-loop-step g l =
    let w = world_of l.self.setting.now in
    record {
      way : IsOnItsWay w l.self.from.now l.self.to.now.set l.run l.step 0;
      covers : Covers w l.self.from.now l.self.to.now.set l.run l.marks.points;
    }
