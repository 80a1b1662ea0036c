use Rattle.lf_sim.specs.Settings.{world_of}
use Rattle.lf_sim.specs.Changes.{Covers, IsOnItsWay}
use Rattle.lf_sim.proofs.change.Change.carry_step.Given as goal

-- the nodes so far are done
abbrev pub invariant-loop-node : goal.invariant-loop-node
invariant-loop-node g l =
    let w = world_of l.self.setting.now in
    record {
      way : IsOnItsWay w l.self.from.now l.self.to.now.set l.run l.step l.node;
      covers : Covers w l.self.from.now l.self.to.now.set l.run l.marks.points;
    }
