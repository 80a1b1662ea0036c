use Rattle.std.proofs.Common.{◌<◌, sym, ◌∙◌, arith}
use Rattle.lf_sim.specs.Settings.{world_of}
use Rattle.lf_sim.proofs.WaysLemmas.{way_pass}
use Rattle.lf_sim.proofs.change.Change.carry_step.Goals as goal
use Rattle.lf_sim.proofs.change.Change.carry_step.Goals.{then-has, else-has}

pub loop-node-preserved : goal.loop-node-preserved
loop-node-preserved g c =
    let w = world_of c.args.self.now.setting.now in
    let from = c.args.self.now.from.now in
    let to = c.args.self.now.to.now.set in
    let inv = c.loop-node.invariant in
    let node : c.loop-node.node < w.rules.nodes =
    omega (arith, c.loop-node-test.true, c.nodes-node-end.ensures.value, c.args.self.now.setting.now.nodes_agree) in
    elim c.if-has.branch [
      | then-has b ↦ record { way = rw b.run-is b.carry_point.ensures.way; covers = rw (b.run-is, b.marks-is) b.carry_point.ensures.marks }
      | else-has b ↦
          record {
            way = rw b.run-is
                (way_pass w from to c.loop-node.run c.loop-node.marks.points c.args.step c.requires.first c.requires.last inv.covers c.loop-node.node node
                (sym c.has.ensures ∙ b.if-has.false) inv.way);
            covers = rw (b.run-is, b.marks-is) inv.covers;
          }
    ]
