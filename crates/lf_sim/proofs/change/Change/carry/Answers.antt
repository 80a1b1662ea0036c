use Rattle.std.proofs.Common.{◌≤◌, refl, arith}
use Rattle.lf_sim.specs.Settings.{world_of}
use Rattle.lf_sim.proofs.WaysLemmas.{way_row, way_next}
use Rattle.lf_sim.proofs.change.Change.carry.Goals as goal
use Rattle.lf_sim.proofs.change.Change.carry.Goals.{then-has_any, else-has_any}

pub loop-step-preserved : goal.loop-step-preserved
loop-step-preserved g c =
    let w = world_of c.args.self.now.setting.now in
    let from = c.args.self.now.from.now in
    let to = c.args.self.now.to.now.set in
    let inv = c.loop-step.invariant in
    let few : w.rules.nodes ≤ 8 = omega (arith, c.args.self.now.setting.now.nodes_agree, c.horizon-step-end.ensures.limits.nodes.1) in
    let last : c.loop-step.step ≤ w.horizon = omega (arith, c.loop-step-test.true, c.horizon-step-end.ensures.value) in
    elim c.if-has_any.branch [
      | then-has_any b ↦ record { way = rw b.run-is b.carry_step.ensures.way; covers = rw (b.run-is, b.marks-is) b.carry_step.ensures.marks }
      | else-has_any b ↦
          record {
            way = rw b.run-is
                (way_next w from to c.loop-step.run c.loop-step.step w.rules.nodes refl
                (way_row w from to c.loop-step.run c.loop-step.marks.points c.loop-step.step c.loop-step.auto.step last inv.covers
                (λ n node. c.has_any.ensures b.if-has_any.false n (omega (arith, node, few))) inv.way w.rules.nodes (omega arith)));
            covers = rw (b.run-is, b.marks-is) inv.covers;
          }
    ]
