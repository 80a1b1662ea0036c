use Rattle.std.proofs.Common.{arith}
use Rattle.lf_own_scenario.specs.Members.{is_in}
use Rattle.lf_own_scenario.proofs.ListLemmas.{count-in, count-out}
use Rattle.lf_own_scenario.proofs.members.count_members.Goals.{then-is_in, else-is_in}
use Rattle.lf_own_scenario.proofs.members.count_members.Goals as goal

pub loop-node-preserved : goal.loop-node-preserved
loop-node-preserved c =
    let p = is_in c.args.scene.now c.args.of.now in
    elim c.if-is_in.branch [
      | then-is_in w ↦ record {
        counted = rw w.count-is (count-in p c.loop-node.node c.loop-node.count c.is_in.result c.loop-node.invariant.counted c.is_in.ensures w.if-is_in.true);
        within = omega (arith, w.count-is, c.loop-node.invariant.within);
      }
      | else-is_in w ↦ record {
        counted = rw w.count-is (count-out p c.loop-node.node c.loop-node.count c.is_in.result c.loop-node.invariant.counted c.is_in.ensures w.if-is_in.false);
        within = omega (arith, w.count-is, c.loop-node.invariant.within);
      }
    ]
