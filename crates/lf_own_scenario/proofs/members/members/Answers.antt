use Rattle.std.proofs.Common.{rules, ◌≡◌, ◌++◌, ◌∷◌, []}
use Rattle.lf_own_scenario.specs.Members.{is_in}
use Rattle.lf_own_scenario.proofs.ListLemmas.{range-in, range-out}
use Rattle.lf_own_scenario.proofs.members.members.Goals.{then-is_in+in_ok-push, else-is_in}
use Rattle.lf_own_scenario.proofs.members.members.Goals as goal

pub loop-node-preserved : goal.loop-node-preserved
loop-node-preserved c =
    let p = is_in c.args.scene.now c.args.of.now in
    elim c.if-is_in.branch [
      | then-is_in+in_ok-push w ↦
          let pushed : c.if-is_in.nodes.items ≡ c.loop-node.nodes.items ++ c.loop-node.node ∷ [] = rw w.nodes-is (search rules) in
          range-in p c.loop-node.node c.loop-node.nodes.items c.if-is_in.nodes.items c.is_in.result c.loop-node.invariant c.is_in.ensures w.if-is_in.true pushed
      | else-is_in w ↦
          rw w.nodes-is (range-out p c.loop-node.node c.loop-node.nodes.items c.is_in.result c.loop-node.invariant c.is_in.ensures w.if-is_in.false)
    ]
