use Rattle.lf_tree.proofs.Kept.{Branch-true}
use Rattle.lf_tree.proofs.facts.+kept.Goals as goal

pub node_is_kept-returns-in-Branch : goal.node_is_kept-returns-in-Branch
node_is_kept-returns-in-Branch t c =
    Branch-true c.args.node.now c.in-Branch.reach c.in-Branch.edges c.as_slice.result.now c.in-Branch.kids c.as_slice-in-Branch.result.now c.in-Branch.is
    c.as_slice.ensures c.as_slice-in-Branch.ensures c.len-count.ensures.within c.faults_are_kept.ensures c.nodes_are_kept.ensures
