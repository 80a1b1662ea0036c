use Rattle.std.proofs.Common.{arith, map}
use Rattle.lf_tree.specs.Rests.{left_of, skip}
use Rattle.lf_tree.specs.Texts.{in_brackets, node_text}
use Rattle.lf_tree.proofs.RestLemmas.{skip-first, skip-more, skip-Misses, skip-Reaches, skip-Branch}
use Rattle.lf_tree.proofs.own.+own.Goals as goal

pub after_kids-kids-init : goal.after_kids-kids-init
after_kids-kids-init t c = skip-first node_text c.args.kids.now (left_of c.args.left) (left_of c.after-left.result) c.after-left.ensures

pub after_kids-kids-preserved : goal.after_kids-kids-preserved
after_kids-kids-preserved t c =
    skip-more node_text c.args.kids.now c.kids.i c.index-kids-i.result c.index-kids-i.result (left_of c.kids.left) (left_of c.after_comma-next.result)
    (left_of c.after_node-left.result) (skip (in_brackets (map node_text c.args.kids.now)) (left_of c.args.left))
    (omega arith) c.index-kids-i.is c.kids.invariant
    c.after_comma-next.ensures c.after_node-left.ensures

pub after_node-returns-in-Misses : goal.after_node-returns-in-Misses
after_node-returns-in-Misses t c = skip-Misses c.args.node.now (left_of c.args.left) (left_of c.after.result) c.in-Misses.is c.after.ensures

pub after_node-returns-in-Reaches : goal.after_node-returns-in-Reaches
after_node-returns-in-Reaches t c =
    skip-Reaches c.args.node.now (left_of c.args.left) (left_of c.after-in-Reaches.result) c.in-Reaches.is c.after-in-Reaches.ensures

pub after_node-returns-in-Branch : goal.after_node-returns-in-Branch
after_node-returns-in-Branch t c =
    skip-Branch c.args.node.now c.in-Branch.reach c.in-Branch.edges c.as_slice.result.now c.in-Branch.kids c.as_slice-in-Branch.result.now (left_of c.args.left)
    (left_of c.after-left.result) (left_of c.after_faults-left.result) (left_of c.after-left-in-Branch.result) (left_of c.after_kids-left.result)
    (left_of c.after-left-in-Branch-2.result) (left_of c.after_reach-left.result) (left_of c.after-in-Branch.result) c.in-Branch.is c.as_slice.ensures
    c.as_slice-in-Branch.ensures c.after-left.ensures c.after_faults-left.ensures c.after-left-in-Branch.ensures c.after_kids-left.ensures
    c.after-left-in-Branch-2.ensures c.after_reach-left.ensures c.after-in-Branch.ensures
