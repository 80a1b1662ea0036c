use Rattle.std.proofs.Common.{arith}
use Rattle.lf_tree.proofs.KindLemmas.{count-all}
use Rattle.lf_tree.proofs.counting.+count_node.Goals as goal

pub returns-after-kids : goal.returns-after-kids
returns-after-kids t c =
    count-all c.args.node.now c.in-Branch.reach c.in-Branch.edges c.in-Branch.kids c.as_slice-kid-items.result.now c.kids.kid-index
    c.kids.count c.in-Branch.is c.as_slice-kid-items.ensures (omega arith) c.kids.invariant
