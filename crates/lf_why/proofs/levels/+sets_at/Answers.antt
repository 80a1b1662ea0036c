use Rattle.std.proofs.Common.{arith}
use Rattle.lf_why.proofs.Counted.{all_counted}
use Rattle.lf_why.proofs.levels.+sets_at.Goals as goal

pub returns-after-kids : goal.returns-after-kids
returns-after-kids t c =
    all_counted c.args.node.now c.in-Branch-2.reach c.in-Branch-2.edges c.in-Branch-2.kids c.as_slice-kid-items.result.now c.args.level c.kids.kid-index
    c.kids.count c.in-Branch-2.is c.as_slice-kid-items.ensures (omega arith) (omega arith) c.kids.invariant
