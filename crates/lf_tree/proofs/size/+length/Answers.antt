use Rattle.std.proofs.Common.{arith, refl}
use Rattle.lf_tree.specs.Texts.{node_text}
use Rattle.lf_tree.proofs.LengthLemmas.{length-all, length-Branch}
use Rattle.lf_tree.proofs.size.+length.Goals as goal

pub kids_length-returns : goal.kids_length-returns
kids_length-returns t c =
    length-all node_text c.args.kids.now c.args.kids.now c.kids.kid-index c.kids.items c.list_length.result refl (omega arith)
    c.kids.invariant c.list_length.ensures

pub node_length-returns-in-Branch : goal.node_length-returns-in-Branch
node_length-returns-in-Branch t c =
    omega (
      arith,
      length-Branch c.args.node.now c.in-Branch.reach c.in-Branch.edges c.as_slice.result.now c.in-Branch.kids
          c.as_slice-in-Branch.result.now c.in-Branch.is c.as_slice.ensures c.as_slice-in-Branch.ensures,
    )
