use Rattle.lf_tree.proofs.KindLemmas.{pause-rest}
use Rattle.lf_tree.proofs.pauses.+pause.Goals as goal

pub node_has_pause-returns-else-some_is_pause : goal.node_has_pause-returns-else-some_is_pause
node_has_pause-returns-else-some_is_pause t c =
    pause-rest c.args.node.now c.in-Branch.reach c.in-Branch.edges c.as_slice.result.now c.in-Branch.kids
    c.as_slice-else-some_is_pause.result.now c.some_is_pause.result c.some_has_pause.result c.in-Branch.is c.as_slice.ensures
    c.as_slice-else-some_is_pause.ensures c.some_is_pause.ensures c.if-some_is_pause.false c.some_has_pause.ensures
