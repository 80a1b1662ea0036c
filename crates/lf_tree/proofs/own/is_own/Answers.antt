use Rattle.lf_tree.specs.Texts.{tree_text}
use Rattle.lf_tree.proofs.RestLemmas.{own-some, own-none}
use Rattle.lf_tree.proofs.own.is_own.Goals as goal

pub returns-in-Some : goal.returns-in-Some
returns-in-Some c =
    own-some (tree_text c.args.tree.now) c.args.bytes.now c.in-Some.left.now c.is_empty.result c.in-Some.ensures c.is_empty.ensures

pub returns-in-None : goal.returns-in-None
returns-in-None c = own-none (tree_text c.args.tree.now) c.args.bytes.now c.in-None.ensures
