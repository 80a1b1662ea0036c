use Rattle.std.proofs.Common.{arith}
use Rattle.lf_tree.proofs.LengthLemmas.{length-tree}
use Rattle.lf_tree.proofs.size.text_length.Goals as goal

pub returns : goal.returns
returns c = omega (arith, length-tree c.args.tree.now)
