use Rattle.std.proofs.Common.{arith}
use Rattle.lf_tree.specs.Rests.{left_of}
use Rattle.lf_tree.proofs.RestLemmas.{no_comma}
use Rattle.lf_tree.proofs.own.after_comma.Goals as goal

pub returns-else-place-gt0 : goal.returns-else-place-gt0
returns-else-place-gt0 c = no_comma c.args.place (left_of c.args.left) (omega arith)
