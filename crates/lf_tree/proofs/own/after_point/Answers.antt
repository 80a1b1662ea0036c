use Rattle.std.proofs.Common.{refl}
use Rattle.std.specs.Prelude.{codes}
use Rattle.std.specs.Fmt.{decimal}
use Rattle.lf_faults.specs.Texts.{node_at_step}
use Rattle.lf_tree.specs.Rests.{left_of}
use Rattle.lf_tree.proofs.RestLemmas.{skip-three}
use Rattle.lf_tree.proofs.own.after_point.Goals as goal

pub returns : goal.returns
returns c =
    skip-three (decimal c.args.node) (codes " @") (decimal c.args.step) (node_at_step c.args.node c.args.step) (left_of c.args.left)
    (left_of c.after_number-left.result) (left_of c.after-left.result) (left_of c.after_number.result) refl c.after_number-left.ensures c.after-left.ensures
    c.after_number.ensures
