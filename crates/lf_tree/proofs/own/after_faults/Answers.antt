use Rattle.std.proofs.Common.{arith}
use Rattle.lf_tree.specs.Rests.{left_of, skip}
use Rattle.lf_tree.specs.Texts.{faults_text, quoted}
use Rattle.lf_tree.proofs.RestLemmas.{skip-first, skip-more}
use Rattle.lf_tree.proofs.own.after_faults.Goals as goal

pub faults-init : goal.faults-init
faults-init c = skip-first quoted c.args.faults.now (left_of c.args.left) (left_of c.after-left.result) c.after-left.ensures

pub faults-preserved : goal.faults-preserved
faults-preserved c =
    skip-more quoted c.args.faults.now c.faults.i c.index-faults-i.result c.index-faults-i.result (left_of c.faults.left) (left_of c.after_comma-next.result)
    (left_of c.after_fault-left.result) (skip (faults_text c.args.faults.now) (left_of c.args.left)) (omega arith) c.index-faults-i.is c.faults.invariant
    c.after_comma-next.ensures c.after_fault-left.ensures
