use Rattle.std.proofs.Common.{arith, refl}
use Rattle.lf_tree.specs.Texts.{quoted}
use Rattle.lf_tree.proofs.LengthLemmas.{length-all}
use Rattle.lf_tree.proofs.size.faults_length.Goals as goal

pub returns : goal.returns
returns c =
    length-all quoted c.args.faults.now c.args.faults.now c.faults.fault-index c.faults.items c.list_length.result refl (omega arith)
    c.faults.invariant c.list_length.ensures
