use Rattle.std.proofs.Common.{rules}
use Rattle.lf_tree.specs.Trees.{is_fault}
use Rattle.lf_tree.proofs.Kept.{all-next}
use Rattle.lf_tree.proofs.Named.{true-IsFault}
use Rattle.lf_tree.proofs.facts.faults_are_kept.Goals as goal

pub faults-preserved : goal.faults-preserved
faults-preserved c =
    all-next is_fault c.args.faults.now c.faults.fault-index c.fault-item.result (search rules) c.fault-item.is c.faults.invariant
    (true-IsFault c.fault-item.result c.parts-parts.ensures.in_range)
