-- What a checker is to say of a tree.
use Rattle.lf_faults.specs.declared.spec.Bounds.{Bounds}
use Rattle.lf_sim.specs.Runs.{World}
use Rattle.lf_outcome.specs.declared.formula.Formula.{Formula}
use Rattle.lf_tree.specs.declared.tree.Tree.{Tree}
use Rattle.lf_certificate.specs.Accepted.{IsAccepted}
use Rattle.lf_certificate.specs.Faults.{IsFirstFault}
use Rattle.lf_check.specs.declared.verdict.Verdict.{Verdict}
use Rattle.lf_check.specs.declared.verdict.Verdict.TheVariants.{Yes, No}

-- yes, where the tree is accepted, and else no with its first fault
abbrev pub IsVerdict : {State Note Fact : Type 0} → World State Note Fact → Bounds → Formula Fact → Tree → Verdict → Type 0
IsVerdict w b formula tree Yes = IsAccepted w b formula tree
IsVerdict w b formula tree (No why path) = IsFirstFault w b formula tree why path.items
