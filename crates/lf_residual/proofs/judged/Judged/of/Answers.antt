use Rattle.std.proofs.Common.{ap, ◌∙◌}
use Rattle.lf_outcome.specs.declared.formula.Formula.{Formula}
use Rattle.lf_outcome.specs.Unfolding.{is_plain}
use Rattle.lf_outcome.proofs.Laws.{plain-unfolded}
use Rattle.lf_protocols.specs.declared.fact.Fact.{Fact}
use Rattle.lf_residual.proofs.judged.Judged.of.Goals as goal

pub put_truths-requires-clause-plain : goal.put_truths-requires-clause-plain
put_truths-requires-clause-plain c = ap (λ (f : Formula Fact). is_plain f) c.in_ok-formula.ensures ∙ plain-unfolded c.args.formula.now 0
