use Rattle.std.proofs.Common.{ap, ◌∙◌}
use Rattle.leastfault.proofs.answering.budget_of.Goals as goal

pub returns : goal.returns
returns c = c.budget.ensures.value ∙ ap (λ x. x.spec.budget) c.setting.ensures ∙ ap (λ x. x.setting.spec.budget) c.scenario.ensures
