use Rattle.std.proofs.Common.{◌+◌, min, ap, ◌∙◌}
use Rattle.lf_rule_machine.specs.Sets.{without, below}
use Rattle.lf_rule_machine.proofs.SetsLemmas.{between-is}
use Rattle.lf_rule_machine.proofs.sets.between.Goals as goal

pub returns-clause-value : goal.returns-clause-value
returns-clause-value c =
    c.without.ensures.value
    ∙ ap (λ x. without x c.below-2.result) c.below.ensures.value
    ∙ ap (λ y. without (below c.min.result) y) c.below-2.ensures.value
    ∙ ap (λ m. without (below m) (below c.args.first)) c.min.ensures
    ∙ ap (λ m. without (below (min (m + 1) c.args.nodes)) (below c.args.first)) c.min-end.ensures
    ∙ between-is c.args.nodes c.args.first c.args.last
