use Rattle.std.proofs.Common.{◌≤◌, List, subst, sym}
use Rattle.lf_rules.specs.declared.rule.Chain.{Chain}
use Rattle.lf_rules.specs.Forms.{rules_in}
use Rattle.lf_stakes.proofs.RulesLemmas.{few_rules}
use Rattle.lf_stakes.proofs.counting.rules_of.Goals as goal

pub rules_in-requires : goal.rules_in-requires
rules_in-requires c =
    subst (λ (chains : List Chain). rules_in chains ≤ 128) (sym c.as_slice.ensures) (few_rules c.definition.result.now c.definition.ensures.well_formed)
