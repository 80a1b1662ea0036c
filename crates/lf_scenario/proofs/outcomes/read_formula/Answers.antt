use Rattle.toml.specs.View.{view}
use Rattle.lf_scenario.specs.declared.key.Key.TheVariants as keys
use Rattle.lf_scenario.proofs.ReadRanges.{formula_fits-where}
use Rattle.lf_scenario.proofs.outcomes.read_formula.Goals as goal

pub returns-in-Some-clause-fits : goal.returns-in-Some-clause-fits
returns-in-Some-clause-fits c =
    formula_fits-where c.args.described.now.protocol c.args.described.now.bounds c.requires.bounds c.requires.limits c.requires.nodes
    keys.Outcome (view c.in-Some.value.now) c.outcome_in.result c.outcome_in.ensures.ok
