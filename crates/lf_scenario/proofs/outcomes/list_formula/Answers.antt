use Rattle.toml.specs.View.{view}
use Rattle.lf_scenario.proofs.ReadRanges.{limited_fits}
use Rattle.lf_scenario.proofs.outcomes.list_formula.Goals as goal

pub returns-clause-fits : goal.returns-clause-fits
returns-clause-fits c =
    limited_fits c.args.described.now.protocol c.args.described.now.bounds c.requires.bounds (view c.args.value.now) _ _ c.in_ok-formula_in.ensures.ok
    c.limited.ensures
