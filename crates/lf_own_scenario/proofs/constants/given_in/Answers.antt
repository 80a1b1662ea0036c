use Rattle.std.proofs.Common.{ap, sym, ◌∙◌}
use Rattle.lf_rules.specs.Forms.{is_well_formed}
use Rattle.lf_own_scenario.specs.Constants.{seen}
use Rattle.lf_own_scenario.proofs.FittingLemmas.{found-machine}
use Rattle.lf_own_scenario.proofs.constants.given_in.Goals as goal

pub returns-clause-fitting : goal.returns-clause-fitting
returns-clause-fitting c = λ low high.
    let file = c.args.file.now in
    let formed = ap is_well_formed (sym c.definition.ensures.value) ∙ c.definition.ensures.well_formed in
    found-machine file c.args.nodes (seen c.at.result) c.in_ok-given.given.items formed low high c.in_ok-given.ensures
