use Rattle.std.proofs.Common.{rules}
use Rattle.lf_rule_machine.specs.Constants.{given_table}
use Rattle.lf_own_scenario.proofs.RangeLemmas.{formula-of}
use Rattle.lf_own_scenario.proofs.outcomes.demand_of.Goals as goal

pub returns-in-Ok-clause-fits : goal.returns-in-Ok-clause-fits
returns-in-Ok-clause-fits c =
    formula-of
    (record {
      definition = c.args.file.now.definition;
      nodes = c.args.bounds.now.nodes;
      given = given_table c.args.bounds.now.nodes c.args.given.now;
      topics = c.in-Ok.topics;
    })
    c.args.bounds.now c.scene_of-scene.result c.args.promise.now c.in_ok-formula.formula c.requires.limits (search rules) (search rules) c.in-Ok.ensures
    c.requires.facts c.in_ok-formula.ensures.formula
