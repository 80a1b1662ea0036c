use Rattle.std.proofs.Common.{◌++◌, ap}
use Rattle.std.proofs.lemmas.Result.{IfOk-equal}
use Rattle.lf_rules.specs.declared.definition.Definition.{Definition}
use Rattle.lf_rule_machine.specs.Moments.{seen}
use Rattle.lf_rule_machine.specs.Events.{act}
use Rattle.lf_taken.specs.Numbers.{taken_in}
use Rattle.lf_taken.proofs.NumbersLemmas.{few_rules}
use Rattle.lf_taken.proofs.turns.Acting.push.Goals as goal

pub act-requires : goal.act-requires
act-requires c = record { few = few_rules c.definition.result.now c.definition.ensures.well_formed }

pub returns-clause-turn : goal.returns-clause-turn
returns-clause-turn c =
    let of = λ (d : Definition). act d (seen c.args.at.now) c.args.event c.args.turn.now in
    IfOk-equal c.act.result c.act.new.turn (of c.definition.result.now) (of c.args.self.now.ruled.now.definition)
    c.act.ensures.turn (ap of c.definition.ensures.value)

pub returns-clause-taken : goal.returns-clause-taken
returns-clause-taken c =
    let of = λ (d : Definition). c.args.taken.now.items ++ taken_in d (seen c.args.at.now) c.args.event c.args.turn.now in
    IfOk-equal c.act.result c.act.new.taken.items (of c.definition.result.now) (of c.args.self.now.ruled.now.definition)
    c.act.ensures.taken (ap of c.definition.ensures.value)
