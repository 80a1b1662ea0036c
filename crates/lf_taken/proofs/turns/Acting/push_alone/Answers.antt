use Rattle.std.proofs.Common.{◌++◌, ap}
use Rattle.std.proofs.lemmas.Result.{IfOk-equal}
use Rattle.lf_rule_machine.specs.Moments.{Moment, seen}
use Rattle.lf_rule_machine.specs.Machines.{moment, no_fields}
use Rattle.lf_rule_machine.specs.Events.{act}
use Rattle.lf_taken.specs.Numbers.{taken_in}
use Rattle.lf_taken.proofs.turns.Acting.push_alone.Goals as goal

pub returns-clause-turn : goal.returns-clause-turn
returns-clause-turn c =
    let m = c.args.self.now.ruled.now in
    let of = λ (at : Moment). act m.definition at c.args.event c.args.turn.now in
    IfOk-equal c.push.result c.push.new.turn (of (seen c.moment-at.result)) (of (moment m.nodes m.given c.args.self.now.node c.args.self.now.t 0 no_fields))
    c.push.ensures.turn (ap of c.moment-at.ensures)

pub returns-clause-taken : goal.returns-clause-taken
returns-clause-taken c =
    let m = c.args.self.now.ruled.now in
    let of = λ (at : Moment). c.args.taken.now.items ++ taken_in m.definition at c.args.event c.args.turn.now in
    IfOk-equal c.push.result c.push.new.taken.items (of (seen c.moment-at.result))
    (of (moment m.nodes m.given c.args.self.now.node c.args.self.now.t 0 no_fields))
    c.push.ensures.taken (ap of c.moment-at.ensures)
