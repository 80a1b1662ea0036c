use Rattle.std.proofs.Common.{◌≡◌, ◌++◌, ap, ◌∙◌}
use Rattle.std.specs.List.{fold}
use Rattle.std.proofs.lemmas.Result.{IfOk-equal}
use Rattle.lf_rule_machine.specs.Moments.{seen, given_here}
use Rattle.lf_rule_machine.specs.Events.{act}
use Rattle.lf_rule_machine.specs.Choices.{take_at, chosen}
use Rattle.lf_rule_machine.proofs.Laws.{chosen-acts}
use Rattle.lf_taken.specs.Numbers.{taken_through, taken_in}
use Rattle.lf_taken.proofs.numbers.act.Goals as goal

pub returns-clause-turn : goal.returns-clause-turn
returns-clause-turn c =
    let d = c.args.definition.now in
    let at = seen c.args.at.now in
    let numbers : c.as_slice.result.now ≡ chosen d at.nodes at.me (given_here at) c.args.event =
    c.as_slice.ensures.value ∙ c.in_ok-numbers.ensures ∙ ap (λ given. chosen d at.nodes at.me given c.args.event) c.given_here.ensures in
    IfOk-equal c.take_all.result c.take_all.new.turn (fold (take_at d at) c.args.turn.now c.as_slice.result.now) (act d at c.args.event c.args.turn.now)
    c.take_all.ensures.turn (ap (fold (take_at d at) c.args.turn.now) numbers ∙ chosen-acts d at c.args.event c.args.turn.now)

pub returns-clause-taken : goal.returns-clause-taken
unfolding taken_in
returns-clause-taken c =
    let d = c.args.definition.now in
    let at = seen c.args.at.now in
    let numbers : c.as_slice.result.now ≡ chosen d at.nodes at.me (given_here at) c.args.event =
    c.as_slice.ensures.value ∙ c.in_ok-numbers.ensures ∙ ap (λ given. chosen d at.nodes at.me given c.args.event) c.given_here.ensures in
    IfOk-equal c.take_all.result c.take_all.new.taken.items (c.args.taken.now.items ++ taken_through d at c.args.turn.now c.as_slice.result.now)
    (c.args.taken.now.items ++ taken_in d at c.args.event c.args.turn.now)
    c.take_all.ensures.taken (ap (λ ns. c.args.taken.now.items ++ taken_through d at c.args.turn.now ns) numbers)
