use Rattle.std.proofs.Common.{ap, ◌∙◌}
use Rattle.std.specs.Arc.{arc_value}
use Rattle.lf_rule_machine.specs.Machines.{shows_of}
use Rattle.lf_rule_machine.proofs.machine.RuledMachine.shows.Goals as goal

pub returns : goal.returns
returns c =
    c.shows.ensures
    ∙ ap (λ x. shows_of (arc_value x.rules) x.nodes x.given c.args.node c.args.state c.args.fact) c.deref.ensures
    ∙ ap (λ m. shows_of m.definition m.nodes m.given c.args.node c.args.state c.args.fact) c.self.view_is
