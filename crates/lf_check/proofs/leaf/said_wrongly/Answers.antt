use Rattle.std.proofs.Common.{true, sym, ap, ◌∙◌}
use Rattle.lf_check.specs.Nodes.{said_wrongly}
use Rattle.lf_check.proofs.leaf.said_wrongly.Goals as goal

pub returns-then-says : goal.returns-then-says
returns-then-says c = sym (ap (λ says. said_wrongly says c.args.reaches) c.if-says.true ∙ ap (said_wrongly true) c.if-reaches.false)
