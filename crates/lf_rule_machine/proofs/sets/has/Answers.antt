use Rattle.std.proofs.Common.{sym, ◌∙◌}
use Rattle.std.proofs.lemmas.Bool.{le-ltb}
use Rattle.lf_rule_machine.proofs.SetsLemmas.{has-code, has-far}
use Rattle.lf_rule_machine.proofs.sets.has.Goals as goal

pub returns-then-node-lt8 : goal.returns-then-node-lt8
returns-then-node-lt8 c = sym (has-code c.args.set c.args.node c.if-node-lt8.true)

pub returns-else-node-lt8 : goal.returns-else-node-lt8
returns-else-node-lt8 c = le-ltb c.args.node 8 c.if-node-lt8.false ∙ sym (has-far c.args.set c.args.node c.if-node-lt8.false)
