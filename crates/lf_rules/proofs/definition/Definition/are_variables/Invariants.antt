use Rattle.std.proofs.Common.{◌≡◌, drop}
use Rattle.lf_rules.specs.Forms.{are_variables}
use Rattle.lf_rules.proofs.definition.Definition.are_variables.Given as goal

-- what is left to be seen of the variables
abbrev pub invariant-loop-i : goal.invariant-loop-i
invariant-loop-i l = are_variables l.self l.i (drop l.i l.self.variables) ≡ are_variables l.self 0 l.self.variables
