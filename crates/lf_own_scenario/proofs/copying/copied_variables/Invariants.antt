use Rattle.std.proofs.Common.{◌≡◌, take}
use Rattle.lf_own_scenario.proofs.copying.copied_variables.Given as goal

-- the variables so far are copied
abbrev pub invariant-variables : goal.invariant-variables
invariant-variables l = l.copies.items ≡ take l.variable-index l.variables
