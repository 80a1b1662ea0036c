use Rattle.std.proofs.Common.{◌≡◌, take}
use Rattle.lf_own_scenario.proofs.copying.copied_values.Given as goal

-- the values so far are copied
abbrev pub invariant-values : goal.invariant-values
invariant-values l = l.copies.items ≡ take l.value-index l.values
