use Rattle.std.proofs.Common.{◌≡◌, take}
use Rattle.lf_own_scenario.proofs.copying.copied_names.Given as goal

-- the names so far are copied
abbrev pub invariant-names : goal.invariant-names
invariant-names l = l.copies.items ≡ take l.name-index l.names
