use Rattle.std.proofs.Common.{◌≡◌, take, false}
use Rattle.std.specs.List.{list_any}
use Rattle.lf_rules.specs.Trees.{has_it}
use Rattle.lf_rules.proofs.rule_forms.have_it.Given as goal

-- it stands in none of those so far
abbrev pub invariant-loop-value : goal.invariant-loop-value
invariant-loop-value l = list_any has_it (take l.value-index l.values) ≡ false
