use Rattle.std.proofs.Common.{◌≡◌, drop}
use Rattle.std.specs.List.{list_all}
use Rattle.lf_grammar.specs.Expressions.{is_not_0}
use Rattle.lf_grammar.proofs.divisors.are_not_0.Given as goal

-- none so far is 0, or no number
abbrev pub invariant-loop-value : goal.invariant-loop-value
invariant-loop-value l = list_all is_not_0 (drop l.value-index l.values) ≡ list_all is_not_0 l.values
