use Rattle.std.proofs.Common.{◌≡◌, ◌++◌, drop}
use Rattle.std.specs.List.{flat_map}
use Rattle.lf_doubt.specs.Questions.{rule_asked}
use Rattle.lf_doubt.proofs.list.push_rules.Given as goal

-- what is asked, and the changes still to come
abbrev pub invariant-loop-mutation : goal.invariant-loop-mutation
invariant-loop-mutation l =
    l.questions.items ++ flat_map (rule_asked l.ground) (drop l.mutation-index l.mutations)
    ≡ l.initial.questions.items ++ flat_map (rule_asked l.ground) l.mutations
