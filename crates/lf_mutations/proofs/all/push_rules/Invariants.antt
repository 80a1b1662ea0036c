use Rattle.std.proofs.Common.{◌≡◌, ◌+◌, ◌++◌, drop}
use Rattle.lf_mutations.specs.Mutations.{mutations_from}
use Rattle.lf_mutations.proofs.all.push_rules.Given as goal

-- with the changes of the rules that are left they are all
abbrev pub invariant-loop-rule : goal.invariant-loop-rule
invariant-loop-rule l =
    record {
      number : l.number ≡ l.first + l.rule-index;
      all : l.all.items ++ mutations_from l.deep l.number (drop l.rule-index l.rules) ≡ l.initial.all.items ++ mutations_from l.deep l.first l.rules;
    }
