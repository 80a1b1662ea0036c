use Rattle.std.proofs.Common.{◌≡◌, ◌+◌, ◌++◌, drop, take}
use Rattle.lf_rules.specs.Forms.{rules_in}
use Rattle.lf_mutations.specs.Mutations.{mutations, mutations_from, rules_of}
use Rattle.lf_mutations.proofs.all.mutations.Given as goal

-- with the changes of the chains that are left they are all
abbrev pub invariant-loop-chain : goal.invariant-loop-chain
invariant-loop-chain l =
    record {
      number : l.number ≡ 1 + rules_in (take l.chain-index l.chain-items);
      all : l.all.items ++ mutations_from l.deep l.number (rules_of (drop l.chain-index l.chain-items)) ≡ mutations l.rules l.deep;
    }
