use Rattle.std.proofs.Common.{◌-◌, ◌^◌, ap, ◌∙◌, arith}
use Rattle.std.proofs.lemmas.Nat.{one_shl}
use Rattle.lf_rule_machine.proofs.SetsLemmas.{below-is}
use Rattle.lf_rule_machine.proofs.sets.below.Goals as goal

pub returns-clause-value : goal.returns-clause-value
returns-clause-value c =
    ap (λ x. x - 1) (one_shl c.min-count.result 64 (omega (arith, c.min-count.ensures))) ∙ ap (λ k. 2 ^ k - 1) c.min-count.ensures ∙ below-is c.args.end
