use Rattle.std.proofs.Common.{◌≡◌, ◌++◌, drop, map}
use Rattle.lf_doubt.specs.declared.question.Question.TheVariants as asks
use Rattle.lf_doubt.proofs.list.push_parts.Given as goal

-- what is asked, and the parts still to come
abbrev pub invariant-loop-stake : goal.invariant-loop-stake
invariant-loop-stake l =
    l.questions.items ++ map asks.Part (drop l.stake-index l.stakes) ≡ l.initial.questions.items ++ map asks.Part l.stakes
