use Rattle.lf_outcome.specs.Outcomes.{outcome_word, outcomes_of}
use Rattle.lf_outcome.proofs.WordsLemmas.{found-named}
use Rattle.lf_outcome.proofs.words.outcome_named.Goals as goal

pub returns-clause-some : goal.returns-clause-some
returns-clause-some c =
    rw (c.first_named.ensures, c.outcomes.ensures, c.kind.ensures.value) (found-named outcome_word c.args.word.now (outcomes_of c.args.protocol.now))
