use Rattle.lf_grammar.specs.Places.{context_of}
use Rattle.lf_promises.proofs.FactLemmas.{reads-fine}
use Rattle.lf_promises.proofs.TopicLemmas.{reads-asked}
use Rattle.lf_promises.proofs.reading.read_promise.Goals as goal

pub returns-in-Ok-default-empty-clause-facts : goal.returns-in-Ok-default-empty-clause-facts
returns-in-Ok-default-empty-clause-facts c =
    let read = c.in-Ok-default-empty in
    reads-fine (context_of c.args.place.now) c.args.tokens.now read.field-0-1.now read.promise read.ensures.read

pub returns-in-Ok-default-empty-clause-asked : goal.returns-in-Ok-default-empty-clause-asked
returns-in-Ok-default-empty-clause-asked c =
    let read = c.in-Ok-default-empty in
    reads-asked (context_of c.args.place.now) c.args.tokens.now read.field-0-1.now read.promise read.ensures.read
