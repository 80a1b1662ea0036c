use Rattle.lf_book.specs.Books.{scenario_of, state_of}
use Rattle.lf_book.proofs.HeldLemmas.{held-deepened}
use Rattle.lf_book.proofs.book.Book.reply.Goals as goal

pub returns-in-Deepen-clause-held : goal.returns-in-Deepen-clause-held
returns-in-Deepen-clause-held c =
    let old = c.args.self.now in
    let new = c.deepen.new.self in
    held-deepened (scenario_of old) (scenario_of new) c.deepen.ensures.scenario (state_of old) (state_of new) old.closed c.deepen.result
    c.deepen.ensures.deepened c.args.jobs.now.items c.requires
