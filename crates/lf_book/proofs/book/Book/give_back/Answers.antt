use Rattle.std.specs.Arc.{arc_value}
use Rattle.lf_book.specs.Books.{task_of_job}
use Rattle.lf_book.proofs.FilingLemmas.{refused_is_none}
use Rattle.lf_book.proofs.book.Book.give_back.Goals as goal

pub returns-in-Some-clause-refused : goal.returns-in-Some-clause-refused
returns-in-Some-clause-refused c =
    let j = c.args.job in
    refused_is_none c.args.self.now j.ticket (arc_value j.scenario) j.path.items (task_of_job j) c.in-Some._refusal c.in-Some.ensures
