use Rattle.std.specs.Arc.{arc_value}
use Rattle.lf_book.specs.Books.{scenario_of}
use Rattle.lf_pool.specs.Solved.{IsEnded}
use Rattle.lf_pool.specs.declared.finish.Ended.TheVariants as ended
use Rattle.lf_pool.proofs.SolvedLemmas.{solved-same}
use Rattle.lf_pool.proofs.solving.solve.Goals as goal

pub returns-in-Finished-clause-solved : goal.returns-in-Finished-clause-solved
returns-in-Finished-clause-solved g c =
    let s = arc_value c.args.scenario in
    let book = c.in-Finished.book in
    let is : IsEnded s (ended.Finished book) = rw c.in-Finished.is at c.in_ok-book.ensures.ended in
    solved-same s (scenario_of book) is.0 c.answer_of.result c.answer_of.ensures
