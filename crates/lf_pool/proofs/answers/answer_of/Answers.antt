use Rattle.std.proofs.Common.{refl}
use Rattle.lf_book.specs.Books.{scenario_of}
use Rattle.lf_pool.proofs.SolvedLemmas.{ended-searched}
use Rattle.lf_pool.proofs.answers.answer_of.Goals as goal

pub returns : goal.returns
returns c =
    let m = c.args.book in
    let s = scenario_of m in
    record {
      answer = c.in-Ok.ensures.tree.answer;
      same = refl;
      searched = ended-searched m c.in-Ok.tree c.answered-runs.result c.books_are_closed.ensures.bounded c.books_are_closed.ensures.closed
          c.requires c.in-Ok.ensures.places
          c.answered-runs.ensures c.in-Ok.ensures.tree c.in-Ok.ensures.accepted;
    }
