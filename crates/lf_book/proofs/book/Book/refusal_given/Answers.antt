use Rattle.std.proofs.Common.{◌≡◌, ap, is_some}
use Rattle.std.specs.Arc.{arc_value}
use Rattle.std.specs.Prelude.{Some}
use Rattle.lf_marks.specs.Steps as mark
use Rattle.lf_book.specs.Books.{scenario_of, state_of, task_of_job}
use Rattle.lf_book.proofs.GivenLemmas.{given-works}
use Rattle.lf_book.proofs.book.Book.refusal_given.Goals as goal

pub returns-then-is_claimed_at : goal.returns-then-is_claimed_at
returns-then-is_claimed_at c =
    let book = c.args.self.now in
    let job = c.args.job.now in
    let claimed : (state_of book).marks job.path.items ≡ Some (mark.Claimed job.ticket) =
    rw (c.path.ensures, c.ticket.ensures) at c.is_claimed_at.ensures.0 c.if-is_claimed_at.true in
    record {
      same = c.requires.same;
      claims = record {
        claimed = claimed;
        works = given-works (scenario_of book) (arc_value job.scenario) (state_of book) job.path.items (task_of_job job) c.requires.same book.closed
            c.requires.given (ap is_some claimed);
      };
    }
