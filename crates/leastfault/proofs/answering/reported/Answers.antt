use Rattle.std.proofs.Common.{subst, string_bytes, sym}
use Rattle.std.specs.Prelude.{IfOk}
use Rattle.lf_book.specs.Books.{scenario_of}
use Rattle.leastfault.specs.Replies.{reports_of}
use Rattle.leastfault.proofs.answering.reported.Goals as goal

pub returns-in-Answer : goal.returns-in-Answer
returns-in-Answer c =
    subst (λ w. IfOk c.answer_reported.result (λ reply. reports_of w (scenario_of c.args.book.now) (string_bytes reply.text) reply.value))
    (sym c.in-Answer.is) c.answer_reported.ensures

pub returns-in-AllLeast : goal.returns-in-AllLeast
returns-in-AllLeast c =
    subst (λ w. IfOk c.all_reported.result (λ reply. reports_of w (scenario_of c.args.book.now) (string_bytes reply.text) reply.value))
    (sym c.in-AllLeast.is) c.all_reported.ensures
