use Rattle.std.proofs.Common.{string_bytes}
use Rattle.lf_book.specs.Books.{scenario_of}
use Rattle.leastfault.proofs.ReplyLemmas.{report_of}
use Rattle.leastfault.proofs.answering.answer_reported.Goals as goal

pub returns : goal.returns
returns c =
    report_of (scenario_of c.args.book.now) c.answer-answer.result c.budget_of-budget.result (string_bytes c.in_ok-report.field-0) c.search_status.result
    c.requires.never_full c.answer-answer.ensures c.budget_of-budget.ensures c.in_ok-report.ensures c.search_status.ensures
