use Rattle.std.proofs.Common.{ap, ◌∙◌, string_bytes}
use Rattle.lf_book.specs.Books.{scenario_of}
use Rattle.leastfault.specs.Reports.{all_report}
use Rattle.leastfault.proofs.ReplyLemmas.{all_report_of}
use Rattle.leastfault.proofs.answering.all_reported.Goals as goal

pub returns : goal.returns
returns c =
    all_report_of (scenario_of c.args.book.now) c.answer.result c.in_ok-sets.sets.items c.budget_of-budget.result (string_bytes c.in_ok-text.text)
    c.search_status-status.result c.requires.never_full c.answer.ensures c.in_ok-sets.ensures c.budget_of-budget.ensures
    (c.in_ok-text.ensures ∙ ap (all_report c.budget_of-budget.result) c.as_slice.ensures.value) c.search_status-status.ensures
