use Rattle.std.proofs.Common.{ap, ◌∙◌, string_bytes}
use Rattle.leastfault.proofs.ReplyLemmas.{answer_report_of}
use Rattle.leastfault.proofs.answering.answered.Goals as goal

pub returns : goal.returns
returns g c =
    let s = c.args.scenario.now in
    answer_report_of s c.in_ok-answer.answer c.budget.result (string_bytes c.in_ok-report.field-0) c.search_status.result c.in_ok-answer.ensures
    (c.budget.ensures.value ∙ ap (λ x. x.spec.budget) c.setting.ensures) c.in_ok-report.ensures c.search_status.ensures
