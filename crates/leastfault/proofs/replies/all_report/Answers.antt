use Rattle.std.proofs.Common.{◌++◌, ap, length, ◌∙◌}
use Rattle.leastfault.specs.Reports.{all_line, set_lines}
use Rattle.leastfault.proofs.LineTexts.{all_report_first}
use Rattle.leastfault.proofs.replies.all_report.Goals as goal

pub returns-in_ok-push_sets-in-Some : goal.returns-in_ok-push_sets-in-Some
returns-in_ok-push_sets-in-Some c =
    let least = c.in-Some.least.now in
    let sets = c.args.sets.now in
    c.in_ok-push_sets-in-Some.ensures
    ∙ ap (λ text. text ++ set_lines sets)
    (c.in_ok-text-in-Some.ensures.ok ∙ ap (λ n. all_line n (length sets)) c.len.ensures.value)
    ∙ all_report_first c.args.budget least sets c.in-Some.ensures.value
