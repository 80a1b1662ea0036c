use Rattle.std.proofs.Common.{◌++◌, ap, codes, sym, ◌∙◌}
use Rattle.std.specs.Fmt.{decimal}
use Rattle.lf_trace.specs.Lines.{line}
use Rattle.leastfault.specs.Reports.{fault_lines, report}
use Rattle.leastfault.proofs.replies.report.Goals as goal

pub returns-in_ok-push_faults-in-Some : goal.returns-in_ok-push_faults-in-Some
returns-in_ok-push_faults-in-Some c =
    let set = c.in-Some.set in
    c.in_ok-push_faults-in-Some.ensures
    ∙ ap (λ text. text ++ fault_lines set)
    (c.in_ok-text-in-Some.ensures.ok ∙ ap (λ n. line (codes "least " ++ decimal n)) c.len.ensures.value)
    ∙ ap (report c.args.budget) (sym c.in-Some.is)
