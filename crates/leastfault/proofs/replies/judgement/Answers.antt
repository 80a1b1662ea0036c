use Rattle.std.proofs.Common.{◌++◌, ap, codes, string_bytes, sym, ◌∙◌}
use Rattle.std.specs.Fmt.{decimal}
use Rattle.lf_trace.specs.Lines.{line}
use Rattle.leastfault.specs.Reports.{judgement, path_text}
use Rattle.leastfault.proofs.LineTexts.{no_line_parts}
use Rattle.leastfault.proofs.replies.judgement.Goals as goal

pub returns-in_ok-push_path_line-in-No : goal.returns-in_ok-push_path_line-in-No
returns-in_ok-push_path_line-in-No c =
    let why = c.in-No.reason in
    let path = c.in-No.path.items in
    c.in_ok-push_path_line-in-No.ensures
    ∙ ap (λ ways. string_bytes c.in_ok-text-in-No.text ++ line (path_text ways)) c.as_slice.ensures.value
    ∙ ap (λ text. text ++ line (path_text path))
    (c.in_ok-text-in-No.ensures.ok ∙ ap (λ n. codes "no " ++ (decimal n ++ codes " ")) c.number.ensures)
    ∙ no_line_parts why path ∙ ap judgement (sym c.in-No.is)
