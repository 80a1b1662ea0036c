use Rattle.std.proofs.Common.{◌≡◌, ◌++◌, ◌∷◌, ap, append_assoc, rules, string_bytes, sym, ◌∙◌}
use Rattle.std.proofs.lemmas.Result.{IfOk-weaker}
use Rattle.lf_faults.specs.Texts.{spelling}
use Rattle.leastfault.specs.Reports.{more_text, set_text}
use Rattle.leastfault.proofs.SetTexts.{set_text_more}
use Rattle.leastfault.proofs.replies.push_set.Goals as goal

pub returns-in_ok-push_fault-in-Some : goal.returns-in_ok-push_fault-in-Some
returns-in_ok-push_fault-in-Some c =
    let f = c.in-Some.first.now in
    let fs = c.in-Some.rest.now in
    let old = string_bytes c.args.text.now in
    let between = string_bytes c.push_fault.new.text in
    let new = string_bytes c.push_more.new.text in
    let faults : c.args.faults.now ≡ f ∷ fs = search rules in
    let first : between ≡ old ++ spelling f = search rules in
    IfOk-weaker c.push_more.result (λ _. new ≡ between ++ more_text fs) (λ _. new ≡ old ++ set_text c.args.faults.now)
    (λ _ is. is ∙ ap (λ text. text ++ more_text fs) first ∙ append_assoc old (spelling f) (more_text fs)
    ∙ ap (λ text. old ++ text) (set_text_more f fs ∙ ap set_text (sym faults)))
    c.push_more.ensures
