use Rattle.std.proofs.Common.{◌≡◌, ◌++◌, sym, ap, ◌∙◌, string_bytes, codes}
use Rattle.std.specs.Fmt.{decimal}
use Rattle.std.proofs.lemmas.Result.{IfOk-weaker}
use Rattle.lf_scenario.specs.Refusals.{number_of}
use Rattle.lf_trace.specs.Lines.{line}
use Rattle.leastfault.specs.Reports.{key_words, refusal}
use Rattle.leastfault.proofs.replies.refusal.Goals as goal

pub returns-in-Some : goal.returns-in-Some
returns-in-Some c =
    let name = c.name.result.now in
    IfOk-weaker c.format.result
    (λ text. string_bytes text ≡ codes "refused " ++ (decimal c.number.result ++ (codes " " ++ (name ++ codes "\n"))))
    (λ text. string_bytes text ≡ refusal c.args.error)
    (λ text is. is
    ∙ ap (λ n. codes "refused " ++ (decimal n ++ line (codes " " ++ name))) c.number.ensures
    ∙ ap (λ word. codes "refused " ++ (decimal (number_of c.args.error) ++ line (codes " " ++ word))) c.name.ensures
    ∙ ap (λ key. codes "refused " ++ (decimal (number_of c.args.error) ++ line (key_words key))) (sym c.in-Some.is ∙ c.key.ensures))
    c.format.ensures.ok

pub returns-in-None : goal.returns-in-None
returns-in-None c =
    IfOk-weaker c.format-in-None.result (λ text. string_bytes text ≡ codes "refused " ++ (decimal c.number-in-None.result ++ codes "\n"))
    (λ text. string_bytes text ≡ refusal c.args.error)
    (λ text is. is
    ∙ ap (λ n. codes "refused " ++ (decimal n ++ codes "\n")) c.number-in-None.ensures
    ∙ ap (λ key. codes "refused " ++ (decimal (number_of c.args.error) ++ line (key_words key))) (sym c.in-None.is ∙ c.key.ensures))
    c.format-in-None.ensures.ok
