use Rattle.std.proofs.Common.{◌++◌, refl, ap, subst, ◌∙◌, string_bytes}
use Rattle.lf_sim.specs.Settings.{world_of}
use Rattle.lf_trace.specs.Words.{words_of}
use Rattle.lf_why.specs.Answers.{IsWhy}
use Rattle.leastfault.proofs.why.with_reasons.Goals as goal

pub returns : goal.returns
returns c =
    let s = c.args.scenario.now in
    let tree = c.args.tree.now in
    let lines = string_bytes c.in_ok-reasons.reasons in (
      (
        lines,
        subst (λ x. IsWhy (words_of x.machine) (world_of x) x.spec s.formula tree lines) c.setting.ensures
            (subst (λ f. IsWhy (words_of c.setting.result.now.machine) (world_of c.setting.result.now) c.setting.result.now.spec f tree lines)
            c.formula.ensures.value c.in_ok-reasons.ensures),
        c.in_ok-push_str.ensures.bytes ∙ ap (λ more. string_bytes c.args.text ++ more) c.as_str.ensures.value,
      ),
      refl,
    )
