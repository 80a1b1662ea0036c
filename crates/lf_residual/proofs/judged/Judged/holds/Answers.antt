use Rattle.std.proofs.Common.{ap, sym, ◌∙◌}
use Rattle.std.specs.Option.{option_copied}
use Rattle.lf_residual.proofs.JudgedLemmas.{first-of_all, none-of_all}
use Rattle.lf_residual.proofs.judged.Judged.holds.Goals as goal

pub returns-in-Some : goal.returns-in-Some
returns-in-Some c = λ w faults formula judged.
    first-of_all w faults c.args.self.now.formula c.deref.result.now c.in-Some.truth.now (c.deref.ensures.value ∙ judged.truths)
    (sym (ap option_copied c.in-Some.is) ∙ c.first.ensures.value)
    ∙ judged.says faults

pub returns-in-None : goal.returns-in-None
returns-in-None c = λ w faults formula judged.
    absurd (none-of_all w faults c.args.self.now.formula c.deref.result.now (c.deref.ensures.value ∙ judged.truths)
    (sym (ap option_copied c.in-None.is) ∙ c.first.ensures.value))
