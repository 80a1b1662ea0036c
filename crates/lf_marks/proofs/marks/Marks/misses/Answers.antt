use Rattle.std.proofs.Common.{◌∙◌, ap, sym, rules, Some}
use Rattle.lf_marks.specs.Arena.{mark_in}
use Rattle.lf_marks.specs.Walks.{Spot}
use Rattle.lf_marks.specs.declared.set.State.{State}
use Rattle.lf_marks.proofs.ArmLemmas.{read-at, no-miss}
use Rattle.lf_marks.proofs.marks.Marks.misses.Goals as goal

pub returns-in-Misses : goal.returns-in-Misses
returns-in-Misses c =
    let here = read-at c.args.self.now.sets.items c.args.place c.index.result.now c.requires c.index.ensures in
    (λ _. ap (λ (s : Spot). s.mark) here ∙ ap (λ (s : State). Some (mark_in s)) c.in-Misses.is, λ _. search rules)

pub returns-in_default : goal.returns-in_default
returns-in_default c =
    let here = read-at c.args.self.now.sets.items c.args.place c.index.result.now c.requires c.index.ensures in (
      λ t. absurd (search rules),
      λ e. absurd (no-miss c.index.result.now.state c.in_default.not-Misses (sym (ap (λ (s : Spot). s.mark) here) ∙ e)),
    )
