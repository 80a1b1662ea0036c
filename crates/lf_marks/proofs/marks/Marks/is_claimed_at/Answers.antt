use Rattle.std.proofs.Common.{◌≡◌, ◌∙◌, ℕ, ap, sym, Some}
use Rattle.std.proofs.lemmas.Bool.{eqb-true, eq-eqb}
use Rattle.lf_marks.specs.Arena.{mark_in}
use Rattle.lf_marks.specs.Steps.{Mark}
use Rattle.lf_marks.specs.Steps as mark
use Rattle.lf_marks.specs.declared.set.State.{State}
use Rattle.lf_marks.proofs.ReadLemmas.{told, no-place, mark-claimed}
use Rattle.lf_marks.proofs.marks.Marks.is_claimed_at.Goals as goal

pub returns-in-Claimed : goal.returns-in-Claimed
returns-in-Claimed c =
    let m = c.args.self.now in
    let is = told m.sets.items m.start c.args.path.now c.in-Some.place c.index.result.now c.in-Some.ensures.leads c.in-Some.ensures.within c.index.ensures
    ∙ ap (λ (s : State). Some (mark_in s)) c.in-Claimed.is in (
      λ h. is ∙ ap (λ (t : ℕ). Some (mark.Claimed t)) (eqb-true c.in-Claimed.claimer c.args.ticket h),
      λ h. let same : Some (mark.Claimed c.in-Claimed.claimer) ≡ Some (mark.Claimed c.args.ticket) = sym is ∙ h in
          eq-eqb c.in-Claimed.claimer c.args.ticket cc,
    )

pub returns-in_default : goal.returns-in_default
returns-in_default c =
    let m = c.args.self.now in (
      λ h. absurd cc,
      λ h. absurd (no-place m.sets.items m.start c.args.path.now (mark.Claimed c.args.ticket) (λ e. absurd cc) (λ e. absurd cc)
          c.in_default.ensures.leads h),
    )

pub returns-in_default-state : goal.returns-in_default-state
returns-in_default-state c =
    let m = c.args.self.now in
    let is = told m.sets.items m.start c.args.path.now c.in-Some.place c.index.result.now c.in-Some.ensures.leads c.in-Some.ensures.within
    c.index.ensures in
    (λ h. absurd cc, λ h. absurd (c.in_default-state.not-Claimed c.args.ticket (mark-claimed c.args.ticket c.index.result.now.state (sym is ∙ h))))
