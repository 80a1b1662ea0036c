use Rattle.std.proofs.Common.{◌∙◌, ℕ, ap, sym, List, Some}
use Rattle.lf_faults.specs.declared.fault.Parts.{Parts}
use Rattle.lf_marks.specs.Arena.{mark_in}
use Rattle.lf_marks.specs.Steps.{Mark}
use Rattle.lf_marks.specs.Steps as mark
use Rattle.lf_marks.specs.declared.set.Branch.{Branch}
use Rattle.lf_marks.specs.declared.set.State.{State}
use Rattle.lf_marks.proofs.ReadLemmas.{told, no-place, mark-branch}
use Rattle.lf_marks.proofs.marks.Marks.branch_at.Goals as goal

pub returns-in_err-place : goal.returns-in_err-place
returns-in_err-place c =
    let m = c.args.self.now in
    rw c.from_residual.ensures (λ reach edges h. no-place m.sets.items m.start c.args.path.now (mark.Branch reach edges) (λ e. absurd cc) (λ e. absurd cc)
    c.in_err-place.ensures.leads h)

pub returns-in-Branch : goal.returns-in-Branch
returns-in-Branch c =
    let m = c.args.self.now in
    told m.sets.items m.start c.args.path.now c.in_ok-place.place c.index.result.now c.in_ok-place.ensures.leads c.in_ok-place.ensures.within c.index.ensures
    ∙ ap (λ (s : State). Some (mark_in s)) c.in-Branch.is
    ∙ ap (λ (r : List ℕ). Some (mark.Branch r c.in-Branch.branch.value.edges)) (ap (λ (b : Branch). b.reach) (sym c.deref.ensures))
    ∙ ap (λ (es : List Parts). Some (mark.Branch c.deref.result.now.reach es))
    (ap (λ (b : Branch). b.edges) (sym c.deref-in-Branch.ensures) ∙ sym c.as_slice.ensures)

pub returns-in_default : goal.returns-in_default
returns-in_default c =
    let m = c.args.self.now in
    let is = told m.sets.items m.start c.args.path.now c.in_ok-place.place c.index.result.now c.in_ok-place.ensures.leads c.in_ok-place.ensures.within
    c.index.ensures in
    λ reach edges h. let b = mark-branch reach edges c.index.result.now.state (sym is ∙ h) in c.in_default.not-Branch b.0 b.1
