use Rattle.std.proofs.Common.{◌∙◌, ap, sym, length, Some}
use Rattle.lf_marks.specs.Arena.{mark_in}
use Rattle.lf_marks.specs.Walks.{width, width_of}
use Rattle.lf_marks.specs.declared.set.State.{State}
use Rattle.lf_marks.specs.declared.set.Branch.{Branch}
use Rattle.lf_marks.proofs.ArmLemmas.{read-at, no-kids}
use Rattle.lf_marks.proofs.marks.Marks.kids.Goals as goal

pub returns-in-Branch : goal.returns-in-Branch
returns-in-Branch c =
    let here = read-at c.args.self.now.sets.items c.args.place c.index.result.now c.requires c.index.ensures in
    c.len.ensures ∙ ap (λ (b : Branch). length b.edges) c.deref.ensures
    ∙ sym (ap width here ∙ ap (λ (s : State). width_of (Some (mark_in s))) c.in-Branch.is)

pub returns-in_default : goal.returns-in_default
returns-in_default c =
    let here = read-at c.args.self.now.sets.items c.args.place c.index.result.now c.requires c.index.ensures in
    (no-kids c.index.result.now.state c.in_default.not-Branch).edges ∙ sym (ap width here)
