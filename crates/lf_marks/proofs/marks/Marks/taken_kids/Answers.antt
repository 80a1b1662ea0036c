use Rattle.std.proofs.Common.{◌≡◌, ◌∙◌, ap, sym, arith, length}
use Rattle.lf_marks.specs.Arena.{first_in, taken_in}
use Rattle.lf_marks.specs.Walks.{Spot}
use Rattle.lf_marks.specs.declared.set.Branch.{Branch}
use Rattle.lf_marks.proofs.ArmLemmas.{read-at, no-kids}
use Rattle.lf_marks.proofs.marks.Marks.taken_kids.Goals as goal

pub returns-in-Branch : goal.returns-in-Branch
returns-in-Branch c =
    let here = read-at c.args.self.now.sets.items c.args.place c.index.result.now c.requires c.index.ensures in
    let n : c.len.result ≡ length c.deref-in-Branch.result.now.kids.items = omega (arith, c.len.ensures, c.deref-in-Branch.result.now.kids.ok) in record {
      first = ap (λ (b : Branch). b.first) c.deref.ensures ∙ sym (ap (λ (s : Spot). s.first) here ∙ ap first_in c.in-Branch.is);
      taken = n ∙ ap (λ (b : Branch). length b.kids.items) c.deref-in-Branch.ensures
          ∙ sym (ap (λ (s : Spot). s.taken) here ∙ ap taken_in c.in-Branch.is);
    }

pub returns-in_default : goal.returns-in_default
returns-in_default c =
    let here = read-at c.args.self.now.sets.items c.args.place c.index.result.now c.requires c.index.ensures in
    let none = no-kids c.index.result.now.state c.in_default.not-Branch in record {
      first = none.first ∙ sym (ap (λ (s : Spot). s.first) here);
      taken = none.taken ∙ sym (ap (λ (s : Spot). s.taken) here);
    }
