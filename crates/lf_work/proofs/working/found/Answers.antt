use Rattle.std.proofs.Common.{◌∙◌, ap, length, subst, sym, arith}
use Rattle.lf_sim.specs.Settings.{set_of, world_of}
use Rattle.lf_marks.specs.declared.grown.Answer.{Answer}
use Rattle.lf_marks.specs.Answers.{mark_for}
use Rattle.lf_certificate.specs.Found.{IsFound}
use Rattle.lf_work.proofs.FoundLemmas.{few-required}
use Rattle.lf_work.proofs.working.found.Goals as goal
use Rattle.lf_work.proofs.working.found.Goals.{then-holds, else-holds}

pub grown-requires : goal.grown-requires
grown-requires c =
    let s = c.args.setting.now in
    let few = few-required (world_of s) s.spec (set_of c.args.run.now) _ c.args.excluded.now c.put_edges.new.found.items
    c.budget.ensures.limits c.in_ok-put_edges.ensures in
    omega (arith, few, ap length c.as_slice-edges.ensures.value)

pub returns-then-len-budget : goal.returns-then-len-budget
returns-then-len-budget c =
    let w = world_of c.args.setting.now in
    let b = c.args.setting.now.spec in
    let faults = set_of c.args.run.now in
    let holds = c.holds.ensures w faults c.args.formula.now c.requires.judged in
    elim c.if-holds.branch [
      | then-holds t ↦
          subst (λ (a : Answer). IsFound w b c.args.formula.now faults c.args.excluded.now (mark_for a)) (sym t.result-is)
          (record { full = omega (arith, c.if-len-budget.true, c.len.ensures.value, c.budget.ensures.value, ap length c.set.ensures); reaching = sym holds ∙ t.if-holds.true })
      | else-holds e ↦
          subst (λ (a : Answer). IsFound w b c.args.formula.now faults c.args.excluded.now (mark_for a)) (sym e.result-is) (sym holds ∙ e.if-holds.false)
    ]
