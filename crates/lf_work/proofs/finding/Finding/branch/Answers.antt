use Rattle.std.proofs.Common.{◌∙◌, ap, sym, subst, List, ℕ}
use Rattle.std.specs.Arc.{arc_value}
use Rattle.lf_faults.specs.declared.fault.Parts.{Parts}
use Rattle.lf_marks.specs.Answers.{mark_for, edges_of}
use Rattle.lf_marks.specs.Steps as mark
use Rattle.lf_sim.specs.Settings.{world_of}
use Rattle.lf_certificate.specs.Found.{IsFound}
use Rattle.lf_work.proofs.MereLemmas.{found-again}
use Rattle.lf_work.proofs.finding.Finding.branch.Goals as goal

pub returns-in-Branch : goal.returns-in-Branch
returns-in-Branch c =
    let f = c.args.self.now in
    let s = arc_value f.job.scenario in
    let is = ap mark_for c.in-Branch.is ∙ ap (λ (r : List ℕ). mark.Branch r (edges_of c.in-Branch.grown)) (sym c.reach.ensures)
    ∙ ap (λ (es : List Parts). mark.Branch c.reach.result.now es) (sym c.edges.ensures) in (
      is,
      subst (IsFound (world_of s.setting) s.setting.spec s.formula f.job.set f.job.excluded.items) is
          (found-again (world_of s.setting) s.setting.spec s.formula f.job.set f.job.excluded.items (mark_for f.answer) f.found),
    )
