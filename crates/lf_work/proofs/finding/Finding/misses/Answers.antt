use Rattle.std.proofs.Common.{◌≡◌, ap}
use Rattle.std.specs.Arc.{arc_value}
use Rattle.lf_marks.specs.Answers.{mark_for}
use Rattle.lf_marks.specs.Steps.{Mark}
use Rattle.lf_marks.specs.Steps as mark
use Rattle.lf_sim.specs.Settings.{world_of}
use Rattle.lf_work.proofs.FoundLemmas.{found-one}
use Rattle.lf_work.proofs.MereLemmas.{found-again}
use Rattle.lf_work.proofs.finding.Finding.misses.Goals as goal

pub returns-in-Branch : goal.returns-in-Branch
returns-in-Branch c =
    let f = c.args.self.now in
    let s = arc_value f.job.scenario in
    let w = world_of s.setting in
    let is = ap mark_for c.in-Branch.is in (
      λ h. absurd cc,
      λ h.
          let misses : mark_for f.answer ≡ mark.Misses = found-one w s.setting.spec s.formula f.job.set f.job.excluded.items (mark_for f.answer) mark.Misses
          (found-again w s.setting.spec s.formula f.job.set f.job.excluded.items (mark_for f.answer) f.found) h in
          absurd cc,
    )
