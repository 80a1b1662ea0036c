use Rattle.std.specs.Arc.{arc_value}
use Rattle.lf_marks.specs.Answers.{mark_for}
use Rattle.lf_sim.specs.Settings.{world_of}
use Rattle.lf_work.proofs.MereLemmas.{found-again}
use Rattle.lf_work.proofs.finding.Finding.into_parts.Goals as goal

pub returns-clause-found : goal.returns-clause-found
returns-clause-found c =
    let f = c.args.self in
    let s = arc_value f.job.scenario in
    found-again (world_of s.setting) s.setting.spec s.formula f.job.set f.job.excluded.items (mark_for f.answer) f.found
