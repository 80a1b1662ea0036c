use Rattle.lf_residual.specs.Judging.{said}
use Rattle.std.proofs.Common.{◌+◌, ◌*◌}
use Rattle.std.specs.List.{list_all, list_any}
use Rattle.lf_sim.specs.Settings.{set_of, world_of}
use Rattle.lf_residual.specs.Parts.{all_parts, part_of, size_of}
use Rattle.lf_residual.proofs.JudgedLemmas.{SoFar}
use Rattle.lf_residual.proofs.judging.+judge_again.Given as goal

abbrev pub decreases-judge_again : goal.decreases-judge_again
decreases-judge_again l = 4 * size_of l.formula.now + 1

abbrev pub decreases-judge_touched : goal.decreases-judge_touched
decreases-judge_touched l = 4 * size_of l.formula.now

abbrev pub decreases-judge_all : goal.decreases-judge_all
decreases-judge_all l = 4 * (all_parts part_of l.parts.now).size + 2

abbrev pub decreases-judge_any : goal.decreases-judge_any
decreases-judge_any l = 4 * (all_parts part_of l.parts.now).size + 2

-- the truths of the parts so far are judged again
abbrev pub invariant-judge_all-parts : goal.invariant-judge_all-parts
invariant-judge_all-parts l =
    SoFar (world_of l.change.setting.now) (set_of l.change.run.now) l.change.changed.now.points
    (list_all (said (world_of l.change.setting.now) (set_of l.change.run.now))) l.change.parts.now l.parts l.first l.initial.truths l.part-index l.at
    l.all l.truths

abbrev pub invariant-judge_any-parts : goal.invariant-judge_any-parts
invariant-judge_any-parts l =
    SoFar (world_of l.change.setting.now) (set_of l.change.run.now) l.change.changed.now.points
    (list_any (said (world_of l.change.setting.now) (set_of l.change.run.now))) l.change.parts.now l.parts l.first l.initial.truths l.part-index l.at
    l.any l.truths
