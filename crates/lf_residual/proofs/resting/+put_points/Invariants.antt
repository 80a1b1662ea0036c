use Rattle.std.proofs.Common.{◌≡◌, ◌+◌, ◌*◌, ◌++◌, take, drop, map}
use Rattle.std.specs.List.{flat_map}
use Rattle.lf_outcome.specs.Evidence.{first_of}
use Rattle.lf_sim.specs.Settings.{set_of, world_of}
use Rattle.lf_residual.specs.Judging.{points_for}
use Rattle.lf_residual.specs.Parts.{all_parts, part_of, size_of}
use Rattle.lf_residual.proofs.RestingLemmas.{Walk, ground_of}
use Rattle.lf_residual.proofs.resting.+put_points.Given as goal

abbrev pub decreases-put_points : goal.decreases-put_points
decreases-put_points l = 4 * size_of l.formula.now

abbrev pub decreases-put_all : goal.decreases-put_all
decreases-put_all l = 4 * (all_parts part_of l.parts.now).size + 2

abbrev pub decreases-put_first : goal.decreases-put_first
decreases-put_first l = 4 * (all_parts part_of l.parts.now).size + 2

-- those of the parts so far are put
abbrev pub invariant-put_all-parts : goal.invariant-put_all-parts
invariant-put_all-parts l = record {
  walk : Walk (world_of l.ground.setting.now) (set_of l.ground.run.now) l.ground.parts.now l.ground.truths.now l.parts l.part-index l.at;
  put : l.points.items ≡ l.initial.points.items
      ++ flat_map (ground_of (world_of l.ground.setting.now) (set_of l.ground.run.now)) (take l.part-index l.parts);
}

-- none of the parts so far is true
abbrev pub invariant-put_first-parts : goal.invariant-put_first-parts
invariant-put_first-parts l = record {
  walk : Walk (world_of l.ground.setting.now) (set_of l.ground.run.now) l.ground.parts.now l.ground.truths.now l.parts l.part-index l.at;
  put : l.points.items ≡ l.initial.points.items;
  later : first_of (map (points_for (world_of l.ground.setting.now) (set_of l.ground.run.now)) l.parts)
      ≡ first_of (map (points_for (world_of l.ground.setting.now) (set_of l.ground.run.now)) (drop l.part-index l.parts));
}
