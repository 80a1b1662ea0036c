use Rattle.std.proofs.Common.{◌≡◌, ◌++◌}
use Rattle.lf_sim.specs.Settings.{set_of, world_of}
use Rattle.lf_outcome.specs.Evidence.{points_up}
use Rattle.lf_outcome.specs.Truth.{is_down}
use Rattle.lf_outcome.proofs.entries.push_up.Given as goal

-- the points of the steps so far whose nodes are up stand behind the others
abbrev pub invariant-steps : goal.invariant-steps
invariant-steps g l = l.points.items ≡ l.initial.points.items ++ points_up (is_down (world_of l.setting) (set_of l.run)) l.few l.before
