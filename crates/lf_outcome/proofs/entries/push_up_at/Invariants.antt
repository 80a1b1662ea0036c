use Rattle.std.proofs.Common.{◌≡◌, ◌++◌, not}
use Rattle.std.specs.List.{filter}
use Rattle.lf_sim.specs.Settings.{set_of, world_of}
use Rattle.lf_outcome.specs.Truth.{is_down, points_at}
use Rattle.lf_outcome.proofs.entries.push_up_at.Given as goal

-- the points of the nodes so far that are up stand behind the others
abbrev pub invariant-nodes : goal.invariant-nodes
invariant-nodes g l =
    l.points.items ≡ l.initial.points.items ++ filter (λ p. not (is_down (world_of l.setting) (set_of l.run) p.node p.step)) (points_at l.node l.step)
