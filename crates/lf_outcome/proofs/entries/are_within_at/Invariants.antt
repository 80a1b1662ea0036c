use Rattle.std.proofs.Common.{◌≡◌, ◌||◌, true}
use Rattle.std.specs.List.{list_all}
use Rattle.lf_sim.specs.Settings.{set_of, world_of}
use Rattle.lf_outcome.specs.Truth.{counts, is_down, points_at}
use Rattle.lf_outcome.proofs.entries.are_within_at.Given as goal

-- the points of the nodes so far count, or their nodes aren't up
abbrev pub invariant-nodes : goal.invariant-nodes
invariant-nodes g l =
    list_all (λ p. is_down (world_of l.setting) (set_of l.run) p.node p.step || counts l.limit p.node p.step) (points_at l.node l.step) ≡ true
