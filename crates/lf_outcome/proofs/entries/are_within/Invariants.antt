use Rattle.std.proofs.Common.{◌≡◌, ◌||◌, true}
use Rattle.std.specs.List.{list_all}
use Rattle.lf_sim.specs.Settings.{set_of, world_of}
use Rattle.lf_outcome.specs.Truth.{counts, is_down, points_to}
use Rattle.lf_outcome.proofs.entries.are_within.Given as goal

-- the points of the steps so far count, or their nodes aren't up
abbrev pub invariant-steps : goal.invariant-steps
invariant-steps g l =
    list_all (λ p. is_down (world_of l.setting) (set_of l.run) p.node p.step || counts l.limit p.node p.step) (points_to l.few l.before) ≡ true
