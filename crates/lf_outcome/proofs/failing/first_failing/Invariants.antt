use Rattle.std.proofs.Common.{◌≡◌}
use Rattle.std.specs.Prelude.{None}
use Rattle.lf_sim.specs.Settings.{set_of, world_of}
use Rattle.lf_outcome.specs.Failing.{fails_by, first_below}
use Rattle.lf_outcome.proofs.failing.first_failing.Given as goal

-- it isn't seen by the steps so far
abbrev pub invariant-steps : goal.invariant-steps
invariant-steps g l = first_below (λ t. fails_by (world_of l.setting) (set_of l.run) t l.formula) l.step ≡ None
