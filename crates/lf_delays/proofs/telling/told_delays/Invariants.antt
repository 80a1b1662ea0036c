use Rattle.std.proofs.Common.{◌≡◌, suc}
use Rattle.lf_sim.specs.Runs.{each_below}
use Rattle.lf_sim.specs.Settings.{set_of, world_of}
use Rattle.lf_delays.specs.Told.{told_at}
use Rattle.lf_delays.proofs.telling.told_delays.Given as goal

-- those of the steps so far
abbrev pub invariant-steps : goal.invariant-steps
invariant-steps g l = l.delays.items ≡ each_below (λ past. told_at (world_of l.setting) (set_of l.run) l.setting.network.links (suc past)) l.past
