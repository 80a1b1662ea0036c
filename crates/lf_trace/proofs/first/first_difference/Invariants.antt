use Rattle.std.proofs.Common.{◌≡◌, suc, []}
use Rattle.lf_sim.specs.Settings.{set_of, world_of}
use Rattle.lf_trace.specs.First.{first_lines, first_told}
use Rattle.lf_trace.proofs.first.first_difference.Given as goal

-- nothing differs after the steps so far
abbrev pub invariant-steps : goal.invariant-steps
invariant-steps g l =
    first_told (λ past. first_lines (g.M.Worded.words l.setting.machine) (world_of l.setting) (set_of l.other) (set_of l.run) (suc past)) l.past ≡ []
