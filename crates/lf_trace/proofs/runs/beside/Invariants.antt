use Rattle.std.proofs.Common.{◌≡◌, suc, string_bytes}
use Rattle.lf_sim.specs.Runs.{each_below}
use Rattle.lf_sim.specs.Settings.{set_of, world_of}
use Rattle.lf_trace.specs.Beside.{step_beside}
use Rattle.lf_trace.proofs.runs.beside.Given as goal

-- the differences of the steps so far
abbrev pub invariant-steps : goal.invariant-steps
invariant-steps g l =
    string_bytes l.text
    ≡ each_below (λ past. step_beside (g.M.Worded.words l.setting.machine) (world_of l.setting) (set_of l.other) (set_of l.run) (suc past)) l.past
