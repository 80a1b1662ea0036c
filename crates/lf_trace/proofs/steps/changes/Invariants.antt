use Rattle.std.proofs.Common.{◌≡◌, string_bytes}
use Rattle.lf_sim.specs.Runs.{each_below}
use Rattle.lf_sim.specs.Settings.{set_of, world_of}
use Rattle.lf_trace.specs.Changes.{step_changes}
use Rattle.lf_trace.proofs.steps.changes.Given as goal

-- the changes of the steps so far
abbrev pub invariant-steps : goal.invariant-steps
invariant-steps g l =
    string_bytes l.text ≡ each_below (step_changes (g.M.Worded.words l.setting.machine) (world_of l.setting) (set_of l.run)) l.past
