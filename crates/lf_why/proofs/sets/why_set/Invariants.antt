use Rattle.std.proofs.Common.{◌≡◌, string_bytes}
use Rattle.lf_sim.specs.Runs.{each_below}
use Rattle.lf_sim.specs.Settings.{set_of, world_of}
use Rattle.lf_why.specs.Sets.{reason}
use Rattle.lf_why.proofs.sets.why_set.Given as goal

-- what the faults so far are needed for
abbrev pub invariant-faults : goal.invariant-faults
invariant-faults g l =
    string_bytes l.text
    ≡ each_below (reason (g.M.Worded.words l.setting.machine) (world_of l.setting) l.formula (set_of l.played)) l.place
