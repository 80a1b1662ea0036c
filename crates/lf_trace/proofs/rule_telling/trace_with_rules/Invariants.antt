use Rattle.std.proofs.Common.{◌≡◌, string_bytes}
use Rattle.lf_sim.specs.Runs.{each_below}
use Rattle.lf_sim.specs.Settings.{set_of, world_of}
use Rattle.lf_trace.specs.RuleTraces.{ruled_step}
use Rattle.lf_trace.proofs.rule_telling.trace_with_rules.Given as goal

-- the lines of the steps so far
abbrev pub invariant-steps : goal.invariant-steps
invariant-steps l =
    string_bytes l.text ≡ each_below (ruled_step l.setting.machine (world_of l.setting) (set_of l.run)) l.past
