use Rattle.std.proofs.Common.{◌≡◌, ◌++◌, string_bytes}
use Rattle.lf_sim.specs.Runs.{each_below}
use Rattle.lf_sim.specs.Settings.{set_of, world_of}
use Rattle.lf_trace.specs.Traces.{sender_lines}
use Rattle.lf_trace.proofs.telling.Step.push_notes.Given as goal

-- the lines of the senders so far
abbrev pub invariant-senders : goal.invariant-senders
invariant-senders g l =
    string_bytes l.text
    ≡ string_bytes l.initial.text
    ++ each_below (sender_lines (g.M.Worded.words l.self.setting.now.machine) (world_of l.self.setting.now) (set_of l.self.run.now) l.self.number) l.from
