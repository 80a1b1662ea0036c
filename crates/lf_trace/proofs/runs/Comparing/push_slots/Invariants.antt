use Rattle.std.proofs.Common.{◌≡◌, ◌++◌, string_bytes}
use Rattle.lf_sim.specs.Runs.{each_below}
use Rattle.lf_sim.specs.Settings.{set_of, world_of}
use Rattle.lf_trace.specs.Beside.{sender_pairs}
use Rattle.lf_trace.proofs.runs.Comparing.push_slots.Given as goal

-- those so far
abbrev pub invariant-senders : goal.invariant-senders
invariant-senders g l =
    string_bytes l.text
    ≡ string_bytes l.initial.text ++ each_below
    (sender_pairs (g.M.Worded.words l.self.setting.now.machine) (world_of l.self.setting.now) (set_of l.self.other.now) (set_of l.self.run.now) l.number) l.from
