use Rattle.std.proofs.Common.{◌≡◌, ◌++◌, string_bytes}
use Rattle.lf_sim.specs.Runs.{each_below}
use Rattle.lf_sim.specs.Settings.{set_of, world_of}
use Rattle.lf_trace.specs.Beside.{slot_pair}
use Rattle.lf_trace.proofs.runs.Comparing.push_slots_of.Given as goal

-- those so far
abbrev pub invariant-receivers : goal.invariant-receivers
invariant-receivers g l =
    string_bytes l.text
    ≡ string_bytes l.initial.text ++ each_below (slot_pair (g.M.Worded.words l.self.setting.now.machine) (world_of l.self.setting.now)
    (set_of l.self.other.now) (set_of l.self.run.now) l.number l.from) l.to
