use Rattle.std.proofs.Common.{◌≡◌, ◌++◌, string_bytes}
use Rattle.lf_sim.specs.Runs.{each_below}
use Rattle.lf_sim.specs.Settings.{set_of, world_of}
use Rattle.lf_trace.specs.Traces.{node_line}
use Rattle.lf_trace.proofs.telling.Step.push.Given as goal

-- the step's own line, and those of the nodes so far
abbrev pub invariant-nodes : goal.invariant-nodes
invariant-nodes g l =
    string_bytes l.text
    ≡ string_bytes l.initial.text
    ++ each_below (node_line (g.M.Worded.words l.self.setting.now.machine) (world_of l.self.setting.now) (set_of l.self.run.now) l.self.number) l.node
