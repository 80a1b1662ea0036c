use Rattle.std.proofs.Common.{◌≡◌, ◌++◌, string_bytes}
use Rattle.lf_sim.specs.Runs.{each_below}
use Rattle.lf_sim.specs.Settings.{set_of, world_of}
use Rattle.lf_trace.specs.Elsewhere.{up_pair}
use Rattle.lf_trace.proofs.runs.Comparing.push_up_nodes.Given as goal

-- those so far
abbrev pub invariant-nodes : goal.invariant-nodes
invariant-nodes g l =
    let words = g.M.Worded.words l.self.setting.now.machine in
    let w = world_of l.self.setting.now in
    string_bytes l.text ≡ string_bytes l.initial.text ++ each_below (up_pair words w (set_of l.self.other.now) (set_of l.self.run.now) l.number) l.node
