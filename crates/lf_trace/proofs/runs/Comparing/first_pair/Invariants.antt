use Rattle.std.proofs.Common.{◌≡◌, []}
use Rattle.lf_sim.specs.Settings.{set_of, world_of}
use Rattle.lf_trace.specs.Beside.{node_pair}
use Rattle.lf_trace.specs.First.{first_told}
use Rattle.lf_trace.proofs.runs.Comparing.first_pair.Given as goal

-- the words of the nodes so far are the same
abbrev pub invariant-nodes : goal.invariant-nodes
invariant-nodes g l =
    first_told (node_pair (g.M.Worded.words l.self.setting.now.machine) (world_of l.self.setting.now) (set_of l.self.other.now)
    (set_of l.self.run.now) l.number) l.node ≡ []
