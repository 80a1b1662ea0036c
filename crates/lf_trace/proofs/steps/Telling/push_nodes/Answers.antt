use Rattle.std.proofs.Common.{string_bytes}
use Rattle.lf_sim.specs.Settings.{set_of, world_of}
use Rattle.lf_trace.specs.Changes.{changed_line}
use Rattle.lf_trace.proofs.ChangeLines.{more_lines}
use Rattle.lf_trace.proofs.steps.Telling.push_nodes.Goals as goal

pub nodes-preserved : goal.nodes-preserved
nodes-preserved g c =
    let words = g.M.Worded.words c.args.self.now.setting.now.machine in
    let w = world_of c.args.self.now.setting.now in
    let faults = set_of c.args.self.now.run.now in
    more_lines (string_bytes c.args.text.now) (string_bytes c.nodes.text) (string_bytes c.push_node.new.text)
    (changed_line words w faults c.args.past) c.nodes.node c.nodes.invariant c.in_ok-push_node.ensures
