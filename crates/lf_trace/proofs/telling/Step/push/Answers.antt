use Rattle.std.proofs.Common.{rules, ◌≡◌, ◌++◌, codes, string_bytes}
use Rattle.std.specs.Fmt.{decimal}
use Rattle.std.proofs.lemmas.Result.{IfOk-weaker}
use Rattle.lf_sim.specs.Runs.{each_below}
use Rattle.lf_sim.specs.Settings.{set_of, world_of}
use Rattle.lf_trace.specs.Lines.{line}
use Rattle.lf_trace.specs.Traces.{node_line, note_lines, step_lines_by}
use Rattle.lf_trace.proofs.Lines.{more_lines, step_told}
use Rattle.lf_trace.proofs.telling.Step.push.Goals as goal

pub nodes-preserved : goal.nodes-preserved
nodes-preserved g c =
    let words = g.M.Worded.words c.args.self.now.setting.now.machine in
    let w = world_of c.args.self.now.setting.now in
    let faults = set_of c.args.self.now.run.now in
    more_lines (string_bytes c.writeln.new.self) (string_bytes c.nodes.text) (string_bytes c.push_node.new.text)
    (node_line words w faults c.args.self.now.number) c.nodes.node c.nodes.invariant c.in_ok-push_node.ensures

pub returns : goal.returns
returns g c =
    let words = g.M.Worded.words c.args.self.now.setting.now.machine in
    let w = world_of c.args.self.now.setting.now in
    let faults = set_of c.args.self.now.run.now in
    let t = c.args.self.now.number in
    IfOk-weaker c.push_notes.result (λ _. string_bytes c.push_notes.new.text ≡ string_bytes c.nodes.text ++ note_lines words w faults t)
    (λ _. string_bytes c.push_notes.new.text ≡ string_bytes c.args.text.now ++ step_lines_by words w faults t)
    (λ _ told. step_told (string_bytes c.args.text.now) (string_bytes c.writeln.new.self) (string_bytes c.nodes.text) (string_bytes c.push_notes.new.text)
    (codes "step " ++ line (decimal t)) (each_below (node_line words w faults t) w.rules.nodes) (note_lines words w faults t)
    c.in_ok-writeln.ensures.bytes (search rules) told)
    c.push_notes.ensures
