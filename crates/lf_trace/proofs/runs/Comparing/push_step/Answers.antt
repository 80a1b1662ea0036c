use Rattle.std.proofs.Common.{◌++◌, string_bytes, ap, ◌∙◌}
use Rattle.std.proofs.lemmas.Result.{IfOk-equal}
use Rattle.lf_sim.specs.Settings.{set_of, world_of}
use Rattle.lf_trace.specs.Beside.{node_pairs, slot_pairs, step_beside}
use Rattle.lf_trace.specs.Changes.{titled}
use Rattle.lf_trace.proofs.runs.Comparing.push_step.Goals as goal

pub returns : goal.returns
returns g c =
    let words = g.M.Worded.words c.args.self.now.setting.now.machine in
    let w = world_of c.args.self.now.setting.now in
    let other = set_of c.args.self.now.other.now in
    let faults = set_of c.args.self.now.run.now in
    let t = c.args.number in
    let old = string_bytes c.args.text.now in
    IfOk-equal c.push_titled.result (string_bytes c.push_titled.new.text) (old ++ titled t c.as_str.result.now)
    (old ++ step_beside words w other faults t) c.push_titled.ensures
    (ap (λ lines. old ++ titled t lines) (c.as_str.ensures.value ∙ c.in_ok-push_slots.ensures
    ∙ ap (λ lines. lines ++ slot_pairs words w other faults t) (c.in_ok-push_nodes.ensures
    ∙ ap (λ lines. lines ++ node_pairs words w other faults t) c.new-lines.ensures.bytes)))
