use Rattle.std.proofs.Common.{◌+◌, ◌++◌, string_bytes, ap, ◌∙◌}
use Rattle.std.proofs.lemmas.Result.{IfOk-equal}
use Rattle.lf_sim.specs.Settings.{set_of, world_of}
use Rattle.lf_trace.specs.Traces.{note_lines}
use Rattle.lf_trace.specs.Changes.{changed_nodes, step_changes, titled}
use Rattle.lf_trace.proofs.steps.Telling.push_step.Goals as goal

pub returns : goal.returns
returns g c =
    let words = g.M.Worded.words c.args.self.now.setting.now.machine in
    let w = world_of c.args.self.now.setting.now in
    let faults = set_of c.args.self.now.run.now in
    let t = c.args.past in
    let old = string_bytes c.args.text.now in
    IfOk-equal c.push_titled.result (string_bytes c.push_titled.new.text) (old ++ titled (t + 1) c.as_str.result.now)
    (old ++ step_changes words w faults t) c.push_titled.ensures
    (ap (λ lines. old ++ titled (t + 1) lines) (c.as_str.ensures.value ∙ c.in_ok-push_notes.ensures
    ∙ ap (λ lines. lines ++ note_lines words w faults (t + 1)) (c.in_ok-push_nodes.ensures
    ∙ ap (λ lines. lines ++ changed_nodes words w faults t) c.new-lines.ensures.bytes)))
