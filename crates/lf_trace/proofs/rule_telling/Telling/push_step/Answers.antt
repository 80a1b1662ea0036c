use Rattle.std.proofs.Common.{◌+◌, ◌++◌, string_bytes, ap, ◌∙◌, append_assoc}
use Rattle.std.proofs.lemmas.Result.{IfOk-equal}
use Rattle.lf_sim.specs.Settings.{set_of, world_of}
use Rattle.lf_trace.specs.Traces.{step_lines}
use Rattle.lf_trace.specs.RuleTraces.{rule_lines, ruled_step}
use Rattle.lf_trace.proofs.rule_telling.Telling.push_step.Goals as goal

pub returns : goal.returns
returns c =
    let k = c.args.self.now.setting.now.machine in
    let w = world_of c.args.self.now.setting.now in
    let faults = set_of c.args.self.now.run.now in
    let more = rule_lines k w faults c.args.past in
    IfOk-equal c.push_rules.result (string_bytes c.push_rules.new.text) (string_bytes c.push_step.new.text ++ more)
    (string_bytes c.args.text.now ++ ruled_step k w faults c.args.past) c.push_rules.ensures
    (ap (λ t. t ++ more) c.in_ok-push_step.ensures ∙ append_assoc (string_bytes c.args.text.now) (step_lines k w faults (c.args.past + 1)) more)
