use Rattle.std.proofs.Common.{string_bytes}
use Rattle.lf_sim.specs.Settings.{set_of, world_of}
use Rattle.lf_trace.specs.RuleTraces.{rule_line}
use Rattle.lf_trace.proofs.RuleLines.{more_lines}
use Rattle.lf_trace.proofs.rule_telling.Telling.push_rules.Goals as goal

pub nodes-preserved : goal.nodes-preserved
nodes-preserved c =
    let k = c.args.self.now.setting.now.machine in
    let w = world_of c.args.self.now.setting.now in
    let faults = set_of c.args.self.now.run.now in
    more_lines (string_bytes c.args.text.now) (string_bytes c.nodes.text) (string_bytes c.push_rules_of.new.text)
    (rule_line k w faults c.args.past) c.nodes.node c.nodes.invariant c.in_ok-push_rules_of.ensures
