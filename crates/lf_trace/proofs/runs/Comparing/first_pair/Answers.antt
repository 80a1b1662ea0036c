use Rattle.std.proofs.Common.{◌≡◌, rules, ◌∙◌, sym, string_bytes, arith}
use Rattle.lf_sim.specs.Settings.{set_of, world_of}
use Rattle.lf_trace.specs.Beside.{node_pair}
use Rattle.lf_trace.proofs.Firsts.{none_found, none_more, some_found}
use Rattle.lf_trace.proofs.runs.Comparing.first_pair.Goals as goal

pub nodes-preserved : goal.nodes-preserved
nodes-preserved g c =
    let words = g.M.Worded.words c.args.self.now.setting.now.machine in
    let w = world_of c.args.self.now.setting.now in
    let other = set_of c.args.self.now.other.now in
    let faults = set_of c.args.self.now.run.now in
    none_more (node_pair words w other faults c.args.number) c.nodes.node c.as_str.result.now c.is_empty.result c.nodes.invariant
    (c.as_str.ensures.value ∙ search rules) c.is_empty.ensures c.if-not-is_empty.false

pub returns-then-not-is_empty : goal.returns-then-not-is_empty
returns-then-not-is_empty g c =
    let words = g.M.Worded.words c.args.self.now.setting.now.machine in
    let w = world_of c.args.self.now.setting.now in
    let other = set_of c.args.self.now.other.now in
    let faults = set_of c.args.self.now.run.now in
    sym c.as_str.ensures.value
    ∙ some_found (node_pair words w other faults c.args.number) c.nodes.node c.as_str.result.now c.is_empty.result c.nodes.invariant
    (c.as_str.ensures.value ∙ search rules) c.is_empty.ensures c.if-not-is_empty.true w.rules.nodes (search (rules, arith))

pub returns : goal.returns
returns g c =
    let words = g.M.Worded.words c.args.self.now.setting.now.machine in
    let w = world_of c.args.self.now.setting.now in
    let other = set_of c.args.self.now.other.now in
    let faults = set_of c.args.self.now.run.now in
    let all : c.nodes.node ≡ w.rules.nodes = search (rules, arith) in
    none_found (node_pair words w other faults c.args.number) c.nodes.node w.rules.nodes (string_bytes c.new.result) c.nodes.invariant all (search rules)
