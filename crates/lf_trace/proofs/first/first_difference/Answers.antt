use Rattle.std.proofs.Common.{◌≡◌, rules, suc, ◌∙◌, sym, string_bytes, arith}
use Rattle.lf_sim.specs.Settings.{set_of, world_of}
use Rattle.lf_trace.specs.First.{first_lines}
use Rattle.lf_trace.proofs.Firsts.{none_found, none_more, some_found}
use Rattle.lf_trace.proofs.first.first_difference.Goals as goal

pub steps-preserved : goal.steps-preserved
steps-preserved g c =
    let words = g.M.Worded.words c.args.setting.now.machine in
    let w = world_of c.args.setting.now in
    let other = set_of c.args.other.now in
    let faults = set_of c.args.run.now in
    none_more (λ past. first_lines words w other faults (suc past)) c.steps.past c.as_str.result.now c.is_empty.result c.steps.invariant
    (c.as_str.ensures.value ∙ search rules) c.is_empty.ensures c.if-not-is_empty.false

pub returns-then-not-is_empty : goal.returns-then-not-is_empty
returns-then-not-is_empty g c =
    let words = g.M.Worded.words c.args.setting.now.machine in
    let w = world_of c.args.setting.now in
    let other = set_of c.args.other.now in
    let faults = set_of c.args.run.now in
    sym c.as_str.ensures.value
    ∙ some_found (λ past. first_lines words w other faults (suc past)) c.steps.past c.as_str.result.now c.is_empty.result c.steps.invariant
    (c.as_str.ensures.value ∙ search rules) c.is_empty.ensures c.if-not-is_empty.true w.horizon (search (rules, arith))

pub returns : goal.returns
returns g c =
    let words = g.M.Worded.words c.args.setting.now.machine in
    let w = world_of c.args.setting.now in
    let other = set_of c.args.other.now in
    let faults = set_of c.args.run.now in
    let all : c.steps.past ≡ w.horizon = search (rules, arith) in
    none_found (λ past. first_lines words w other faults (suc past)) c.steps.past w.horizon (string_bytes c.new.result) c.steps.invariant all (search rules)
