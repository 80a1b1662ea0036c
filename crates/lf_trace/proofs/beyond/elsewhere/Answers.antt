use Rattle.std.proofs.Common.{◌≡◌, ◌+◌, rules, suc, ap, ◌∙◌, string_bytes, add-one, arith}
use Rattle.lf_sim.specs.Settings.{set_of, world_of}
use Rattle.lf_trace.specs.Elsewhere.{nodes_elsewhere, step_elsewhere, told_or}
use Rattle.lf_trace.proofs.Firsts.{begins, both_told, goes_on, tested_as}
use Rattle.lf_trace.proofs.beyond.elsewhere.Goals as goal
use Rattle.lf_trace.proofs.beyond.elsewhere.Goals.{then-is_empty+in_ok-first, else-is_empty+in_ok-last}

pub steps-preserved : goal.steps-preserved
steps-preserved g c =
    let words = g.M.Worded.words c.args.setting.now.machine in
    let w = world_of c.args.setting.now in
    let other = set_of c.args.other.now in
    let faults = set_of c.args.run.now in
    let past = c.steps.past in
    let next : past + 1 ≡ suc past = add-one past in
    let tested = tested_as (string_bytes c.steps.first) c.as_str.result.now c.is_empty.result c.as_str.ensures.value c.is_empty.ensures in
    elim c.if-is_empty.branch [
      | then-is_empty+in_ok-first b ↦
          rw (b.first-is, b.last-is) (begins (λ t. step_elsewhere words w other faults (suc t)) (λ t. nodes_elsewhere words w other faults (suc t)) past
          (string_bytes c.steps.first) (string_bytes c.steps.last) c.is_empty.result c.steps.invariant.0 c.steps.invariant.1 tested
          (string_bytes b.in_ok-first.first) b.if-is_empty.true (b.in_ok-first.ensures ∙ ap (step_elsewhere words w other faults) next))
      | else-is_empty+in_ok-last b ↦
          rw (b.first-is, b.last-is) (goes_on (λ t. step_elsewhere words w other faults (suc t)) (λ t. nodes_elsewhere words w other faults (suc t)) past
          (string_bytes c.steps.first) (string_bytes c.steps.last) c.is_empty.result c.steps.invariant.0 c.steps.invariant.1 tested
          (string_bytes b.in_ok-last.last) b.if-is_empty.false
          (b.in_ok-last.ensures ∙ ap (λ t. told_or (nodes_elsewhere words w other faults t) (string_bytes c.steps.last)) next))
    ]

pub returns : goal.returns
returns g c =
    let words = g.M.Worded.words c.args.setting.now.machine in
    let w = world_of c.args.setting.now in
    let other = set_of c.args.other.now in
    let faults = set_of c.args.run.now in
    let all : c.steps.past ≡ c.args.limit = search (rules, arith) in
    both_told (λ t. step_elsewhere words w other faults (suc t)) (λ t. nodes_elsewhere words w other faults (suc t)) c.steps.past c.args.limit
    (string_bytes c.steps.first) (string_bytes c.steps.last) c.as_str-2.result.now (string_bytes c.push_str.new.self)
    c.steps.invariant.0 c.steps.invariant.1 c.as_str-2.ensures.value c.in_ok-push_str.ensures.bytes all
