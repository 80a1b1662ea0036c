use Rattle.std.proofs.Common.{◌≡◌, ◌∙◌, sym, string_bytes}
use Rattle.std.proofs.lemmas.Result.{IfOk-weaker}
use Rattle.lf_trace.specs.First.{first_difference}
use Rattle.lf_sim.specs.Settings.{set_of, world_of}
use Rattle.lf_why.specs.Sets.{stop_difference}
use Rattle.lf_why.proofs.Differences.{nothing_else, told_elsewhere}
use Rattle.lf_why.proofs.sets.stop_difference.Goals as goal

pub returns-then-is_empty : goal.returns-then-is_empty
returns-then-is_empty g c =
    let words = g.M.Worded.words c.args.setting.now.machine in
    let w = world_of c.args.setting.now in
    let formula = c.args.formula.now in
    let set = set_of c.args.played.now in
    let fewer = set_of c.args.other.now in
    let is = nothing_else words w formula set fewer c.failing_step-limit.result c.as_str.result.now c.is_empty.result c.failing_step-limit.ensures.value
    (c.as_str.ensures.value ∙ c.in_ok-told.ensures) c.is_empty.ensures c.if-is_empty.true in
    IfOk-weaker c.first_difference.result (λ text. string_bytes text ≡ first_difference words w fewer set)
    (λ text. string_bytes text ≡ stop_difference words w formula set fewer) (λ text so. so ∙ is) c.first_difference.ensures

pub returns-else-is_empty : goal.returns-else-is_empty
returns-else-is_empty g c =
    let words = g.M.Worded.words c.args.setting.now.machine in
    let w = world_of c.args.setting.now in
    let formula = c.args.formula.now in
    let set = set_of c.args.played.now in
    let fewer = set_of c.args.other.now in
    sym c.as_str.ensures.value
    ∙ told_elsewhere words w formula set fewer c.failing_step-limit.result c.as_str.result.now c.is_empty.result c.failing_step-limit.ensures.value
    (c.as_str.ensures.value ∙ c.in_ok-told.ensures) c.is_empty.ensures c.if-is_empty.false
