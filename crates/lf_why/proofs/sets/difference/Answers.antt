use Rattle.std.proofs.Common.{◌≡◌, ◌∙◌, ap, string_bytes}
use Rattle.std.proofs.lemmas.Result.{IfOk-weaker}
use Rattle.lf_trace.specs.First.{first_difference}
use Rattle.lf_sim.specs.Settings.{set_of, world_of}
use Rattle.lf_why.specs.Sets.{difference, stop_difference, stops_at}
use Rattle.lf_why.proofs.Differences.{of_omission, of_stop}
use Rattle.lf_why.proofs.sets.difference.Goals as goal

pub returns-then-stops_at : goal.returns-then-stops_at
returns-then-stops_at g c =
    let words = g.M.Worded.words c.args.setting.now.machine in
    let w = world_of c.args.setting.now in
    let formula = c.args.formula.now in
    let set = set_of c.args.played.now in
    let fewer = set_of c.args.other.now in
    let place = c.args.place in
    let tested : c.stops_at.result ≡ stops_at set place = c.stops_at.ensures ∙ ap (λ s. stops_at s place) c.set.ensures in
    let is = of_stop words w formula set fewer place c.stops_at.result c.requires.fewer tested c.if-stops_at.true in
    IfOk-weaker c.stop_difference.result (λ text. string_bytes text ≡ stop_difference words w formula set fewer)
    (λ text. string_bytes text ≡ difference words w formula set place) (λ text so. so ∙ is) c.stop_difference.ensures

pub returns-else-stops_at : goal.returns-else-stops_at
returns-else-stops_at g c =
    let words = g.M.Worded.words c.args.setting.now.machine in
    let w = world_of c.args.setting.now in
    let formula = c.args.formula.now in
    let set = set_of c.args.played.now in
    let fewer = set_of c.args.other.now in
    let place = c.args.place in
    let tested : c.stops_at.result ≡ stops_at set place = c.stops_at.ensures ∙ ap (λ s. stops_at s place) c.set.ensures in
    let is = of_omission words w formula set fewer place c.stops_at.result c.requires.fewer tested c.if-stops_at.false in
    IfOk-weaker c.first_difference.result (λ text. string_bytes text ≡ first_difference words w fewer set)
    (λ text. string_bytes text ≡ difference words w formula set place) (λ text so. so ∙ is) c.first_difference.ensures
