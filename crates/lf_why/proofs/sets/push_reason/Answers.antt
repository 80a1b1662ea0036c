use Rattle.std.proofs.Common.{◌≡◌, ◌++◌, ap, ◌∙◌, string_bytes}
use Rattle.lf_sim.specs.Settings.{set_of, world_of}
use Rattle.lf_trace.specs.Traces.{end_word}
use Rattle.lf_why.specs.Sets.{difference, head, without}
use Rattle.lf_why.proofs.Told.{two_told}
use Rattle.lf_why.proofs.sets.push_reason.Goals as goal

pub returns : goal.returns
returns g c =
    let words = g.M.Worded.words c.args.setting.now.machine in
    let w = world_of c.args.setting.now in
    let formula = c.args.formula.now in
    let faults = set_of c.args.played.now in
    let place = c.args.place in
    let old = string_bytes c.args.text.now in
    let mid = string_bytes c.push_head.new.text in
    let other : set_of c.in_ok-other.other ≡ without faults place =
    c.in_ok-other.ensures.set ∙ c.without.ensures ∙ ap (λ s. without s place) c.set-set.ensures in
    two_told old mid (string_bytes c.push_str.new.self) (head faults place (end_word w (without faults place) formula))
    (difference words w formula faults place)
    (c.in_ok-push_head.ensures
    ∙ ap (λ s. old ++ head s place c.end_word.result.now) c.set-set.ensures
    ∙ ap (λ word. old ++ head faults place word) (c.end_word.ensures ∙ ap (λ s. end_word w s formula) other))
    (c.in_ok-push_str.ensures.bytes ∙ ap (λ lines. mid ++ lines)
    (c.as_str.ensures.value ∙ c.in_ok-told.ensures))
