use Rattle.std.proofs.Common.{◌≡◌, rules, suc, string_bytes, arith, ap, ◌∙◌, ◌++◌}
use Rattle.lf_sim.specs.Settings.{set_of, world_of}
use Rattle.lf_trace.specs.Traces.{end_word}
use Rattle.lf_trace.specs.Beside.{ends, step_beside}
use Rattle.lf_trace.proofs.ChangeLines.{all_told}
use Rattle.lf_trace.proofs.runs.beside.Goals as goal

pub returns : goal.returns
returns g c =
    let words = g.M.Worded.words c.args.setting.now.machine in
    let w = world_of c.args.setting.now in
    let other = set_of c.args.other.now in
    let faults = set_of c.args.run.now in
    let all : c.steps.past ≡ w.horizon = search (rules, arith) in
    all_told (string_bytes c.steps.text) (string_bytes c.push_ends.new.text) (ends (end_word w other c.args.formula.now) (end_word w faults c.args.formula.now))
    (λ past. step_beside words w other faults (suc past)) c.steps.past w.horizon c.steps.invariant all
    (c.in_ok-push_ends.ensures ∙ ap (λ word. string_bytes c.steps.text ++ ends word c.end_word-2.result.now) c.end_word.ensures
    ∙ ap (λ word. string_bytes c.steps.text ++ ends (end_word w other c.args.formula.now) word) c.end_word-2.ensures)
