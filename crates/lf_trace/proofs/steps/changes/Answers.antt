use Rattle.std.proofs.Common.{◌≡◌, rules, string_bytes, arith}
use Rattle.lf_sim.specs.Settings.{set_of, world_of}
use Rattle.lf_trace.specs.Traces.{end_word}
use Rattle.lf_trace.specs.Changes.{step_changes}
use Rattle.lf_trace.proofs.ChangeLines.{trace_told}
use Rattle.lf_trace.proofs.steps.changes.Goals as goal

pub returns : goal.returns
returns g c =
    let words = g.M.Worded.words c.args.setting.now.machine in
    let w = world_of c.args.setting.now in
    let faults = set_of c.args.run.now in
    let all : c.steps.past ≡ w.horizon = search (rules, arith) in
    trace_told (string_bytes c.steps.text) (string_bytes c.writeln.new.self) c.end_word.result.now (end_word w faults c.args.formula.now)
    (step_changes words w faults) c.steps.past w.horizon c.steps.invariant all c.in_ok-writeln.ensures.bytes c.end_word.ensures
