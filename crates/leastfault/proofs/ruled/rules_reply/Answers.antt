use Rattle.std.proofs.Common.{◌≡◌, ◌≢◌, Some, true, inl, string_bytes}
use Rattle.std.proofs.lemmas.Result.{IfOk-weaker}
use Rattle.lf_sim.specs.Settings.{world_of}
use Rattle.lf_scenario.specs.declared.error.ScenarioError.{ScenarioError}
use Rattle.lf_trace.specs.RuleTraces.{rule_trace}
use Rattle.leastfault.specs.Answers.{reaches_in}
use Rattle.leastfault.specs.Replies.{IsRunReply}
use Rattle.leastfault.specs.Reports.{no_set_line, refusal, run_status}
use Rattle.leastfault.proofs.ReplyLemmas.{run_of_set, run_without_set}
use Rattle.leastfault.proofs.ruled.rules_reply.Goals as goal

pub returns-in-Some : goal.returns-in-Some
returns-in-Some c =
    let words = c.args.faults.now in
    let text = c.args.text.now in
    let s = c.in-Ok.scenario in
    let set = c.in-Some.set in
    IfOk-weaker c.traced.result
    (λ reply. (string_bytes reply.text ≡ rule_trace s.setting.machine (world_of s.setting) set s.formula) × (reply.value ≡ run_status (reaches_in s set)))
    (λ reply. IsRunReply (Some c.args.file.now) true words text (string_bytes reply.text) reply.value)
    (λ reply told. run_of_set (Some c.args.file.now) true words text (string_bytes reply.text) reply.value s set c.in-Ok.ensures.reading
    ((c.allowed_set.ensures set).0 c.in-Some.is) told.0 told.1)
    c.traced.ensures

pub returns-in-Ok : goal.returns-in-Ok
returns-in-Ok c =
    let words = c.args.faults.now in
    let text = c.args.text.now in
    IfOk-weaker c.no_set.result (λ reply. (string_bytes reply.text ≡ no_set_line) × (reply.value ≡ 2))
    (λ reply. IsRunReply (Some c.args.file.now) true words text (string_bytes reply.text) reply.value)
    (λ reply told. run_without_set (Some c.args.file.now) true words text (string_bytes reply.text) reply.value c.in-Ok.scenario c.allowed_set.result
    c.in-Ok.ensures.reading c.allowed_set.ensures c.in-None.is told.0 told.1)
    c.no_set.ensures

pub returns : goal.returns
returns c =
    let error = c.in-Err.error in
    IfOk-weaker c.refused.result
    (λ reply. (error ≢ ScenarioError.Memory) × (string_bytes reply.text ≡ refusal error) × (reply.value ≡ 2))
    (λ reply. IsRunReply (Some c.args.file.now) true c.args.faults.now c.args.text.now (string_bytes reply.text) reply.value)
    (λ reply told. inl (error, c.in-Err.ensures.reading told.0, told.1, told.2))
    c.refused.ensures
