use Rattle.std.proofs.Common.{◌≡◌, ◌≢◌, inl, inr, string_bytes}
use Rattle.std.proofs.lemmas.Result.{IfOk-weaker}
use Rattle.lf_scenario.specs.declared.error.ScenarioError.{ScenarioError}
use Rattle.leastfault.specs.Delayed.{IsEveryDelayReply, RepliesEveryDelay}
use Rattle.leastfault.specs.Known.{known_of}
use Rattle.leastfault.specs.Reports.{refusal}
use Rattle.leastfault.proofs.delayed.every_delay_reply.Goals as goal

pub returns-in-Ok : goal.returns-in-Ok
returns-in-Ok g c =
    let s = c.in-Ok.scenario in
    IfOk-weaker c.over_every_delay.result (λ reply. RepliesEveryDelay s (string_bytes reply.text) reply.value)
    (λ reply. IsEveryDelayReply (known_of c.args.known) c.args.text.now (string_bytes reply.text) reply.value)
    (λ reply told. inr (s, c.in-Ok.ensures, told))
    c.over_every_delay.ensures

pub returns-in-Err : goal.returns-in-Err
returns-in-Err g c =
    let error = c.in-Err.error in
    IfOk-weaker c.refused.result
    (λ reply. (error ≢ ScenarioError.Memory) × (string_bytes reply.text ≡ refusal error) × (reply.value ≡ 2))
    (λ reply. IsEveryDelayReply (known_of c.args.known) c.args.text.now (string_bytes reply.text) reply.value)
    (λ reply told. inl (error, c.in-Err.ensures told.0, told.1, told.2))
    c.refused.ensures
