use Rattle.std.proofs.Common.{◌≡◌, ◌≢◌, inl, inr, string_bytes}
use Rattle.std.proofs.lemmas.Result.{IfOk-weaker}
use Rattle.lf_scenario.specs.declared.error.ScenarioError.{ScenarioError}
use Rattle.leastfault.specs.Known.{known_of}
use Rattle.leastfault.specs.Reports.{refusal}
use Rattle.leastfault.specs.Shown.{IsBesideReply, RepliesBesides}
use Rattle.leastfault.proofs.shown.beside_reply.Goals as goal

pub returns-in-Ok : goal.returns-in-Ok
returns-in-Ok c =
    let s = c.in-Ok.scenario in
    IfOk-weaker c.compared.result (λ reply. RepliesBesides c.args.other.now c.args.faults.now s (string_bytes reply.text) reply.value)
    (λ reply. IsBesideReply c.args.other.now (known_of c.args.known) c.args.faults.now c.args.text.now (string_bytes reply.text) reply.value)
    (λ reply said. inr (s, c.in-Ok.ensures, said))
    c.compared.ensures

pub returns-in-Err : goal.returns-in-Err
returns-in-Err c =
    let error = c.in-Err.error in
    IfOk-weaker c.refused.result
    (λ reply. (error ≢ ScenarioError.Memory) × (string_bytes reply.text ≡ refusal error) × (reply.value ≡ 2))
    (λ reply. IsBesideReply c.args.other.now (known_of c.args.known) c.args.faults.now c.args.text.now (string_bytes reply.text) reply.value)
    (λ reply said. inl (error, c.in-Err.ensures said.0, said.1, said.2))
    c.refused.ensures
