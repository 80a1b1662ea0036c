use Rattle.std.proofs.Common.{◌≡◌, ◌≢◌, inl, inr, string_bytes}
use Rattle.std.proofs.lemmas.Result.{IfOk-weaker}
use Rattle.lf_scenario.specs.declared.error.ScenarioError.{ScenarioError}
use Rattle.leastfault.specs.Answers.{reaches_in}
use Rattle.leastfault.specs.Known.{known_of}
use Rattle.leastfault.specs.Reports.{no_set_line, refusal, run_status}
use Rattle.leastfault.specs.Shown.{IsToldReply, Tells}
use Rattle.leastfault.proofs.ShownLemmas.{no_set_of}
use Rattle.leastfault.proofs.shown.told_reply.Goals as goal

pub returns-in-Some : goal.returns-in-Some
returns-in-Some c =
    let s = c.in-Ok.scenario in
    let set = c.in-Some.set in
    let chosen = (c.allowed_set.ensures set).0 c.in-Some.is in
    IfOk-weaker c.told_of.result (λ reply. Tells c.args.told s set (string_bytes reply.text) × (reply.value ≡ run_status (reaches_in s set)))
    (λ reply. IsToldReply c.args.told (known_of c.args.known) c.args.faults.now c.args.text.now (string_bytes reply.text) reply.value)
    (λ reply said. inr (s, c.in-Ok.ensures, inr (set, chosen.0, chosen.1, said.0, said.1)))
    c.told_of.ensures

pub returns-in-Ok : goal.returns-in-Ok
returns-in-Ok c =
    let s = c.in-Ok.scenario in
    IfOk-weaker c.no_set.result (λ reply. (string_bytes reply.text ≡ no_set_line) × (reply.value ≡ 2))
    (λ reply. IsToldReply c.args.told (known_of c.args.known) c.args.faults.now c.args.text.now (string_bytes reply.text) reply.value)
    (λ reply said. inr (
      s,
      c.in-Ok.ensures,
      inl (no_set_of c.args.faults.now (string_bytes reply.text) reply.value s c.allowed_set.result c.allowed_set.ensures
          c.in-None.is said.0 said.1),
    ))
    c.no_set.ensures

pub returns : goal.returns
returns c =
    let error = c.in-Err.error in
    IfOk-weaker c.refused.result
    (λ reply. (error ≢ ScenarioError.Memory) × (string_bytes reply.text ≡ refusal error) × (reply.value ≡ 2))
    (λ reply. IsToldReply c.args.told (known_of c.args.known) c.args.faults.now c.args.text.now (string_bytes reply.text) reply.value)
    (λ reply said. inl (error, c.in-Err.ensures said.0, said.1, said.2))
    c.refused.ensures
