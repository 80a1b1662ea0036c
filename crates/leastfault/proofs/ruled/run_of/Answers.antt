use Rattle.std.proofs.Common.{◌≡◌, inl, inr, string_bytes}
use Rattle.std.proofs.lemmas.Result.{IfOk-weaker}
use Rattle.leastfault.specs.Answers.{reaches_in}
use Rattle.leastfault.specs.Replies.{told_trace}
use Rattle.leastfault.specs.Reports.{no_set_line, run_status}
use Rattle.leastfault.specs.Shown.{RepliesRun}
use Rattle.leastfault.proofs.ShownLemmas.{no_set_of}
use Rattle.leastfault.proofs.ruled.run_of.Goals as goal

pub returns-in-None : goal.returns-in-None
returns-in-None c =
    let s = c.args.scenario.now in
    IfOk-weaker c.no_set.result (λ reply. (string_bytes reply.text ≡ no_set_line) × (reply.value ≡ 2))
    (λ reply. RepliesRun c.args.rules c.args.faults.now s (string_bytes reply.text) reply.value)
    (λ reply said. inl (no_set_of c.args.faults.now (string_bytes reply.text) reply.value s c.allowed_set.result c.allowed_set.ensures
    c.in-None.is said.0 said.1))
    c.no_set.ensures

pub returns-in-Some : goal.returns-in-Some
returns-in-Some c =
    let s = c.args.scenario.now in
    let set = c.in-Some.set in
    let chosen = (c.allowed_set.ensures set).0 c.in-Some.is in
    IfOk-weaker c.run_of_set.result (λ reply. (string_bytes reply.text ≡ told_trace c.args.rules s set) × (reply.value ≡ run_status (reaches_in s set)))
    (λ reply. RepliesRun c.args.rules c.args.faults.now s (string_bytes reply.text) reply.value)
    (λ reply said. inr (set, chosen.0, chosen.1, said.0, said.1))
    c.run_of_set.ensures
