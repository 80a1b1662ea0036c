use Rattle.std.proofs.Common.{◌≡◌, string_bytes}
use Rattle.std.proofs.lemmas.Result.{IfOk-weaker}
use Rattle.leastfault.specs.Delayed.{RepliesEveryDelay, late_report}
use Rattle.leastfault.proofs.DelayedLemmas.{late_of}
use Rattle.leastfault.proofs.delayed.tight_reply.Goals as goal

pub returns : goal.returns
returns c =
    let s = c.args.scenario in
    let t = c.in_ok-scenario.scenario in
    let set = c.args.answer.0 in
    let arrivals = c.in_ok-scenario.tight in
    let found = c.in_ok-scenario.ensures in
    IfOk-weaker c.late_reply.result (λ reply. (string_bytes reply.text ≡ late_report t set arrivals) × (reply.value ≡ 1))
    (λ reply. RepliesEveryDelay s (string_bytes reply.text) reply.value)
    (λ reply told. late_of s t set c.args.answer.1 arrivals (string_bytes reply.text) reply.value c.requires found.like found.arrivals found.misses
    found.tight told.0 told.1)
    c.late_reply.ensures
