use Rattle.std.proofs.Common.{◌≡◌, inl, inr, string_bytes}
use Rattle.std.proofs.lemmas.Result.{IfOk-weaker}
use Rattle.lf_trace.specs.Beside.{beside_by}
use Rattle.lf_sim.specs.Settings.{world_of}
use Rattle.lf_trace.specs.Words.{words_of}
use Rattle.leastfault.specs.Answers.{reaches_in}
use Rattle.leastfault.specs.Reports.{no_set_line, run_status}
use Rattle.leastfault.specs.Shown.{RepliesBeside}
use Rattle.leastfault.proofs.ShownLemmas.{no_set_of}
use Rattle.leastfault.proofs.shown.beside_named.Goals as goal

pub returns-in-Some : goal.returns-in-Some
returns-in-Some c =
    let s = c.args.scenario.now in
    let set = c.args.set.now in
    let besides = c.in-Some.besides in
    IfOk-weaker c.beside_of.result
    (λ reply. (string_bytes reply.text ≡ beside_by (words_of s.setting.machine) (world_of s.setting) besides set s.formula)
    × (reply.value ≡ run_status (reaches_in s set)))
    (λ reply. RepliesBeside c.args.other.now set s (string_bytes reply.text) reply.value)
    (λ reply said. inr (besides, (c.allowed_set.ensures besides).0 c.in-Some.is, said.0, said.1))
    c.beside_of.ensures

pub returns-in-None : goal.returns-in-None
returns-in-None c =
    let s = c.args.scenario.now in
    IfOk-weaker c.no_set.result (λ reply. (string_bytes reply.text ≡ no_set_line) × (reply.value ≡ 2))
    (λ reply. RepliesBeside c.args.other.now c.args.set.now s (string_bytes reply.text) reply.value)
    (λ reply said. inl (no_set_of c.args.other.now (string_bytes reply.text) reply.value s c.allowed_set.result c.allowed_set.ensures c.in-None.is
    said.0 said.1))
    c.no_set.ensures
