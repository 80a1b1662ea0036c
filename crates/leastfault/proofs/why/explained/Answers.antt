use Rattle.std.proofs.Common.{◌≡◌, ◌∙◌, subst, string_bytes}
use Rattle.std.proofs.lemmas.Result.{IfOk-weaker}
use Rattle.leastfault.specs.declared.answering.Wanted.TheVariants as wanted
use Rattle.leastfault.specs.Replies.{RepliesSearch}
use Rattle.leastfault.specs.Searches.{IsFoundFor}
use Rattle.leastfault.specs.Why.{HasReasons, RepliesWhy}
use Rattle.leastfault.proofs.WhyLemmas.{reasons_are_told}
use Rattle.leastfault.proofs.why.explained.Goals as goal

pub returns-in-Some : goal.returns-in-Some
returns-in-Some g c =
    let s = c.args.scenario in
    let found = c.in_ok-text.field-0 in
    let tree = c.in-Some.tree in
    let made = c.in_ok-scenario.ensures.ok in
    let is = subst (λ x. IsFoundFor wanted.Answer x found) (c.in_ok-shared.ensures ∙ made) c.in_ok-text.ensures in
    let here : c.deref.result.now ≡ s = c.deref.ensures ∙ made in
    IfOk-weaker c.with_reasons.result
    (λ reply. HasReasons c.deref.result.now tree (string_bytes found.text) (string_bytes reply.text) × (reply.value ≡ found.value.status))
    (λ reply. RepliesSearch RepliesWhy s (string_bytes reply.text) reply.value)
    (λ reply told. reasons_are_told s found is tree c.in-Some.is (string_bytes reply.text) reply.value
    (subst (λ x. HasReasons x tree (string_bytes found.text) (string_bytes reply.text)) here told.0) told.1)
    c.with_reasons.ensures
