use Rattle.std.proofs.Common.{ap, subst, string_bytes, ◌∙◌}
use Rattle.std.specs.Prelude.{IfOk}
use Rattle.std.proofs.lemmas.Result.{IfOk-weaker}
use Rattle.leastfault.specs.Known.{known_of}
use Rattle.leastfault.specs.Replies.{IsSearchedWith, reports_of}
use Rattle.leastfault.specs.Searches.{IsFoundFor}
use Rattle.leastfault.proofs.ReplyLemmas.{search_found, search_refused}
use Rattle.leastfault.proofs.answering.search_reply.Goals as goal

pub returns-in_ok-new-in-Ok : goal.returns-in_ok-new-in-Ok
returns-in_ok-new-in-Ok g c =
    let text = c.args.text.now in
    IfOk-weaker c.searched.result (IsFoundFor c.args.wanted c.in-Ok.scenario)
    (λ found. IsSearchedWith (known_of c.args.known) (reports_of c.args.wanted) text (string_bytes found.text) found.value)
    (λ found is. search_found (known_of c.args.known) c.args.wanted text c.in-Ok.scenario found c.in-Ok.ensures is)
    (subst (λ s. IfOk c.searched.result (IsFoundFor c.args.wanted s)) c.in_ok-new-in-Ok.ensures.ok c.searched.ensures)

pub returns-in_ok-refusal-in-Err : goal.returns-in_ok-refusal-in-Err
returns-in_ok-refusal-in-Err g c =
    let told = c.in_ok-refusal-in-Err.ensures in
    search_refused (known_of c.args.known) c.args.wanted c.args.text.now c.in-Err.error c.without_tree.result (c.in-Err.ensures told.0)
    (ap string_bytes c.without_tree.ensures.text ∙ told.1) (c.without_tree.ensures.status ∙ told.2) c.without_tree.ensures.tree
