use Rattle.std.proofs.Common.{ap, inr, string_bytes, ◌∙◌}
use Rattle.leastfault.specs.Known.{known_of}
use Rattle.leastfault.proofs.ReplyLemmas.{search_refused, shared_found}
use Rattle.leastfault.proofs.workers.shared_reply.Goals as goal

pub returns-in-Ok : goal.returns-in-Ok
returns-in-Ok g c =
    shared_found (known_of c.args.known) c.args.wanted c.args.workers c.args.text.now c.in-Ok.scenario c.searched.result c.in-Ok.ensures
    c.searched.ensures

pub returns-in_ok-refusal-in-Err : goal.returns-in_ok-refusal-in-Err
returns-in_ok-refusal-in-Err g c =
    let told = c.in_ok-refusal-in-Err.ensures in (
      search_refused (known_of c.args.known) c.args.wanted c.args.text.now c.in-Err.error c.without_tree.result (c.in-Err.ensures told.0)
          (ap string_bytes c.without_tree.ensures.text ∙ told.1) (c.without_tree.ensures.status ∙ told.2) c.without_tree.ensures.tree,
      inr (c.in-Err.error, c.in-Err.ensures told.0),
    )
