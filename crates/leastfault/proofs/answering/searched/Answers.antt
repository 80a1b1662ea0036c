use Rattle.std.proofs.Common.{subst}
use Rattle.std.specs.Prelude.{IfOk}
use Rattle.leastfault.specs.Searches.{IsFoundFor}
use Rattle.leastfault.proofs.answering.searched.Goals as goal

pub returns-in-Finished : goal.returns-in-Finished
returns-in-Finished g c =
    let ended = rw c.in-Finished.is at c.in_ok-book.ensures in
    subst (λ s. IfOk c.finished.result (IsFoundFor c.args.wanted s)) ended.0 c.finished.ensures
