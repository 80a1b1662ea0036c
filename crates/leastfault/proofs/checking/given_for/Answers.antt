use Rattle.std.proofs.Common.{inl, inr}
use Rattle.leastfault.proofs.checking.given_for.Goals as goal

pub returns-in_ok-tree_refused-in-Err : goal.returns-in_ok-tree_refused-in-Err
returns-in_ok-tree_refused-in-Err c known text reads =
    let told = c.in_ok-tree_refused-in-Err.ensures in
    inr (c.args.scenario, reads, inl (c.in-Err.fault, c.in-Err.ensures.refused told.0, told.1, told.2))
