use Rattle.std.proofs.Common.{inl}
use Rattle.leastfault.proofs.checking.texts_given.Goals as goal

pub returns-in_ok-refused-in-Err : goal.returns-in_ok-refused-in-Err
returns-in_ok-refused-in-Err c =
    let told = c.in_ok-refused-in-Err.ensures in
    inl (c.in-Err.error, c.in-Err.ensures told.0, told.1, told.2)
