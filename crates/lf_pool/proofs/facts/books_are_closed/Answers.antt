use Rattle.std.proofs.Common.{◌≡◌, arith}
use Rattle.lf_pool.proofs.HoldLemmas.{answered-one}
use Rattle.lf_pool.proofs.facts.books_are_closed.Goals as goal

pub returns-clause-few : goal.returns-clause-few
returns-clause-few c = λ n counted.
    let same : n ≡ c.answered-answered.result = answered-one c.args.book.now n c.answered-answered.result counted c.answered-answered.ensures in
    omega (arith, same, c.answered-answered.type_inv)
