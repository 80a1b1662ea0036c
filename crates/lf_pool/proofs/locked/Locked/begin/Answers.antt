use Rattle.lf_pool.proofs.HoldLemmas.{was-begun}
use Rattle.lf_pool.proofs.locked.Locked.begin.Goals as goal

pub returns-clause-found : goal.returns-clause-found
returns-clause-found g c =
    let m = c.args.self.now in
    was-begun g.L.Searched.scenario m.book c.take_or_deepen.new.self.book c.take_or_deepen.result m.searches c.take_or_deepen.ensures.begun
