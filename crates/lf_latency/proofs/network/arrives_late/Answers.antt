use Rattle.lf_latency.specs.Arrivals.{IsTiming}
use Rattle.lf_latency.proofs.Laws.{arrival-late, arrival-later, arrival-soon, arrival-within}
use Rattle.lf_latency.proofs.network.arrives_late.Goals as goal

pub returns-clause-late : goal.returns-clause-late
returns-clause-late c = λ n m t slot.
    let limits : IsTiming c.args.network.now = rw (← c.network.view_is) c.network.invariant.limits in
    arrival-late c.args.network.now n m t limits slot

pub returns-clause-later : goal.returns-clause-later
returns-clause-later c = λ n m t slot.
    let limits : IsTiming c.args.network.now = rw (← c.network.view_is) c.network.invariant.limits in
    arrival-later c.args.network.now n m t limits slot

pub returns-clause-soon : goal.returns-clause-soon
returns-clause-soon c = λ n m t slot.
    let limits : IsTiming c.args.network.now = rw (← c.network.view_is) c.network.invariant.limits in
    arrival-soon c.args.network.now n m t limits slot

pub returns-clause-within : goal.returns-clause-within
returns-clause-within c = λ n m t slot.
    let limits : IsTiming c.args.network.now = rw (← c.network.view_is) c.network.invariant.limits in
    arrival-within c.args.network.now n m t limits slot
