use Rattle.std.proofs.Common.{◌∙◌, arith, ap}
use Rattle.lf_latency.specs.Arrivals.{IsTiming, IsSlot, arrival_of}
use Rattle.lf_latency.proofs.Laws.{arrival-late, arrival-later, arrival-soon, arrival-within}
use Rattle.lf_latency.proofs.Places.{IsTable-place}
use Rattle.lf_latency.proofs.network.Network.arrival.Goals as goal

pub returns-clause-value : goal.returns-clause-value
returns-clause-value c =
    let slot : IsSlot c.self.inside.timing c.args.from c.args.to c.args.step = rw c.self.view_is c.requires in
    c.from.ensures
    ∙ IsTable-place c.self.inside.timing c.self.inside.arrivals c.args.from c.args.to c.args.step _
    c.self.invariant slot (omega arith)
    ∙ ap (λ x. arrival_of x c.args.from c.args.to c.args.step) c.self.view_is

pub returns-clause-late : goal.returns-clause-late
returns-clause-late c =
    let limits : IsTiming c.args.self.now = rw (← c.self.view_is) c.self.invariant.limits in
    rw (returns-clause-value c) (arrival-late c.args.self.now c.args.from c.args.to c.args.step limits c.requires)

pub returns-clause-soon : goal.returns-clause-soon
returns-clause-soon c =
    let limits : IsTiming c.args.self.now = rw (← c.self.view_is) c.self.invariant.limits in
    rw (returns-clause-value c) (arrival-soon c.args.self.now c.args.from c.args.to c.args.step limits c.requires)

pub returns-clause-later : goal.returns-clause-later
returns-clause-later c =
    let limits : IsTiming c.args.self.now = rw (← c.self.view_is) c.self.invariant.limits in
    rw (returns-clause-value c) (arrival-later c.args.self.now c.args.from c.args.to c.args.step limits c.requires)

pub returns-clause-within : goal.returns-clause-within
returns-clause-within c =
    let limits : IsTiming c.args.self.now = rw (← c.self.view_is) c.self.invariant.limits in
    rw (returns-clause-value c) (arrival-within c.args.self.now c.args.from c.args.to c.args.step limits c.requires)

pub returns-clause-small : goal.returns-clause-small
returns-clause-small c =
    let limits : IsTiming c.args.self.now = rw (← c.self.view_is) c.self.invariant.limits in
    omega (arith, returns-clause-within c, c.requires.last, limits.horizon_at_most)
