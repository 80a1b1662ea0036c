use Rattle.std.proofs.Common.{subst}
use Rattle.lf_delays.specs.Delays.{IsRead}
use Rattle.leastfault.proofs.delayed.given.Goals as goal

pub returns-in-Some : goal.returns-in-Some
returns-in-Some c =
    let s = c.args.scenario in
    let words = c.args.delays.now in
    let read = subst (λ x. IsRead x.network words c.in_ok-read.read) c.setting.ensures c.in_ok-read.ensures.value in (
      c.in-Some.arrivals,
      subst (λ r. IsRead s.setting.network words r) c.in-Some.is read,
      record {
        machine = c.choosing.ensures.machine;
        network = c.choosing.ensures.network;
        spec = c.choosing.ensures.spec;
        formula = c.choosing.ensures.formula;
        max_sets = c.choosing.ensures.max_sets;
      },
    )

pub returns-in_ok-no_delays-in-None : goal.returns-in_ok-no_delays-in-None
returns-in_ok-no_delays-in-None c =
    let s = c.args.scenario in
    let words = c.args.delays.now in
    let read = subst (λ x. IsRead x.network words c.in_ok-read.read) c.setting.ensures c.in_ok-read.ensures.value in
    let said = c.in_ok-no_delays-in-None.ensures in
    (subst (λ r. IsRead s.setting.network words r) c.in-None.is read, said.0, said.1)
