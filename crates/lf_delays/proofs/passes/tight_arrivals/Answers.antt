use Rattle.std.proofs.Common.{sym, ap, ◌∙◌, subst}
use Rattle.lf_delays.specs.Delays.{AreDelays, delayed}
use Rattle.lf_delays.specs.Told.{told}
use Rattle.lf_latency.specs.Arrivals.{IsTiming}
use Rattle.lf_sim.specs.Settings.{set_of, world_of}
use Rattle.lf_delays.proofs.Tightening.{first_left, last_misses, last_tight}
use Rattle.lf_delays.proofs.Trying.{left_like, like_chosen, like_on}
use Rattle.lf_delays.proofs.passes.tight_arrivals.Goals as goal

pub needed_delays-requires : goal.needed_delays-requires
needed_delays-requires c =
    let s = c.args.scenario in
    let t = c.choosing-scenario.result in
    let chosen = c.choosing-scenario.ensures in
    first_left s (subst (λ x. IsTiming x.network) c.setting.ensures c.keeps_limits.ensures) c.args.set.now c.args.arrivals.now c.requires.arrivals
    c.requires.misses t c.in_ok-delays.delays.items chosen.machine chosen.network chosen.spec chosen.formula
    (c.in_ok-delays.ensures ∙ ap (λ x. told (world_of x) (set_of c.in_ok-played.played) x.network.links) c.setting-setting.ensures
    ∙ ap (λ x. told (world_of t.setting) x t.setting.network.links) c.in_ok-played.ensures.set)

pub arrivals_of-arrivals-requires : goal.arrivals_of-arrivals-requires
arrivals_of-arrivals-requires c =
    let u = c.in_ok-scenario.scenario in
    let left = left_like c.choosing-scenario.result u c.in_ok-scenario.ensures.like c.args.set.now c.in_ok-scenario.delays.items
    c.in_ok-scenario.ensures.left in
    subst (λ x. AreDelays x.network c.as_slice.result.now) (sym c.setting-2.ensures)
    (subst (AreDelays u.setting.network) (sym c.as_slice.ensures.value) left.are)

pub returns-clause-misses : goal.returns-clause-misses
returns-clause-misses c =
    let s = c.args.scenario in
    let t = c.choosing-scenario.result in
    let u = c.in_ok-scenario.scenario in
    let chosen = c.choosing-scenario.ensures in
    let like = like_chosen s t c.args.arrivals.now chosen.machine chosen.network chosen.spec chosen.formula in
    last_misses s (subst (λ x. IsTiming x.network) c.setting.ensures c.keeps_limits.ensures) c.args.set.now t u like
    (like_on s t u like c.in_ok-scenario.ensures.like) c.in_ok-scenario.delays.items c.in_ok-scenario.ensures.left c.in_ok-scenario.ensures.needed
    c.arrivals_of-arrivals.result
    (c.arrivals_of-arrivals.ensures.value ∙ ap (λ x. delayed x.network c.as_slice.result.now) c.setting-2.ensures
    ∙ ap (delayed u.setting.network) c.as_slice.ensures.value)

pub returns-clause-tight : goal.returns-clause-tight
returns-clause-tight c =
    let s = c.args.scenario in
    let t = c.choosing-scenario.result in
    let u = c.in_ok-scenario.scenario in
    let chosen = c.choosing-scenario.ensures in
    let like = like_chosen s t c.args.arrivals.now chosen.machine chosen.network chosen.spec chosen.formula in
    last_tight s (subst (λ x. IsTiming x.network) c.setting.ensures c.keeps_limits.ensures) c.args.set.now t u like
    (like_on s t u like c.in_ok-scenario.ensures.like) c.in_ok-scenario.delays.items c.in_ok-scenario.ensures.left c.in_ok-scenario.ensures.needed
    c.arrivals_of-arrivals.result
    (c.arrivals_of-arrivals.ensures.value ∙ ap (λ x. delayed x.network c.as_slice.result.now) c.setting-2.ensures
    ∙ ap (delayed u.setting.network) c.as_slice.ensures.value)
