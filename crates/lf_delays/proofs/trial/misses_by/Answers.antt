use Rattle.std.proofs.Common.{ap, ◌∙◌}
use Rattle.lf_delays.specs.Delays.{delayed}
use Rattle.lf_outcome.specs.Truth.{reaches}
use Rattle.lf_sim.specs.Settings.{set_of, world_of}
use Rattle.lf_delays.proofs.Trying.{tried}
use Rattle.lf_delays.proofs.trial.misses_by.Goals as goal

pub returns : goal.returns
returns c =
    let s = c.args.scenario in
    let t = c.choosing-scenario.result in
    let chosen = c.choosing-scenario.ensures in
    tried s t c.args.set.now c.args.delays.now c.arrivals_of-arrivals.result c.holds-reached.result chosen.machine
    chosen.network chosen.spec chosen.formula
    (c.arrivals_of-arrivals.ensures.value ∙ ap (λ x. delayed x.network c.args.delays.now) c.setting.ensures)
    (c.holds-reached.ensures ∙ ap (λ x. reaches (world_of x) (set_of c.in_ok-played.played) c.formula.result.now) c.setting-setting.ensures
    ∙ ap (λ x. reaches (world_of t.setting) x c.formula.result.now) c.in_ok-played.ensures.set
    ∙ ap (reaches (world_of t.setting) c.args.set.now) c.formula.ensures.value)
