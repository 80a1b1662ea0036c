use Rattle.std.proofs.Common.{◌≡◌, rules, suc, arith}
use Rattle.lf_sim.specs.Settings.{set_of, world_of}
use Rattle.lf_outcome.specs.Failing.{fails_by}
use Rattle.lf_outcome.proofs.FailingLemmas.{first_found, none_found, none_more}
use Rattle.lf_outcome.proofs.failing.first_failing.Goals as goal

pub steps-preserved : goal.steps-preserved
steps-preserved g c =
    none_more (λ t. fails_by (world_of c.args.setting.now) (set_of c.args.run.now) t c.args.formula.now) c.steps.step c.fails_by.result c.steps.invariant
    c.fails_by.ensures c.if-fails_by.false

pub returns-then-fails_by-clause-step : goal.returns-then-fails_by-clause-step
returns-then-fails_by-clause-step g c =
    let w = world_of c.args.setting.now in
    first_found (λ t. fails_by w (set_of c.args.run.now) t c.args.formula.now) c.steps.step c.fails_by.result c.steps.invariant
    c.fails_by.ensures c.if-fails_by.true (suc w.horizon) (search (rules, arith))

pub returns-clause-step : goal.returns-clause-step
returns-clause-step g c =
    let w = world_of c.args.setting.now in
    let all : c.steps.step ≡ suc w.horizon = search (rules, arith) in
    none_found (λ t. fails_by w (set_of c.args.run.now) t c.args.formula.now) c.steps.step (suc w.horizon) c.steps.invariant all
