use Rattle.std.proofs.Common.{arith}
use Rattle.lf_sim.specs.Settings.{horizon_of, nodes_of, set_of, world_of}
use Rattle.lf_outcome.specs.Truth.{counts, is_down}
use Rattle.lf_outcome.proofs.LoopsLemmas.{all-anywhere, at-most, run-within, step-counts, step-fails}
use Rattle.lf_outcome.proofs.entries.are_within.Goals as goal

pub returns-then-not-are_within_at : goal.returns-then-not-are_within_at
returns-then-not-are_within_at g c =
    let w = world_of c.args.setting.now in
    step-fails w (set_of c.args.run.now) c.args.nodes c.args.last c.min-few.result c.min-end.result
    (at-most c.min-few.result c.args.nodes c.nodes.result (nodes_of c.args.run.now) w.rules.nodes c.min-few.ensures c.nodes.ensures.value c.requires.nodes)
    (at-most c.min-end.result c.args.last c.horizon.result (horizon_of c.args.run.now) w.horizon c.min-end.ensures c.horizon.ensures.value c.requires.horizon)
    (counts c.args.limit.now) c.steps.before c.are_within_at.result c.steps-test.true c.are_within_at.ensures c.if-not-are_within_at.true

pub steps-preserved : goal.steps-preserved
steps-preserved g c =
    let w = world_of c.args.setting.now in
    step-counts (is_down w (set_of c.args.run.now)) (counts c.args.limit.now) c.min-few.result c.steps.before c.are_within_at.result
    c.are_within_at.ensures c.if-not-are_within_at.false c.steps.invariant

pub returns : goal.returns
returns g c =
    let w = world_of c.args.setting.now in
    run-within w (set_of c.args.run.now) c.args.nodes c.args.last c.min-few.result c.min-end.result
    (at-most c.min-few.result c.args.nodes c.nodes.result (nodes_of c.args.run.now) w.rules.nodes c.min-few.ensures c.nodes.ensures.value c.requires.nodes)
    (at-most c.min-end.result c.args.last c.horizon.result (horizon_of c.args.run.now) w.horizon c.min-end.ensures c.horizon.ensures.value c.requires.horizon)
    (counts c.args.limit.now) c.steps.before (omega arith) c.steps.invariant

pub returns-then-is_none : goal.returns-then-is_none
returns-then-is_none g c =
    all-anywhere (world_of c.args.setting.now) (set_of c.args.run.now) c.args.limit.now c.args.nodes c.args.last
    c.is_none.result c.is_none.ensures c.if-is_none.true
