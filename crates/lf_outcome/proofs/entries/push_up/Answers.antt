use Rattle.std.proofs.Common.{arith}
use Rattle.lf_sim.specs.Settings.{horizon_of, nodes_of, set_of, world_of}
use Rattle.lf_outcome.specs.Truth.{is_down}
use Rattle.lf_outcome.proofs.LoopsLemmas.{at-most, run-up, step-up}
use Rattle.lf_outcome.proofs.entries.push_up.Goals as goal

pub steps-preserved : goal.steps-preserved
steps-preserved g c =
    step-up (is_down (world_of c.args.setting.now) (set_of c.args.run.now)) c.min-few.result c.steps.before c.args.points.now.items c.steps.points.items
    c.push_up_at.new.points.items c.in_ok-push_up_at.ensures c.steps.invariant

pub returns : goal.returns
returns g c =
    let w = world_of c.args.setting.now in
    run-up w (set_of c.args.run.now) c.args.nodes c.args.last c.min-few.result c.min-end.result
    (at-most c.min-few.result c.args.nodes c.nodes.result (nodes_of c.args.run.now) w.rules.nodes c.min-few.ensures c.nodes.ensures.value c.requires.nodes)
    (at-most c.min-end.result c.args.last c.horizon.result (horizon_of c.args.run.now) w.horizon c.min-end.ensures c.horizon.ensures.value c.requires.horizon)
    c.steps.before c.args.points.now.items c.steps.points.items (omega arith) c.steps.invariant
