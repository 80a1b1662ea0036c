use Rattle.std.proofs.Common.{arith, take}
use Rattle.lf_sim.specs.Settings.{horizon_of, nodes_of, set_of, world_of}
use Rattle.lf_outcome.specs.Truth.{entered}
use Rattle.lf_outcome.proofs.LoopsLemmas.{at-most, enters-step, run-single}
use Rattle.lf_outcome.proofs.entries.is_single.Goals as goal

pub steps-preserved : goal.steps-preserved
steps-preserved g c =
    let w = world_of c.args.setting.now in
    record {
      count = omega (arith, c.enter.ensures.count, c.steps.invariant.count, c.min-few.ensures, c.nodes.ensures.few);
      items = enters-step (entered w (set_of c.args.run.now) c.args.topic) c.min-few.result c.steps.before
          (take c.steps.entries.count c.steps.entries.items) (take c.enter.new.entries.count c.enter.new.entries.items) c.enter.ensures.items
          c.steps.invariant.items;
    }

pub returns : goal.returns
returns g c =
    let w = world_of c.args.setting.now in
    run-single w (set_of c.args.run.now) c.args.nodes c.args.last c.min-few.result c.min-end.result
    (at-most c.min-few.result c.args.nodes c.nodes.result (nodes_of c.args.run.now) w.rules.nodes c.min-few.ensures c.nodes.ensures.value c.requires.nodes)
    (at-most c.min-end.result c.args.last c.horizon.result (horizon_of c.args.run.now) w.horizon c.min-end.ensures c.horizon.ensures.value c.requires.horizon)
    c.args.topic c.steps.before (take c.steps.entries.count c.steps.entries.items) c.all_agree.result (omega arith) c.steps.invariant.items c.all_agree.ensures
