use Rattle.std.proofs.Common.{take, arith}
use Rattle.lf_sim.specs.Settings.{set_of, world_of}
use Rattle.lf_outcome.specs.Truth.{entered}
use Rattle.lf_outcome.proofs.LoopsLemmas.{enters-none, enters-one}
use Rattle.lf_outcome.proofs.entries.enter.Goals.{in-Some, in_default}
use Rattle.lf_outcome.proofs.entries.enter.Goals as goal

pub nodes-preserved : goal.nodes-preserved
nodes-preserved g c =
    let enters = entered (world_of c.args.setting.now) (set_of c.args.run.now) c.args.topic in
    let before = take c.args.entries.now.count c.args.entries.now.items in
    let sofar = take c.nodes.entries.count c.nodes.entries.items in
    elim c.match-entered.branch [
      | in-Some x ↦ rw x.entries-is (record {
        count = omega (arith, x.push.ensures.count, c.nodes.invariant.count);
        items = enters-one enters c.nodes.node c.args.step before sofar c.entered.result c.entered.ensures c.nodes.invariant.items x.in-Some.entry
            (take x.push.new.self.count x.push.new.self.items) x.in-Some.is x.push.ensures.items;
      })
      | in_default x ↦ rw x.entries-is (record {
        count = omega (arith, c.nodes.invariant.count);
        items = enters-none enters c.nodes.node c.args.step before sofar c.entered.result c.entered.ensures c.nodes.invariant.items x.in_default.is;
      })
    ]
