use Rattle.lf_sim.specs.Runs.{is_up}
use Rattle.lf_sim.specs.Settings.{set_of, world_of}
use Rattle.lf_outcome.specs.Truth.{is_down}
use Rattle.lf_outcome.proofs.LoopsLemmas.{node-down, node-up, off, on}
use Rattle.lf_outcome.proofs.entries.push_up_at.Goals.{then-up+in_ok-push, else-up}
use Rattle.lf_outcome.proofs.entries.push_up_at.Goals as goal

pub nodes-preserved : goal.nodes-preserved
nodes-preserved g c =
    let w = world_of c.args.setting.now in
    let faults = set_of c.args.run.now in
    let up = is_up w faults c.nodes.node c.args.step in
    let sofar = c.nodes.points.items in
    elim c.if-up.branch [
      | then-up+in_ok-push x ↦ rw x.points-is (node-up (is_down w faults) c.nodes.node c.args.step c.args.points.now.items sofar c.nodes.invariant
          x.push.new.self.items (on c.up.result up (c.up.ensures.meaning w c.requires) x.if-up.true) x.in_ok-push.ensures.items)
      | else-up x ↦ rw x.points-is (node-down (is_down w faults) c.nodes.node c.args.step c.args.points.now.items sofar c.nodes.invariant
          (off c.up.result up (c.up.ensures.meaning w c.requires) x.if-up.false))
    ]
