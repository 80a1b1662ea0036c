use Rattle.std.proofs.Common.{◌≡◌, [], length, refl, ap, ◌∙◌, arith}
use Rattle.lf_sim.specs.Settings.{world_of}
use Rattle.lf_sim.proofs.RunsLemmas.{start_is}
use Rattle.lf_sim.specs.Outs.{nothing}
use Rattle.lf_sim.specs.Turns.{turns_of}
use Rattle.lf_sim.proofs.InboxLemmas.{length-row, row_more}
use Rattle.lf_sim.proofs.runs.put_starts.Goals as goal

pub loop-node-preserved : goal.loop-node-preserved
loop-node-preserved g c =
    let w = world_of c.args.setting.now in
    let F = c.args.effects.now.set in
    record {
      cells = c.push_silent.ensures.items
          ∙ row_more w F 0 c.loop-node.node [] (turns_of c.loop-node.cells) _ c.loop-node.invariant.cells
          (start_is w F c.loop-node.node c.start.result nothing c.start.ensures refl);
      kept = c.push_silent.ensures.capacity ∙ c.loop-node.invariant.kept;
    }

pub push_silent-requires : goal.push_silent-requires
push_silent-requires g c =
    let w = world_of c.args.setting.now in
    let F = c.args.effects.now.set in
    let long : length (turns_of c.loop-node.cells) ≡ c.loop-node.node =
    ap length c.loop-node.invariant.cells ∙ length-row w F 0 c.loop-node.node in
    omega (arith, long, c.requires.few, c.requires.room, c.loop-node-test.true, c.loop-node.invariant.kept)
