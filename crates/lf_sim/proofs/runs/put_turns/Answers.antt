use Rattle.std.proofs.Common.{◌≡◌, ◌+◌, ◌*◌, ◌≤◌, length, length-append, refl, sym, ap, ◌∙◌, arith}
use Rattle.std.proofs.Math.Nat.{mul-le-mul_right}
use Rattle.lf_sim.specs.Runs.{did}
use Rattle.lf_sim.specs.Settings.{world_of}
use Rattle.lf_sim.specs.Tables.{row_of, table}
use Rattle.lf_sim.specs.Turns.{turns_of}
use Rattle.lf_sim.proofs.InboxLemmas.{length-row, length-table, past_of, row_more}
use Rattle.lf_sim.proofs.runs.put_turns.Goals as goal

pub put_turn-requires-clause-room : goal.put_turn-requires-clause-room
put_turn-requires-clause-room g c =
    let w = world_of c.args.setting.now in
    let F = c.args.effects.now.set in
    let before : (c.args.t + 1) * w.rules.nodes ≡ (c.args.t + 1) * c.args.nodes = ap (λ k. (c.args.t + 1) * k) (sym c.requires.nodes) in
    let rows : (c.args.t + 1) * c.args.nodes ≤ 48 * c.args.nodes = mul-le-mul_right c.args.nodes (omega arith) in
    let long : length (turns_of c.loop-node.cells) ≡ (c.args.t + 1) * w.rules.nodes + c.loop-node.node =
    ap length c.loop-node.invariant.cells ∙ length-append (table w F (c.args.t + 1)) (row_of w F (c.args.t + 1) c.loop-node.node)
    ∙ omega (arith, length-table w F (c.args.t + 1), length-row w F (c.args.t + 1) c.loop-node.node) in
    omega (arith, before, rows, long, c.requires.few, c.requires.room, c.loop-node-test.true, c.loop-node.invariant.kept)

pub put_turn-requires-clause-before : goal.put_turn-requires-clause-before
put_turn-requires-clause-before g c =
    let w = world_of c.args.setting.now in
    let F = c.args.effects.now.set in
    past_of w F (turns_of c.loop-node.cells) (c.args.t + 1) (row_of w F (c.args.t + 1) c.loop-node.node) c.loop-node.invariant.cells

pub loop-node-preserved : goal.loop-node-preserved
loop-node-preserved g c =
    let w = world_of c.args.setting.now in
    let F = c.args.effects.now.set in
    record {
      cells = c.put_turn.ensures.cells
          ∙ row_more w F (c.args.t + 1) c.loop-node.node
          (table w F (c.args.t + 1)) (turns_of c.loop-node.cells) (did w F c.loop-node.node (c.args.t + 1)) c.loop-node.invariant.cells refl;
      kept = c.put_turn.ensures.capacity ∙ c.loop-node.invariant.kept;
      letters = c.put_turn.ensures.letters ∙ c.loop-node.invariant.letters;
    }
