use Rattle.std.proofs.Common.{◌+◌, arith}
use Rattle.lf_sim.specs.Settings.{world_of}
use Rattle.lf_sim.specs.Turns.{turn_seen, turns_of}
use Rattle.lf_sim.proofs.InboxLemmas.{past_is, past_long}
use Rattle.lf_sim.proofs.past.Past.cell.Goals as goal

pub cell_at-requires-clause-long : goal.cell_at-requires-clause-long
cell_at-requires-clause-long g c =
    let p = c.args.self.now in
    past_long (world_of p.setting.now) p.effects.now.set (turns_of p.cells.now) (p.t + 1) p.nodes c.args.node c.args.step p.done p.nodes_agree c.requires.node
    (omega (arith, c.requires.step))

pub returns : goal.returns
returns g c =
    let p = c.args.self.now in
    past_is (world_of p.setting.now) p.effects.now.set (turns_of p.cells.now)
    (p.t + 1) p.nodes c.args.node c.args.step (turn_seen c.cell_at.result) p.done p.nodes_agree c.requires.node (omega (arith, c.requires.step)) c.cell_at.ensures
