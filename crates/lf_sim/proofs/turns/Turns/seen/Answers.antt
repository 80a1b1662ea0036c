use Rattle.std.proofs.Common.{◌<◌, length, arith}
use Rattle.lf_sim.proofs.TurnsLemmas.{length-turns, turn-seen}
use Rattle.lf_sim.proofs.turns.Turns.seen.Goals as goal

pub index-requires : goal.index-requires
index-requires g c =
    let turns = c.args.self.now in
    omega (arith, c.requires, turns.kept.ok.0, length-turns turns.outs.items 0 turns.kept.items)

pub returns : goal.returns
returns g c =
    let turns = c.args.self.now in
    let inside : c.args.place < length turns.kept.items = omega (arith, c.requires, length-turns turns.outs.items 0 turns.kept.items) in
    turn-seen turns.outs.items turns.kept.items c.args.place _ c.index.result.now c.out.result.now inside c.index.ensures c.out.ensures
