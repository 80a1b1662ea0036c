use Rattle.std.proofs.Common.{arith}
use Rattle.lf_sim.proofs.TurnsLemmas.{length-turns}
use Rattle.lf_sim.proofs.turns.Turns.len.Goals as goal

pub returns : goal.returns
returns g c =
    let turns = c.args.self.now in
    omega (arith, c.len.ensures, turns.kept.ok.0, length-turns turns.outs.items 0 turns.kept.items)
