use Rattle.std.proofs.Common.{◌<◌, arith}
use Rattle.std.proofs.lemmas.Bool.{lt-ltb, ltb-true}
use Rattle.lf_sim.proofs.TurnsLemmas.{length-turns}
use Rattle.lf_sim.proofs.turns.Turns.has_room.Goals as goal

pub returns : goal.returns
returns g c =
    let turns = c.args.self.now in
    let count = length-turns turns.outs.items 0 turns.kept.items in (
      λ on.
          let less : c.len.result < c.capacity.result = ltb-true c.len.result c.capacity.result on in
          omega (arith, less, c.len.ensures, c.capacity.ensures, turns.kept.ok.0, count),
      λ near.
          lt-ltb c.len.result c.capacity.result (omega (arith, near, c.len.ensures, c.capacity.ensures, turns.kept.ok.0, count)),
    )
