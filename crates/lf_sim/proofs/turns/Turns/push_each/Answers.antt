use Rattle.std.proofs.Common.{ap, ◌∙◌, arith}
use Rattle.lf_sim.specs.declared.sends.Sends.TheVariants.{Each}
use Rattle.lf_sim.specs.Turns.{turns_from}
use Rattle.lf_sim.proofs.TurnsLemmas.{length-turns, turns-more}
use Rattle.lf_sim.proofs.turns.Turns.push_each.Goals as goal

pub put_out-requires : goal.put_out-requires
put_out-requires g c =
    let turns = c.args.self.now in
    omega (arith, c.requires, turns.room, c.len-place.ensures, turns.kept.ok.0, length-turns turns.outs.items 0 turns.kept.items)

pub push_reserved-requires : goal.push_reserved-requires
push_reserved-requires g c =
    let turns = c.args.self.now in
    omega (arith, c.requires, turns.kept.ok.0, length-turns turns.outs.items 0 turns.kept.items)

pub returns-clause-items : goal.returns-clause-items
returns-clause-items g c =
    let turns = c.args.self.now in
    ap (λ ks. turns_from 0 ks c.put_out.new.outs.items) c.push_reserved.ensures.items
    ∙ turns-more turns.outs.items c.put_out.new.outs.items turns.kept.items (record { state = c.args.turn.now.state; sends = Each }) c.len-place.result
    c.args.turn.now.out (omega (arith, c.len-place.ensures, turns.kept.ok.0)) c.put_out.ensures.there c.put_out.ensures.others
