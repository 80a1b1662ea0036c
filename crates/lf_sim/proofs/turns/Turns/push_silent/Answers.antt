use Rattle.std.proofs.Common.{ap, ◌∙◌, arith}
use Rattle.lf_sim.specs.declared.sends.Sends.TheVariants.{Nothing}
use Rattle.lf_sim.specs.Turns.{turns_from}
use Rattle.lf_sim.proofs.TurnsLemmas.{length-turns, turns-append}
use Rattle.lf_sim.proofs.turns.Turns.push_silent.Goals as goal

pub push_reserved-requires : goal.push_reserved-requires
push_reserved-requires g c =
    let turns = c.args.self.now in
    omega (arith, c.requires, turns.kept.ok.0, length-turns turns.outs.items 0 turns.kept.items)

pub returns-clause-items : goal.returns-clause-items
returns-clause-items g c =
    let turns = c.args.self.now in
    ap (λ ks. turns_from 0 ks turns.outs.items) c.push_reserved.ensures.items
    ∙ turns-append turns.outs.items 0 turns.kept.items (record { state = c.args.state; sends = Nothing })
