use Rattle.std.proofs.Common.{◌≡◌, ◌-◌, take, length, ap, ◌∙◌, arith}
use Rattle.std.specs.Prelude.{vec_len}
use Rattle.lf_sim.specs.Turns.{turns_from, turns_of}
use Rattle.lf_sim.proofs.TurnsLemmas.{length-turns, turns-take}
use Rattle.lf_sim.proofs.turns.Turns.drop_last.Goals as goal

pub returns-clause-items : goal.returns-clause-items
returns-clause-items g c =
    let turns = c.args.self.now in
    let all : vec_len turns.kept ≡ length (turns_of turns) = omega (arith, turns.kept.ok.0, length-turns turns.outs.items 0 turns.kept.items) in
    ap (λ ks. turns_from 0 ks turns.outs.items) c.pop-last.ensures.rest
    ∙ turns-take turns.outs.items 0 (vec_len turns.kept - 1) turns.kept.items
    ∙ ap (λ k. take (k - 1) (turns_of turns)) all
