use Rattle.std.proofs.Common.{[], ◌∷◌, ◌++◌, ap, ◌∙◌}
use Rattle.lf_sim.specs.Turns.{turn_to, turns_of}
use Rattle.lf_sim.proofs.TurnsLemmas.{same-all}
use Rattle.lf_sim.proofs.turns.Turns.push_short.Goals as goal

pub returns-then-are_all-clause-items : goal.returns-then-are_all-clause-items
returns-then-are_all-clause-items g c =
    c.push_same.ensures.items
    ∙ ap (λ out. turns_of c.args.self.now ++ turn_to c.args.turn.now.state out ∷ [])
    (same-all c.receivers_of.result c.in-Some.note.now c.args.turn.now.out c.receivers_of.ensures (c.are_all.ensures c.if-are_all.true))
