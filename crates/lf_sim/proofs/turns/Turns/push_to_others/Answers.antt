use Rattle.std.proofs.Common.{[], ◌∷◌, ◌++◌, ap, ◌∙◌}
use Rattle.lf_sim.specs.Turns.{turn_to, turns_of}
use Rattle.lf_sim.proofs.TurnsLemmas.{same-others}
use Rattle.lf_sim.proofs.turns.Turns.push_to_others.Goals as goal

pub returns-clause-items : goal.returns-clause-items
returns-clause-items g c =
    c.push_same.ensures.items
    ∙ ap (λ out. turns_of c.args.self.now ++ turn_to c.args.state out ∷ [])
    (same-others c.others.result c.args.nodes c.args.node c.args.note c.others.ensures)
