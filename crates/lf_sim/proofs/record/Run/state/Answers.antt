use Rattle.std.proofs.Common.{rules, sym, ap}
use Rattle.std.specs.Option.{option_map}
use Rattle.lf_sim.proofs.record.Run.state.Goals as goal

pub returns-clause-value : goal.returns-clause-value
returns-clause-value g c = ap (option_map (λ done. done.state)) (sym c.cell.ensures)

pub returns-clause-meaning : goal.returns-clause-meaning
returns-clause-meaning g c = search rules
