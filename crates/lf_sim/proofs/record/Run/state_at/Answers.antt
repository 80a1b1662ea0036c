use Rattle.std.proofs.Common.{sym, ap}
use Rattle.std.specs.Option.{option_map}
use Rattle.lf_sim.proofs.record.Run.state_at.Goals as goal

pub returns : goal.returns
returns g c = ap (option_map (λ done. done.state)) (sym c.cell.ensures)
