use Rattle.std.proofs.Common.{◌+◌, ◌*◌, sym, ap, ◌∙◌, arith}
use Rattle.std.specs.Prelude.{Some}
use Rattle.std.proofs.lemmas.Nat.{mul-le}
use Rattle.std.proofs.lemmas.Option.{slice_get-get_or}
use Rattle.lf_sim.specs.Turns.{turn_seen, turns_of}
use Rattle.lf_sim.proofs.grid.cell_at.Goals as goal

pub overflow_mul-row : goal.overflow_mul-row
overflow_mul-row g c = omega (arith, mul-le c.args.step c.args.nodes 48 8 c.requires.step c.requires.few)

pub overflow_add-row : goal.overflow_add-row
overflow_add-row g c = omega (arith, mul-le c.args.step c.args.nodes 48 8 c.requires.step c.requires.few, c.requires.node)

pub returns : goal.returns
returns g c =
    slice_get-get_or (turns_of c.args.cells.now) (c.args.step * c.args.nodes + c.args.node) (turn_seen c.seen.result) c.requires.long
    ∙ ap Some (sym c.seen.ensures)
