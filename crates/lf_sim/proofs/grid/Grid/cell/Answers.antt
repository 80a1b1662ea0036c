use Rattle.std.proofs.Common.{◌+◌, ◌*◌, ◌≤◌, arith}
use Rattle.std.proofs.Math.Nat.{mul-le-mul_right}
use Rattle.lf_sim.proofs.grid.Grid.cell.Goals as goal

pub cell_at-requires-clause-long : goal.cell_at-requires-clause-long
cell_at-requires-clause-long g c =
    let grid = c.args.self.now in
    let rows : (c.args.step + 1) * grid.nodes ≤ (grid.horizon + 1) * grid.nodes = mul-le-mul_right grid.nodes (omega (arith, c.requires.step)) in
    omega (arith, rows, c.requires.node, grid.whole)
