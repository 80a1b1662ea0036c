use Rattle.std.proofs.Common.{◌≡◌}
use Rattle.lf_sim.specs.Settings.{world_of}
use Rattle.lf_sim.specs.Tables.{row_of}
use Rattle.lf_sim.specs.Turns.{turns_of, room_of}
use Rattle.lf_sim.proofs.runs.put_starts.Given as goal

-- the starts of the nodes so far
abbrev pub invariant-loop-node : goal.invariant-loop-node
invariant-loop-node g l =
    record {
      cells : turns_of l.cells ≡ row_of (world_of l.setting) l.effects.set 0 l.node;
      kept : room_of l.cells ≡ room_of l.initial.cells;
    }
