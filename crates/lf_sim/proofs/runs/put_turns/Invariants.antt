use Rattle.std.proofs.Common.{◌≡◌, ◌+◌, ◌++◌, vec_capacity}
use Rattle.lf_sim.specs.Settings.{world_of}
use Rattle.lf_sim.specs.Tables.{row_of, table}
use Rattle.lf_sim.specs.Turns.{turns_of, room_of}
use Rattle.lf_sim.proofs.runs.put_turns.Given as goal

-- the steps before, and this one of the nodes so far
abbrev pub invariant-loop-node : goal.invariant-loop-node
invariant-loop-node g l =
    let w = world_of l.setting in
    record {
      cells : turns_of l.cells ≡ table w l.effects.set (l.t + 1) ++ row_of w l.effects.set (l.t + 1) l.node;
      kept : room_of l.cells ≡ room_of l.initial.cells;
      letters : vec_capacity l.inbox ≡ vec_capacity l.initial.inbox;
    }
