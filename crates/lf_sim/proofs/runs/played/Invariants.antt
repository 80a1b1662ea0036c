use Rattle.std.proofs.Common.{◌≡◌, ◌+◌, vec_capacity}
use Rattle.lf_sim.specs.Settings.{world_of}
use Rattle.lf_sim.specs.Tables.{table}
use Rattle.lf_sim.specs.Turns.{turns_of, room_of}
use Rattle.lf_sim.proofs.runs.played.Given as goal

-- the steps so far
abbrev pub invariant-loop-t : goal.invariant-loop-t
invariant-loop-t g l =
    record {
      cells : turns_of l.cells ≡ table (world_of l.setting) l.effects.set (l.t + 1);
      kept : room_of l.cells ≡ room_of l.initial.cells;
      letters : vec_capacity l.inbox ≡ vec_capacity l.initial.inbox;
    }
