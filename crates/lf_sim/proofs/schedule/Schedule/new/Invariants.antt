use Rattle.std.proofs.Common.{◌≡◌, ℕ, ◌≤◌, length, take, slice_index}
use Rattle.lf_latency.specs.Arrivals.{arrival_of}
use Rattle.lf_sim.specs.Runs.{each_below}
use Rattle.lf_sim.specs.Schedules.{row_at}
use Rattle.lf_sim.proofs.schedule.Schedule.new.Given as goal

-- the rows before this one, and where they start
abbrev pub invariant-loop-row : goal.invariant-loop-row
invariant-loop-row l =
    let row = row_at (arrival_of l.network) l.network.nodes l.network.horizon in
    record {
      room : length l.slots ≡ 3072;
      places : length l.starts ≡ 385;
      counted : l.end ≡ length (each_below row l.row);
      filled : take l.end l.slots ≡ each_below row l.row;
      begun : (k : ℕ) → k ≤ l.row → slice_index l.starts k ≡ length (each_below row k);
    }
