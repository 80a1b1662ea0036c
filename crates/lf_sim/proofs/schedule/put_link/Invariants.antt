use Rattle.std.proofs.Common.{◌≡◌, ◌+◌, ◌++◌, length, take}
use Rattle.lf_latency.specs.Arrivals.{arrival_of}
use Rattle.lf_sim.specs.Schedules.{slots_from}
use Rattle.lf_sim.proofs.schedule.put_link.Given as goal

-- the slots before this step
abbrev pub invariant-loop-sent : goal.invariant-loop-sent
invariant-loop-sent l =
    record {
      counted : l.end ≡ l.start + length (slots_from (arrival_of l.network) l.to l.step l.from l.sent);
      filled : take l.end l.slots ≡ take l.start l.initial.slots ++ slots_from (arrival_of l.network) l.to l.step l.from l.sent;
    }
