use Rattle.std.proofs.Common.{◌≡◌, ◌+◌, ◌++◌, length, take}
use Rattle.lf_latency.specs.Arrivals.{arrival_of}
use Rattle.lf_sim.specs.Runs.{each_below}
use Rattle.lf_sim.specs.Schedules.{slots_from}
use Rattle.lf_sim.proofs.schedule.put_row.Given as goal

-- the slots of the senders before this one
abbrev pub invariant-loop-from : goal.invariant-loop-from
invariant-loop-from l =
    let arrival = arrival_of l.network in
    record {
      counted : l.end ≡ l.start + length (each_below (λ n. slots_from arrival l.to l.step n l.step) l.from);
      filled : take l.end l.slots ≡ take l.start l.initial.slots ++ each_below (λ n. slots_from arrival l.to l.step n l.step) l.from;
    }
