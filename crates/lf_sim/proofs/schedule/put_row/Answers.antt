use Rattle.std.proofs.Common.{◌++◌, length, take, ap, ◌∙◌, arith}
use Rattle.lf_latency.specs.Arrivals.{arrival_of}
use Rattle.lf_sim.specs.Schedules.{slots_from}
use Rattle.lf_sim.proofs.SchedulesLemmas.{row_put, row_count, row_self, row_room}
use Rattle.lf_sim.proofs.schedule.put_row.Goals as goal
use Rattle.lf_sim.proofs.schedule.put_row.Goals.{then-from-to, else-from-to}

pub put_link-end-requires-clause-room : goal.put_link-end-requires-clause-room
put_link-end-requires-clause-room c =
    let room = row_room (arrival_of c.args.network.now) c.args.to c.args.step c.loop-from.from c.args.nodes c.loop-from-test.true in
    omega (arith, room, c.requires.room, c.loop-from.invariant.counted, c.loop-from.auto.slots)

pub loop-from-preserved : goal.loop-from-preserved
loop-from-preserved c =
    let arrival = arrival_of c.args.network.now in
    elim c.if-from-to.branch [
      | then-from-to b ↦
          record {
            counted = omega (
              arith,
              b.end-is,
              b.put_link-end.ensures.end,
              row_count arrival c.args.to c.args.step c.loop-from.from,
              c.loop-from.invariant.counted,
            );
            filled = rw (b.end-is, b.slots-is)
                (row_put arrival c.args.to c.args.step c.loop-from.from _ (take c.args.start c.args.slots.now)
                (b.put_link-end.ensures.slots
                ∙ ap (λ xs. xs ++ slots_from arrival c.args.to c.args.step c.loop-from.from c.args.step) c.loop-from.invariant.filled));
          }
      | else-from-to b ↦
          let same = row_self arrival c.args.to c.args.step c.loop-from.from b.if-from-to.false in
          record {
            counted = omega (arith, b.end-is, ap length same, c.loop-from.invariant.counted);
            filled = rw (b.end-is, b.slots-is, same) c.loop-from.invariant.filled;
          }
    ]
