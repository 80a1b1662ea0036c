use Rattle.std.proofs.Common.{◌<◌, length, take, sym, ap, ◌∙◌, arith}
use Rattle.lf_latency.specs.Arrivals.{arrival_of}
use Rattle.lf_sim.proofs.SchedulesLemmas.{link_put, link_count, link_room, link_pass}
use Rattle.lf_sim.proofs.schedule.put_link.Goals as goal
use Rattle.lf_sim.proofs.schedule.put_link.Goals.{then-arrival-step, else-arrival-step}

pub bounds-slots-end : goal.bounds-slots-end
bounds-slots-end c =
    let arrival = arrival_of c.args.network.now in
    let room = link_room arrival c.args.to c.args.step c.args.from c.loop-sent.sent c.loop-sent-test.true c.loop-sent.auto.sent c.requires.apart
    (sym c.arrival.ensures.value ∙ c.if-arrival-step.true) in
    omega (arith, room, c.requires.room, c.loop-sent.invariant.counted, c.loop-sent.auto.slots)

pub loop-sent-preserved : goal.loop-sent-preserved
loop-sent-preserved c =
    let arrival = arrival_of c.args.network.now in
    elim c.if-arrival-step.branch [
      | then-arrival-step b ↦
          let arrives = sym c.arrival.ensures.value ∙ b.if-arrival-step.true in
          let room = link_room arrival c.args.to c.args.step c.args.from c.loop-sent.sent c.loop-sent-test.true c.loop-sent.auto.sent c.requires.apart arrives
          in
          let inside : c.loop-sent.end < length c.loop-sent.slots =
          omega (arith, room, c.requires.room, c.loop-sent.invariant.counted, c.loop-sent.auto.slots) in
          record {
            counted = omega (
              arith,
              b.end-is,
              link_count arrival c.args.to c.args.step c.args.from c.loop-sent.sent c.loop-sent.auto.sent c.requires.apart arrives,
              c.loop-sent.invariant.counted,
            );
            filled = rw (b.end-is, b.slots-is)
                (link_put arrival c.args.to c.args.step c.args.from c.loop-sent.sent c.loop-sent.end c.loop-sent.slots
                (take c.args.start c.args.slots.now) inside c.loop-sent.invariant.filled c.loop-sent.auto.sent c.requires.apart arrives);
          }
      | else-arrival-step b ↦
          let same = link_pass arrival c.args.to c.args.step c.args.from c.loop-sent.sent (λ e. b.if-arrival-step.false (c.arrival.ensures.value ∙ e)) in
          record {
            counted = omega (arith, b.end-is, ap length same, c.loop-sent.invariant.counted);
            filled = rw (b.end-is, b.slots-is, same) c.loop-sent.invariant.filled;
          }
    ]
