use Rattle.std.proofs.Common.{◌≡◌, ◌+◌, ◌/◌, ◌%◌, ◌≤◌, ◌++◌, length, take, sym, ap, ◌∙◌, arith}
use Rattle.std.proofs.Math.ListN.{length-set}
use Rattle.lf_latency.specs.Arrivals.{arrival_of}
use Rattle.lf_sim.specs.Runs.{each_below}
use Rattle.lf_sim.specs.Schedules.{row_at, slots_to}
use Rattle.lf_sim.proofs.SchedulesLemmas.{rows_room, rows_put, rows_counted, rows_pass, begins_more}
use Rattle.lf_sim.proofs.schedule.Schedule.new.Goals as goal
use Rattle.lf_sim.proofs.schedule.Schedule.new.Goals.{then-is_row, else-is_row}

pub put_row-end-requires-clause-room : goal.put_row-end-requires-clause-room
put_row-end-requires-clause-room c =
    let net = c.args.network.now in
    let few : net.nodes ≤ 8 = omega (arith, c.nodes-nodes.ensures.value, c.nodes-nodes.ensures.at_most) in
    let is = rw (c.nodes-nodes.ensures.value, c.horizon-horizon.ensures.value) at (sym c.is_row.ensures ∙ c.if-is_row.true) in
    rw c.nodes-nodes.ensures.value
    (omega (
      arith,
      rows_room (arrival_of net) net.nodes net.horizon c.loop-row.row few c.loop-row-test.true is,
      c.loop-row.invariant.counted,
      c.loop-row.invariant.room,
    ))

pub loop-row-preserved : goal.loop-row-preserved
loop-row-preserved c =
    let net = c.args.network.now in
    let arrival = arrival_of net in
    let row = row_at arrival net.nodes net.horizon in
    let k = c.loop-row.row in
    let inv = c.loop-row.invariant in
    elim c.if-is_row.branch [
      | then-is_row b ↦
          let is = rw (c.nodes-nodes.ensures.value, c.horizon-horizon.ensures.value) at (sym c.is_row.ensures ∙ b.if-is_row.true) in
          let filled : take b.put_row-end.result b.put_row-end.new.slots ≡ each_below row (k + 1) =
          rows_put arrival net.nodes net.horizon k _ is
          (rw c.nodes-nodes.ensures.value at b.put_row-end.ensures.slots ∙ ap (λ xs. xs ++ slots_to arrival net.nodes (k % 8) (k / 8 + 1)) inv.filled) in
          let counted : c.if-is_row.end ≡ length (each_below row (k + 1)) =
          b.end-is ∙ b.put_row-end.ensures.end ∙ rw c.nodes-nodes.ensures.value (rows_counted arrival net.nodes net.horizon k c.loop-row.end is inv.counted) in
          record {
            room = ap length b.slots-is ∙ b.put_row-end.auto.slots ∙ inv.room;
            places = length-set c.loop-row.starts (k + 1) c.if-is_row.end ∙ inv.places;
            counted = counted;
            filled = rw (b.end-is, b.slots-is) filled;
            begun = begins_more c.loop-row.starts row k c.if-is_row.end inv.places c.loop-row-test.true counted inv.begun;
          }
      | else-is_row b ↦
          let is = rw (c.nodes-nodes.ensures.value, c.horizon-horizon.ensures.value) at (sym c.is_row.ensures ∙ b.if-is_row.false) in
          let same = rows_pass arrival net.nodes net.horizon k is in
          let counted : c.if-is_row.end ≡ length (each_below row (k + 1)) = b.end-is ∙ inv.counted ∙ ap length (sym same) in
          record {
            room = ap length b.slots-is ∙ inv.room;
            places = length-set c.loop-row.starts (k + 1) c.if-is_row.end ∙ inv.places;
            counted = counted;
            filled = rw (b.end-is, b.slots-is, same) inv.filled;
            begun = begins_more c.loop-row.starts row k c.if-is_row.end inv.places c.loop-row-test.true counted inv.begun;
          }
    ]
