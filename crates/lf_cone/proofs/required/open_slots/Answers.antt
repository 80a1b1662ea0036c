use Rattle.std.proofs.Common.{sym, arith}
use Rattle.lf_cone.proofs.Gathering.{open-bit}
use Rattle.lf_cone.proofs.required.open_slots.Goals as goal

pub returns : goal.returns
returns g c = λ to h.
    let row = c.sender_row.result in
    let bit = open-bit c.args.marks.now.rows c.sent_by.result row to h (omega (arith, c.row.ensures.value, c.row.ensures.byte)) in
    let was = c.sent_by.ensures to h in
    rw (c.row.ensures.value, sym c.sender_row.ensures.value) (λ x. let y = bit.0 x in (was.0 y.0, y.1), λ y. bit.1 (was.1 y.0, y.1))
