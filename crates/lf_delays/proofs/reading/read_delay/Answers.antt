use Rattle.std.proofs.Common.{refl, lit<, Some, None}
use Rattle.std.proofs.lemmas.Str.Pattern.{rfind_char}
use Rattle.lf_delays.proofs.Texts.{none-spaceless, none-slotless, none-stepless, both_named}
use Rattle.lf_delays.proofs.reading.read_delay.Goals as goal

pub returns-in_err-cut : goal.returns-in_err-cut
returns-in_err-cut c =
    rw c.from_residual.ensures
    (none-spaceless c.args.piece.now c.args.piece.now refl (rfind_char 32 c.args.piece.now None c.in_err-cut.ensures.cases (lit< tt)))

pub returns-in_err-slot : goal.returns-in_err-slot
returns-in_err-slot c =
    let last = rfind_char 32 c.args.piece.now (Some c.in_ok-cut.cut) c.in_ok-cut.ensures.cases (lit< tt) in
    rw c.from_residual-in_err-slot.ensures
    (none-slotless c.args.piece.now c.as_bytes-bytes.result.now c.as_bytes-bytes.ensures.value c.in_ok-cut.cut last.0 last.1 last.2 c.in_err-slot.ensures)

pub returns-in_err-at : goal.returns-in_err-at
returns-in_err-at c =
    let last = rfind_char 32 c.args.piece.now (Some c.in_ok-cut.cut) c.in_ok-cut.ensures.cases (lit< tt) in
    rw c.from_residual-in_err-at.ensures
    (none-stepless c.args.piece.now c.as_bytes-bytes.result.now c.as_bytes-bytes.ensures.value c.in_ok-cut.cut last.0 last.1 last.2 c.in_err-at.ensures)

pub returns : goal.returns
returns c =
    let last = rfind_char 32 c.args.piece.now (Some c.in_ok-cut.cut) c.in_ok-cut.ensures.cases (lit< tt) in
    both_named c.args.piece.now c.as_bytes-bytes.result.now c.as_bytes-bytes.ensures.value c.in_ok-cut.cut last.0 last.1 last.2
    (record { slot = c.in_ok-slot.slot; at = c.in_ok-at.at }) c.in_ok-slot.ensures c.in_ok-at.ensures
