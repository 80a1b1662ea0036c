use Rattle.std.proofs.Common.{ap, ◌∙◌, map, string_bytes}
use Rattle.lf_sweep.proofs.RowLemmas.{row_told}
use Rattle.lf_sweep.proofs.combinations.row.Goals as goal

pub returns-clause-row : goal.returns-clause-row
returns-clause-row g c =
    let reply = c.in_ok-reply.reply in
    row_told (g.A.Asker.replies c.args.asker.now) c.args.study.now.scenario.now c.args.study.now.plan.now.varied.items c.args.number c.varied.result.now
    (map string_bytes c.as_slice.result.now) (map string_bytes c.as_slice-2.result.now) (string_bytes c.in-Ok.text) c.as_bytes.result.now
    (string_bytes reply.text) c.as_str.result.now c.as_str-2.result.now c.in_ok-bytes.bytes.items reply.status c.kind_of-kind.result
    c.varied.ensures (ap (map string_bytes) c.as_slice.ensures.value ∙ c.in_ok-words.ensures)
    (ap (map string_bytes) c.as_slice-2.ensures.value ∙ c.in_ok-words.ensures) c.in-Ok.ensures c.as_bytes.ensures.value c.in_ok-reply.ensures.reply
    c.as_str.ensures.value c.as_str-2.ensures.value c.kind_of-kind.ensures c.in_ok-bytes.ensures
