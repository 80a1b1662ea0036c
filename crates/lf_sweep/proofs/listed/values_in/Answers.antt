use Rattle.std.proofs.Common.{◌≡◌, ◌+◌, arith, length, map, string_bytes}
use Rattle.std.proofs.lemmas.List.{length-map}
use Rattle.std.proofs.lemmas.Result.{err_from_is_err_and}
use Rattle.lf_sweep.proofs.ListedLemmas.{next_before, no_list}
use Rattle.lf_sweep.proofs.listed.values_in.Goals as goal

pub returns-in_err-end-2 : goal.returns-in_err-end-2
returns-in_err-end-2 c =
    let p = err_from_is_err_and c.from_residual-in_err-end-2.result c.from_residual-in_err-end-2.ensures.1 in
    let words = map string_bytes c.add.new.words.items in
    let before =
    next_before (map string_bytes c.values.words.items) words c.args.text.now c.values.rest.now c.split_at.result.0.now c.range_from-rest.result.now
    c.values.end c.values.invariant.1 c.values.invariant.2 c.values-test.true c.split_at.ensures.front c.range_from-rest.ensures.value
    c.in_ok-add.ensures in
    let counted : c.len.result + 1 ≡ length words + 1 = omega (arith, c.len.ensures, length-map c.add.new.words.items string_bytes) in
    rw (p.1, p.2)
    (no_list words c.args.text.now c.range_from-rest.result.now (c.len.result + 1) c.in_err-end-2.field-0.0 before c.in_err-end-2.ensures.value counted)

pub values-preserved : goal.values-preserved
values-preserved c =
    let before =
    next_before (map string_bytes c.values.words.items) (map string_bytes c.add.new.words.items) c.args.text.now c.values.rest.now c.split_at.result.0.now
    c.range_from-rest.result.now c.values.end c.values.invariant.1 c.values.invariant.2 c.values-test.true c.split_at.ensures.front
    c.range_from-rest.ensures.value c.in_ok-add.ensures in
    (c.range_from-rest.utf8, before, c.in_ok-end-2.ensures.value, c.in_ok-end-2.ensures.boundary, c.in_ok-end-2.ensures.behind)
