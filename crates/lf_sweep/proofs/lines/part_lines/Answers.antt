use Rattle.std.proofs.Common.{◌<◌, ◌+◌, ap, arith, refl, ◌∙◌}
use Rattle.std.proofs.lemmas.Result.{err_from_is_err_and}
use Rattle.lf_sweep.specs.Counts.{all_of}
use Rattle.lf_sweep.proofs.LineLemmas.{all_is, cause_at, more_told, one_of_all, one_told, place_fits}
use Rattle.lf_sweep.proofs.lines.part_lines.Goals as goal

pub overflow_add-from : goal.overflow_add-from
overflow_add-from g c =
    let N = g.Q.Questions.total c.args.questions.now in
    let below : c.args.from + c.places.i < c.args.from + c.args.some = omega (arith, c.places-test.true) in
    omega (arith, place_fits N c.args.part (c.args.from + c.args.some) (c.args.from + c.places.i) c.requires.few c.requires.inside below)

pub number-number-requires : goal.number-number-requires
number-number-requires g c =
    let N = g.Q.Questions.total c.args.questions.now in
    place_fits N c.args.part (c.args.from + c.args.some) (c.args.from + c.places.i) c.requires.few c.requires.inside (omega (arith, c.places-test.true))

pub returns-in_err-line-clause-cause : goal.returns-in_err-line-clause-cause
returns-in_err-line-clause-cause g c =
    let p = err_from_is_err_and c.from_residual.result c.from_residual.ensures.1 in
    let q = c.args.questions.now in
    rw (p.1, p.2)
    (cause_at (g.Q.Questions.refuses q) (g.Q.Questions.total q) c.args.part (c.args.from + c.places.i) c.number-number.result c.in_err-line.field-0.0
    c.number-number.ensures (c.requires.inside (c.args.from + c.places.i) (omega (arith, c.places-test.true))) c.in_err-line.ensures.cause)

pub plus-counts-requires : goal.plus-counts-requires
plus-counts-requires g c =
    let N = g.Q.Questions.total c.args.questions.now in
    let so_far = c.places.invariant in
    let one = ap all_of c.of.ensures ∙ one_of_all c.in_ok-line.line.kind in
    let below : c.args.from + c.places.i < c.args.from + c.args.some = omega (arith, c.places-test.true) in
    let small = place_fits N c.args.part (c.args.from + c.args.some) (c.args.from + c.places.i) c.requires.few c.requires.inside below in
    omega (arith, all_is so_far.0 c.places.counts c.places.i so_far.3 so_far.2, one, small)

pub places-preserved : goal.places-preserved
places-preserved g c =
    let q = c.args.questions.now in
    let N = g.Q.Questions.total q in
    let R = g.Q.Questions.is_reply q in
    let L = g.Q.Questions.line q in
    let line = c.in_ok-line.line in
    let inside = c.requires.inside (c.args.from + c.places.i) (omega (arith, c.places-test.true)) in
    more_told N R L c.args.part c.args.from c.places.i 1 (c.args.from + c.places.i) (c.places.i + 1) c.places.bytes.items line.bytes.items
    c.as_slice.result.now c.extend_from_slice.new.self.items c.places.counts c.of.result c.plus-counts.result refl refl c.as_slice.ensures.value
    c.in_ok-extend_from_slice.ensures.items c.plus-counts.ensures c.places.invariant
    (one_told N R L c.args.part (c.args.from + c.places.i) c.number-number.result line c.of.result c.number-number.ensures inside c.of.ensures
    c.in_ok-line.ensures.line)
