use Rattle.std.proofs.Common.{◌≤◌, ◌+◌, arith, subst, sym, ◌∙◌, refl}
use Rattle.std.proofs.lemmas.Result.{err_from_is_err_and}
use Rattle.lf_sweep.specs.Parts.{IsLengthOf}
use Rattle.lf_sweep.proofs.LineLemmas.{all_is, begun, begun_put, more_written, none_written, place_fits, swept_early, write_alone}
use Rattle.lf_sweep.proofs.sweeping.sweep.Goals as goal

pub places-init : goal.places-init
places-init g c =
    let q = c.args.questions.now in
    let N = g.Q.Questions.total q in
    let R = g.Q.Questions.is_reply q in
    let L = g.Q.Questions.line q in
    let F = g.Q.Questions.refuses q in
    let old = c.args.writer.now in
    none_written g.W.Sink.written g.W.Sink.has_failed N R L F c.args.part 0 0 old c.empty-counts.result refl c.empty-counts.ensures c.requires

pub returns-in_err-line : goal.returns-in_err-line
returns-in_err-line g c =
    let p = err_from_is_err_and c.from_residual.result c.from_residual.ensures.1 in
    let q = c.args.questions.now in
    let N = g.Q.Questions.total q in
    let R = g.Q.Questions.is_reply q in
    let L = g.Q.Questions.line q in
    let F = g.Q.Questions.refuses q in
    let old = c.args.writer.now in
    rw (p.1, p.2)
    (swept_early g.W.Sink.written g.W.Sink.has_failed N R L F c.args.part old c.places.writer c.in_err-line.field-0.0
    (begun g.W.Sink.written g.W.Sink.has_failed N R L F c.args.part 0 c.places.place c.places.counts old c.places.writer c.places.invariant)
    (λ other. c.in_err-line.ensures.cause) (c.places.invariant.1 ∙ sym c.in_err-line.ensures.sink))

pub returns-in_err-put : goal.returns-in_err-put
returns-in_err-put g c =
    let p = err_from_is_err_and c.from_residual-in_err-put.result c.from_residual-in_err-put.ensures.1 in
    let q = c.args.questions.now in
    let N = g.Q.Questions.total q in
    let R = g.Q.Questions.is_reply q in
    let L = g.Q.Questions.line q in
    let F = g.Q.Questions.refuses q in
    let old = c.args.writer.now in
    let line = c.in_ok-line.line in
    rw (p.1, p.2)
    (swept_early g.W.Sink.written g.W.Sink.has_failed N R L F c.args.part old c.put.new.writer c.in_err-put.field-0.0
    (begun_put g.W.Sink.written g.W.Sink.has_failed N R L F c.args.part 0 c.places.place 1 c.places.place c.places.counts line.counts old
    c.places.writer c.put.new.writer line.bytes.items
    c.as_slice.result.now (omega arith) c.as_slice.ensures.value c.places.invariant c.in_ok-line.ensures.lines c.in_err-put.ensures.front.1)
    (write_alone c.in_err-put.field-0.0 c.in_err-put.ensures.front.0) c.in_err-put.ensures.sink)

pub plus-counts-requires : goal.plus-counts-requires
plus-counts-requires g c =
    let N = g.Q.Questions.total c.args.questions.now in
    let few : N ≤ 1000000000 = omega (arith, c.count.ensures.few, c.count.ensures.count) in
    let so_far = c.places.invariant.0 in
    let here = c.in_ok-line.ensures.lines in
    let length = subst (λ n. IsLengthOf c.args.part n c.count-count.result) c.count.ensures.count c.count-count.ensures in
    let small = place_fits N c.args.part c.count-count.result c.places.place few length.inside c.places-test.true in
    omega (arith, all_is so_far.0 c.places.counts c.places.place so_far.5 so_far.3, all_is here.0 c.in_ok-line.line.counts 1 here.3 here.2, small)

pub places-preserved : goal.places-preserved
places-preserved g c =
    let q = c.args.questions.now in
    let N = g.Q.Questions.total q in
    let R = g.Q.Questions.is_reply q in
    let L = g.Q.Questions.line q in
    let F = g.Q.Questions.refuses q in
    let old = c.args.writer.now in
    let line = c.in_ok-line.line in
    more_written g.W.Sink.written g.W.Sink.has_failed N R L F c.args.part 0 c.places.place 1 c.places.place (c.places.place + 1) old c.places.writer
    c.put.new.writer c.places.counts line.counts
    c.plus-counts.result line.bytes.items c.as_slice.result.now (omega arith) refl c.as_slice.ensures.value c.plus-counts.ensures c.places.invariant
    c.in_ok-line.ensures.lines c.in_ok-put.ensures.all c.in_ok-put.ensures.sink
