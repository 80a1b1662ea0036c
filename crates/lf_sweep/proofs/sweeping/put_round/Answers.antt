use Rattle.std.proofs.KnownBytes.{Appends-nil}
use Rattle.std.proofs.Common.{◌≡◌, ◌≤◌, ◌+◌, ◌-◌, [], ◌*◌, ◌<◌, add-mul, arith, false, refl, sym, ◌∙◌, inl}
use Rattle.std.proofs.lemmas.Result.{err_from_is_err_and}
use Rattle.lf_sweep.specs.declared.fault.SweepFault.TheVariants as faults
use Rattle.lf_sweep.specs.Faults.{HasCause, is_write}
use Rattle.lf_sweep.specs.Rows.{AreLinesAt}
use Rattle.lf_sweep.proofs.LineLemmas.{all_is, begun, begun_put, fault_there, found_there, lane_ends, more_written}
use Rattle.lf_sweep.proofs.LineLemmas.{none_written, place_fits, put_early, write_alone}
use Rattle.lf_sweep.proofs.sweeping.put_round.Goals as goal

pub returns-in_default : goal.returns-in_default
returns-in_default g c =
    let q = c.args.questions.now in
    let N = g.Q.Questions.total q in
    let R = g.Q.Questions.is_reply q in
    let L = g.Q.Questions.line q in
    let F = g.Q.Questions.refuses q in
    let old = c.args.writer.now in
    let r = c.args.round in
    let none = c.requires.writer in
    put_early g.W.Sink.written g.W.Sink.has_failed N R L F c.args.part r.place (r.lanes * r.size) old old faults.Memory (
      [],
      [],
      0,
      record {
        rows =
            tt;
        together = refl;
      },
      Appends-nil (g.W.Sink.written old),
    )
    (λ other. inl refl) none

pub lanes-init : goal.lanes-init
lanes-init g c =
    let q = c.args.questions.now in
    let N = g.Q.Questions.total q in
    let R = g.Q.Questions.is_reply q in
    let L = g.Q.Questions.line q in
    let F = g.Q.Questions.refuses q in
    let old = c.args.writer.now in
    let r = c.args.round in
    none_written g.W.Sink.written g.W.Sink.has_failed N R L F c.args.part r.place (0 * r.size) old c.empty-counts.result (omega arith)
    c.empty-counts.ensures c.requires.writer

pub returns-in_err-put-in-Ok-index : goal.returns-in_err-put-in-Ok-index
returns-in_err-put-in-Ok-index g c =
    let p = err_from_is_err_and c.from_residual.result c.from_residual.ensures.1 in
    let q = c.args.questions.now in
    let N = g.Q.Questions.total q in
    let R = g.Q.Questions.is_reply q in
    let L = g.Q.Questions.line q in
    let F = g.Q.Questions.refuses q in
    let old = c.args.writer.now in
    let r = c.args.round in
    let lane = c.lanes.lane in
    let below : lane < r.lanes = omega (arith, c.lanes-test.true, c.len-lane-end.ensures, c.in-Ok.ensures.lanes) in
    let here =
    found_there (AreLinesAt N R L c.args.part (r.place + lane * r.size) r.size) c.in-Ok.found.items lane
    c.index.result.now c.in-Ok-index.lines c.index.ensures c.in-Ok-index.is (c.in-Ok.ensures.lines lane c.index.result.now below) in
    rw (p.1, p.2)
    (put_early g.W.Sink.written g.W.Sink.has_failed N R L F c.args.part r.place (r.lanes * r.size) old c.put.new.writer
    c.in_err-put-in-Ok-index.field-0.0
    (begun_put g.W.Sink.written g.W.Sink.has_failed N R L F c.args.part r.place (lane * r.size) r.size (r.place + lane * r.size) c.lanes.counts
    c.in-Ok-index.lines.counts old c.lanes.writer
    c.put.new.writer c.in-Ok-index.lines.bytes.items c.as_slice.result.now refl c.as_slice.ensures.value c.lanes.invariant here
    c.in_err-put-in-Ok-index.ensures.front.1)
    (write_alone c.in_err-put-in-Ok-index.field-0.0 c.in_err-put-in-Ok-index.ensures.front.0) c.in_err-put-in-Ok-index.ensures.sink)

pub returns-in-Err : goal.returns-in-Err
returns-in-Err g c =
    let q = c.args.questions.now in
    let N = g.Q.Questions.total q in
    let R = g.Q.Questions.is_reply q in
    let L = g.Q.Questions.line q in
    let F = g.Q.Questions.refuses q in
    let old = c.args.writer.now in
    let r = c.args.round in
    let lane = c.lanes.lane in
    let below : lane < r.lanes = omega (arith, c.lanes-test.true, c.len-lane-end.ensures, c.in-Ok.ensures.lanes) in
    let other =
    fault_there (λ e. is_write e ≡ false) c.in-Ok.found.items lane c.index.result.now c.in-Err.fault c.index.ensures c.in-Err.is
    (c.in-Ok.ensures.sink lane c.index.result.now below) in
    let cause =
    fault_there (HasCause F N c.args.part) c.in-Ok.found.items lane c.index.result.now c.in-Err.fault c.index.ensures c.in-Err.is
    (c.in-Ok.ensures.cause lane c.index.result.now below) in
    put_early g.W.Sink.written g.W.Sink.has_failed N R L F c.args.part r.place (r.lanes * r.size) old c.lanes.writer c.in-Err.fault
    (begun g.W.Sink.written g.W.Sink.has_failed N R L F c.args.part r.place (lane * r.size) c.lanes.counts old c.lanes.writer c.lanes.invariant) (λ
    not. cause) (c.lanes.invariant.1 ∙ sym other)

pub plus-counts-requires : goal.plus-counts-requires
plus-counts-requires g c =
    let r = c.args.round in
    let q = c.args.questions.now in
    let N = g.Q.Questions.total q in
    let R = g.Q.Questions.is_reply q in
    let L = g.Q.Questions.line q in
    let lane = c.lanes.lane in
    let below : lane < r.lanes = omega (arith, c.lanes-test.true, c.len-lane-end.ensures, c.in-Ok.ensures.lanes) in
    let here =
    found_there (AreLinesAt N R L c.args.part (r.place + lane * r.size) r.size) c.in-Ok.found.items lane
    c.index.result.now c.in-Ok-index.lines c.index.ensures c.in-Ok-index.is (c.in-Ok.ensures.lines lane c.index.result.now below) in
    let so_far = c.lanes.invariant.0 in
    let ends = lane_ends r.place lane r.lanes r.size below in
    let small : r.place + lane * r.size ≤ 1000000000 =
    place_fits N c.args.part (r.place + r.lanes * r.size) (r.place + lane * r.size) c.requires.few c.requires.inside (omega (arith, ends, r.sized)) in
    let last = place_fits N c.args.part (r.place + r.lanes * r.size) (r.place + lane * r.size + (r.size - 1)) c.requires.few c.requires.inside (omega (
      arith,
      ends,
      r.sized,
    )) in
    omega (
      arith,
      all_is so_far.0 c.lanes.counts (lane * r.size) so_far.5 so_far.3,
      all_is here.0 c.in-Ok-index.lines.counts r.size here.3 here.2,
      small,
      last,
      r.sized,
    )

pub lanes-preserved : goal.lanes-preserved
lanes-preserved g c =
    let q = c.args.questions.now in
    let N = g.Q.Questions.total q in
    let R = g.Q.Questions.is_reply q in
    let L = g.Q.Questions.line q in
    let F = g.Q.Questions.refuses q in
    let old = c.args.writer.now in
    let r = c.args.round in
    let lane = c.lanes.lane in
    let below : lane < r.lanes = omega (arith, c.lanes-test.true, c.len-lane-end.ensures, c.in-Ok.ensures.lanes) in
    let here =
    found_there (AreLinesAt N R L c.args.part (r.place + lane * r.size) r.size) c.in-Ok.found.items lane
    c.index.result.now c.in-Ok-index.lines c.index.ensures c.in-Ok-index.is (c.in-Ok.ensures.lines lane c.index.result.now below) in
    let split = add-mul lane 1 r.size in
    more_written g.W.Sink.written g.W.Sink.has_failed N R L F c.args.part r.place (lane * r.size) r.size (r.place + lane * r.size) ((lane + 1) *
    r.size) old c.lanes.writer c.put.new.writer
    c.lanes.counts c.in-Ok-index.lines.counts c.plus-counts.result c.in-Ok-index.lines.bytes.items c.as_slice.result.now refl (omega (arith, split))
    c.as_slice.ensures.value c.plus-counts.ensures c.lanes.invariant here c.in_ok-put-in-Ok-index.ensures.all c.in_ok-put-in-Ok-index.ensures.sink
