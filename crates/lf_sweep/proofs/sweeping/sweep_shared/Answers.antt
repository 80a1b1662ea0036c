use Rattle.std.proofs.Common.{◌≤◌, ◌+◌, ◌*◌, arith, refl, subst}
use Rattle.std.proofs.lemmas.Result.{err_from_is_err_and}
use Rattle.lf_sweep.specs.Parts.{IsLengthOf}
use Rattle.lf_sweep.proofs.LineLemmas.{all_is, begun_more, more_written, none_written, some_few, swept_early}
use Rattle.lf_sweep.proofs.sweeping.sweep_shared.Goals as goal

pub rounds-init : goal.rounds-init
rounds-init g c =
    let q = c.args.questions.now in
    let N = g.Q.Questions.total q in
    let R = g.Q.Questions.is_reply q in
    let L = g.Q.Questions.line q in
    let F = g.Q.Questions.refuses q in
    let old = c.args.writer.now in (
      none_written g.W.Sink.written g.W.Sink.has_failed N R L F c.args.part 0 0 old c.empty-counts.result refl c.empty-counts.ensures
          c.requires.writer,
      omega arith,
    )

pub returns-in_err-put_round : goal.returns-in_err-put_round
returns-in_err-put_round g c =
    let p = err_from_is_err_and c.from_residual.result c.from_residual.ensures.1 in
    let q = c.args.questions.now in
    let N = g.Q.Questions.total q in
    let R = g.Q.Questions.is_reply q in
    let L = g.Q.Questions.line q in
    let F = g.Q.Questions.refuses q in
    let old = c.args.writer.now in
    rw (p.1, p.2)
    (swept_early g.W.Sink.written g.W.Sink.has_failed N R L F c.args.part old c.put_round.new.writer c.in_err-put_round.field-0.0
    (begun_more g.W.Sink.written g.W.Sink.has_failed N R L F c.args.part 0 c.rounds.place c.rounds.place c.rounds.counts old c.rounds.writer
    c.put_round.new.writer (omega arith) c.rounds.invariant.0
    (rw c.of-round.ensures.place at c.in_err-put_round.ensures.front))
    c.in_err-put_round.ensures.cause c.in_err-put_round.ensures.sink)

pub plus-counts-requires : goal.plus-counts-requires
plus-counts-requires g c =
    let N = g.Q.Questions.total c.args.questions.now in
    let few : N ≤ 1000000000 = omega (arith, c.count.ensures.few, c.count.ensures.count) in
    let so_far = c.rounds.invariant.0.0 in
    let here = c.in_ok-put_round.ensures.all in
    let length = subst (λ n. IsLengthOf c.args.part n c.count-count.result) c.count.ensures.count c.count-count.ensures in
    let small = some_few N c.args.part c.count-count.result few length in
    omega (
      arith,
      all_is so_far.0 c.rounds.counts c.rounds.place so_far.5 so_far.3,
      all_is here.0 c.in_ok-put_round.field-0 _ here.5 here.3,
      small,
      c.of-round.ensures.inside,
      c.rounds-test.true,
      c.rounds.invariant.1,
    )

pub rounds-preserved : goal.rounds-preserved
rounds-preserved g c =
    let q = c.args.questions.now in
    let N = g.Q.Questions.total q in
    let R = g.Q.Questions.is_reply q in
    let L = g.Q.Questions.line q in
    let F = g.Q.Questions.refuses q in
    let old = c.args.writer.now in
    let r = c.of-round.result in
    let put = rw c.of-round.ensures.place at c.in_ok-put_round.ensures.all in (
      more_written g.W.Sink.written g.W.Sink.has_failed N R L F c.args.part 0 c.rounds.place (r.lanes * r.size) c.rounds.place (c.rounds.place +
          r.lanes * r.size) old c.rounds.writer
          c.put_round.new.writer c.rounds.counts c.in_ok-put_round.field-0 c.plus-counts.result put.1 put.1 (omega arith) refl refl c.plus-counts.ensures
          c.rounds.invariant.0 (put.0, put.2, put.3, put.5) put.4 c.in_ok-put_round.ensures.sink,
      omega (arith, c.of-round.ensures.inside, c.rounds.invariant.1, c.rounds-test.true),
    )
