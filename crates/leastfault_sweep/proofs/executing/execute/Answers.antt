use Rattle.std.proofs.lemmas.Result.{err_from_is_err_and}
use Rattle.leastfault_sweep.proofs.ExecutedLemmas.{ended_so, stopped_so, unread}
use Rattle.leastfault_sweep.proofs.executing.execute.Goals as goal

pub returns-in_err-texts : goal.returns-in_err-texts
returns-in_err-texts g c =
    let p = err_from_is_err_and c.from_residual.result c.from_residual.ensures.1 in
    rw (p.1, p.2) (unread g.W.Sink.written g.W.Sink.has_failed c.args.asked.now (g.F.Files.desk c.args.files.now)
    (g.F.Files.desk c.read_sweep.new.files) c.args.writer.now c.in_err-texts.field-0.0 c.requires.writer c.in_err-texts.ensures)

pub returns-in_err-ended : goal.returns-in_err-ended
returns-in_err-ended g c =
    let p = err_from_is_err_and c.from_residual-in_err-ended.result c.from_residual-in_err-ended.ensures.1 in
    rw (p.1, p.2) (stopped_so g.W.Sink.written g.W.Sink.has_failed c.args.asked.now (g.F.Files.desk c.args.files.now)
    (g.F.Files.desk c.read_sweep.new.files) c.args.writer.now c.in_ok-texts.texts _ c.as_slice.result.now c.come_to.new.writer
    c.in_err-ended.field-0.0 c.in_ok-texts.ensures c.given-given.ensures c.as_slice.ensures.value c.in_err-ended.ensures)

pub returns : goal.returns
returns g c =
    ended_so g.W.Sink.written g.W.Sink.has_failed c.args.asked.now (g.F.Files.desk c.args.files.now)
    (g.F.Files.desk c.read_sweep.new.files) c.args.writer.now c.in_ok-texts.texts _ c.as_slice.result.now c.come_to.new.writer c.in_ok-ended.ended
    c.come_to.new.marks
    c.in_ok-texts.ensures c.given-given.ensures c.as_slice.ensures.value c.in_ok-ended.ensures
