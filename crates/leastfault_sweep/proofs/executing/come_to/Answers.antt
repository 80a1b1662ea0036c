use Rattle.std.proofs.Common.{◌≤◌, ◌∙◌, Err, ap, arith, length, subst}
use Rattle.std.proofs.lemmas.Result.{err_from_is_err_and}
use Rattle.lf_scenario.specs.Limits.{longest}
use Rattle.leastfault_sweep.specs.Executed.{IsPastProtocol}
use Rattle.leastfault_sweep.specs.Replies.{text_of}
use Rattle.leastfault_sweep.proofs.ExecutedLemmas.{never, no_document, none_begun, wanting}
use Rattle.leastfault_sweep.proofs.executing.come_to.Goals as goal

pub returns-in_err-line : goal.returns-in_err-line
returns-in_err-line g c =
    let p = err_from_is_err_and c.from_residual.result c.from_residual.ensures.1 in
    rw (p.1, p.2)
    (wanting g.W.Sink.written g.W.Sink.has_failed c.args.asked.now (text_of c.args.protocol) c.args.scenario.now c.args.writer.now c.args.writer.now c.requires
    (none_begun g.W.Sink.written g.W.Sink.has_failed c.args.asked.now (text_of c.args.protocol) c.args.scenario.now c.args.writer.now))

pub returns-in_err-refusal : goal.returns-in_err-refusal
returns-in_err-refusal g c =
    let p = err_from_is_err_and c.from_residual-in_err-refusal.result c.from_residual-in_err-refusal.ensures.1 in
    rw (p.1, p.2)
    (wanting g.W.Sink.written g.W.Sink.has_failed c.args.asked.now (text_of c.args.protocol) c.args.scenario.now c.args.writer.now c.args.writer.now c.requires
    (none_begun g.W.Sink.written g.W.Sink.has_failed c.args.asked.now (text_of c.args.protocol) c.args.scenario.now c.args.writer.now))

pub unreachable-requires : goal.unreachable-requires
unreachable-requires g c =
    let readable = subst (IsPastProtocol (text_of c.args.protocol)) c.in_default.is c.in_ok-line.ensures in
    never g.W.Sink.written g.W.Sink.has_failed c.args.asked.now (text_of c.args.protocol) c.args.scenario.now c.args.writer.now c.swept.new.writer
    c.swept.result readable
    c.swept.ensures (c.in-Err-Protocol.is ∙ ap Err c.in-Err-Protocol.field-0-is)

pub returns-in_ok-refusal-in-Err-NoDocument : goal.returns-in_ok-refusal-in-Err-NoDocument
returns-in_ok-refusal-in-Err-NoDocument g c =
    let readable = subst (IsPastProtocol (text_of c.args.protocol)) c.in_default.is c.in_ok-line.ensures in
    let short : length c.args.scenario.now ≤ longest = omega (arith, c.if-scenario-gt-LONGEST.false) in
    no_document g.W.Sink.written g.W.Sink.has_failed c.args.asked.now (text_of c.args.protocol) c.args.scenario.now c.args.writer.now c.swept.new.writer
    c.swept.result
    c.in_ok-refusal-in-Err-NoDocument.field-0 readable short c.swept.ensures (c.in-Err-NoDocument.is ∙ ap Err c.in-Err-NoDocument.field-0-is)
    c.in_ok-refusal-in-Err-NoDocument.ensures
