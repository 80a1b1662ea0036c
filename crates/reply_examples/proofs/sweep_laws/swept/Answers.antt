use Rattle.std.proofs.Common.{ap, Some}
use Rattle.reply_examples.proofs.SweptLemmas.{swept_lines}
use Rattle.reply_examples.proofs.sweep_laws.swept.Goals as goal

pub returns-in-Swept : goal.returns-in-Swept
returns-in-Swept g c =
    swept_lines g.W.Sink.written g.W.Sink.has_failed c.args.asked.now _ _ c.args.writer.now c.execute.new.writer c.args.text.now c.in_ok-done.done
    c.in-Swept.counts c.requires.file c.requires.protocol (ap Some c.in_ok-files.ensures.input) c.in-Swept.is c.in_ok-done.ensures
