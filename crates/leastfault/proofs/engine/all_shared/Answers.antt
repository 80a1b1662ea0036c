use Rattle.std.specs.Prelude.{None}
use Rattle.leastfault.specs.Replies.{IsPoolCause, IsSharedAll}
use Rattle.leastfault.proofs.EngineLemmas.{sent_of_one}
use Rattle.leastfault.proofs.engine.all_shared.Goals as goal

pub returns : goal.returns
returns g c =
    sent_of_one g.R.Source.left g.R.Source.has_failed c.args.reader.now c.shared_made-made.new.reader g.W.Sink.written g.W.Sink.has_failed
    c.args.writer.now c.send.new.writer c.requires.writer c.shared_made-made.result c.send.result c.send.ensures
    (IsSharedAll None c.args.workers) (IsPoolCause None c.args.workers) c.shared_made-made.ensures
