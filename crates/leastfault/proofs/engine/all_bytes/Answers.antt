use Rattle.std.specs.Prelude.{None}
use Rattle.leastfault.specs.Engines.{NoCause}
use Rattle.leastfault.specs.Replies.{IsSearchedAll}
use Rattle.leastfault.proofs.EngineLemmas.{sent_of_one}
use Rattle.leastfault.proofs.engine.all_bytes.Goals as goal

pub returns : goal.returns
returns g c =
    sent_of_one g.R.Source.left g.R.Source.has_failed c.args.reader.now c.search_made-made.new.reader g.W.Sink.written g.W.Sink.has_failed
    c.args.writer.now c.send.new.writer c.requires.writer c.search_made-made.result c.send.result c.send.ensures
    (IsSearchedAll None) NoCause c.search_made-made.ensures
