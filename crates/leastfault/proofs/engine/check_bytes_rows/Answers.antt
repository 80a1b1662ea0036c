use Rattle.std.specs.Prelude.{None}
use Rattle.leastfault.specs.Engines.{NoCause}
use Rattle.leastfault.specs.Replies.{IsCheckReply}
use Rattle.leastfault.proofs.CommandLemmas.{judged}
use Rattle.leastfault.proofs.EngineLemmas.{sent_of_both}
use Rattle.leastfault.proofs.engine.check_bytes_rows.Goals as goal

pub returns : goal.returns
returns g c =
    let old = c.args.scenario_reader.now in
    let new = c.given_made-given.new.reader in
    let old_too = c.args.tree_reader.now in
    let new_too = c.given_made-given.new.tree_reader in
    sent_of_both g.R.Source.left g.R.Source.has_failed old new g.W.Sink.written g.W.Sink.has_failed c.args.writer.now c.send.new.writer
    c.requires.writer c.judged_in_rows.result c.send.result c.send.ensures g.S.Source.left g.S.Source.has_failed old_too new_too (IsCheckReply None)
    NoCause
    (judged g.R.Source.left g.R.Source.has_failed g.S.Source.left g.S.Source.has_failed old new old_too new_too None c.given_made-given.result
    c.judged_in_rows.result c.given_made-given.ensures c.judged_in_rows.ensures)
