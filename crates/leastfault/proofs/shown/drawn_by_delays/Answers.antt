use Rattle.std.proofs.Common.{string_bytes}
use Rattle.std.proofs.lemmas.Result.{IfOk-weaker}
use Rattle.leastfault.specs.Delayed.{IsDelayedReply}
use Rattle.leastfault.specs.Known.{known_of}
use Rattle.leastfault.specs.Shown.{RepliesNamed}
use Rattle.leastfault.specs.declared.shown.Told.TheVariants as told
use Rattle.leastfault.proofs.DelayedLemmas.{given_of, not_given}
use Rattle.leastfault.proofs.shown.drawn_by_delays.Goals as goal

pub returns-in-Ok : goal.returns-in-Ok
returns-in-Ok c =
    let known = known_of c.args.known in
    let words = c.args.faults.now in
    let given = c.in-Ok.scenario in
    IfOk-weaker c.told_named.result (λ reply. RepliesNamed told.Picture words given (string_bytes reply.text) reply.value)
    (λ reply. IsDelayedReply known c.args.delays.now (RepliesNamed told.Picture words) c.args.text.now (string_bytes reply.text) reply.value)
    (λ reply said. given_of known c.args.delays.now c.args.text.now (RepliesNamed told.Picture words) c.in_ok-read.read given
    (string_bytes reply.text) reply.value c.in-Ok.is c.in_ok-read.ensures said)
    c.told_named.ensures

pub returns-in-Err : goal.returns-in-Err
returns-in-Err c =
    let known = known_of c.args.known in
    not_given known c.args.delays.now c.args.text.now (RepliesNamed told.Picture c.args.faults.now)
    c.in_ok-read.read c.in-Err.reply c.in-Err.is c.in_ok-read.ensures
