use Rattle.std.proofs.Common.{string_bytes}
use Rattle.std.proofs.lemmas.Result.{IfOk-weaker}
use Rattle.leastfault.specs.Checks.{IsReplyTo}
use Rattle.leastfault.specs.Known.{known_of}
use Rattle.leastfault.specs.Replies.{IsCheckReply}
use Rattle.leastfault.proofs.CommandLemmas.{check_replies}
use Rattle.leastfault.proofs.checking.check_reply.Goals as goal

pub returns : goal.returns
returns g c =
    let known = known_of c.args.known in
    let text = c.args.text.now in
    let certificate = c.args.certificate.now in
    IfOk-weaker c.replied_in_rows.result (IsReplyTo c.in_ok-given.given)
    (λ reply. IsCheckReply known text certificate (string_bytes reply.text) reply.value)
    (λ reply replies. check_replies known text certificate c.in_ok-given.given reply c.in_ok-given.ensures replies) c.replied_in_rows.ensures
