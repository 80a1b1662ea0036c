use Rattle.std.proofs.Common.{subst, string_bytes}
use Rattle.std.specs.Prelude.{IfOk}
use Rattle.leastfault.specs.Known.{known_of}
use Rattle.leastfault.specs.Replies.{IsCheckReply}
use Rattle.leastfault.proofs.commands.check_asked.Goals as goal

pub returns : goal.returns
returns g c = rw (c.in-Some.is)
    (subst (λ certificate. IfOk c.check_reply.result
    (λ reply. IsCheckReply (known_of c.args.known) c.args.text.now certificate (string_bytes reply.text) reply.value)) c.as_slice.ensures.value
    c.check_reply.ensures)
