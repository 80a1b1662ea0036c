use Rattle.leastfault.specs.Known.{known_of}
use Rattle.leastfault.proofs.CommandLemmas.{with_certificate}
use Rattle.leastfault.proofs.certified.certified_reply.Goals as goal

pub returns : goal.returns
returns g c =
    with_certificate (known_of c.args.known) c.args.text.now c.args.wanted c.args.workers c.reply_by-made.result c.certified.result
    c.reply_by-made.ensures c.certified.ensures
