use Rattle.std.proofs.Common.{Vec, Global, ℕ, string_bytes}
use Rattle.std.specs.Prelude.{None}
use Rattle.leastfault.specs.Engines.{OfReply}
use Rattle.leastfault.specs.Replies.{IsPoolCause, IsSharedWith, reports_of}
use Rattle.leastfault.proofs.EngineLemmas.{made_here}
use Rattle.leastfault.proofs.ReplyLemmas.{cause_by_front, shared_by_front}
use Rattle.leastfault.proofs.made.shared_made.Goals as goal

pub returns : goal.returns
returns g c =
    made_here g.R.Source.left g.R.Source.has_failed c.args.reader.now c.read_text.new.reader (λ (v : Vec ℕ Global). v.items)
    (OfReply (IsSharedWith None (reports_of c.args.wanted) c.args.workers)) (IsPoolCause None c.args.workers)
    c.in_ok-text.text c.as_slice.result.now
    c.shared_reply.result (λ r. shared_by_front None (reports_of c.args.wanted) c.args.workers (string_bytes r.text) r.value)
    (cause_by_front None c.args.workers) c.in_ok-text.ensures c.as_slice.ensures.value c.shared_reply.ensures
