use Rattle.std.proofs.Common.{Vec, Global, ℕ, Ok, false, string_bytes}
use Rattle.std.specs.Prelude.{None}
use Rattle.leastfault.specs.Engines.{NoCause, OfReply}
use Rattle.leastfault.specs.Replies.{IsRunReply}
use Rattle.leastfault.proofs.EngineLemmas.{made_here, no_cause}
use Rattle.leastfault.proofs.ReplyLemmas.{run_by_front}
use Rattle.leastfault.proofs.made.run_made.Goals as goal

pub returns : goal.returns
returns g c =
    made_here g.R.Source.left g.R.Source.has_failed c.args.reader.now c.read_text.new.reader (λ (v : Vec ℕ Global). v.items)
    (OfReply (IsRunReply None false c.args.faults.now)) NoCause c.in_ok-text.text c.as_slice.result.now (Ok c.in_ok-run_reply.field-0)
    (λ r. run_by_front None false c.args.faults.now (string_bytes r.text) r.value) no_cause c.in_ok-text.ensures c.as_slice.ensures.value
    c.in_ok-run_reply.ensures
