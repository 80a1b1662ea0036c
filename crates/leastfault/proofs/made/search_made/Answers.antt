use Rattle.std.proofs.Common.{Vec, Global, ℕ, Ok, string_bytes}
use Rattle.std.specs.Prelude.{None}
use Rattle.leastfault.specs.Engines.{NoCause, OfReply}
use Rattle.leastfault.specs.Replies.{IsSearchedWith, reports_of}
use Rattle.leastfault.proofs.EngineLemmas.{made_here, no_cause}
use Rattle.leastfault.proofs.ReplyLemmas.{searched_by_front}
use Rattle.leastfault.proofs.made.search_made.Goals as goal

pub returns : goal.returns
returns g c =
    made_here g.R.Source.left g.R.Source.has_failed c.args.reader.now c.read_text.new.reader (λ (v : Vec ℕ Global). v.items)
    (OfReply (IsSearchedWith None (reports_of c.args.wanted))) NoCause c.in_ok-text.text c.as_slice.result.now
    (Ok c.in_ok-search_reply.field-0)
    (λ r. searched_by_front None (reports_of c.args.wanted) (string_bytes r.text) r.value) no_cause c.in_ok-text.ensures
    c.as_slice.ensures.value
    c.in_ok-search_reply.ensures
