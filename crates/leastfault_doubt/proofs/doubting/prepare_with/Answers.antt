use Rattle.std.proofs.Common.{rules, string_bytes, subst, sym}
use Rattle.leastfault.specs.Known.{known_of}
use Rattle.leastfault.specs.Replies.{IsAnswerReply}
use Rattle.leastfault_doubt.proofs.doubting.prepare_with.Goals as goal

pub returns-in_ok-questions-in-Ok : goal.returns-in_ok-questions-in-Ok
returns-in_ok-questions-in-Ok g c = record {
  scenario = c.in-Ok.scenario;
  is_scenario = (search rules);
  are = c.in_ok-questions-in-Ok.ensures;
  answer =
      subst (λ text. IsAnswerReply (known_of c.args.known) c.args.text.now (string_bytes text) c.told_by-given.result.status)
      (sym c.told_by-given.ensures.text)
      (subst (λ status. IsAnswerReply (known_of c.args.known) c.args.text.now (string_bytes c.in_ok-answer_reply-in-Ok.field-0.text) status)
      (sym c.told_by-given.ensures.status) c.in_ok-answer_reply-in-Ok.ensures);
}
