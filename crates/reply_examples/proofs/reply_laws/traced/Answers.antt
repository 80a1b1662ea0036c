use Rattle.std.proofs.Common.{None, Some, string_bytes, subst}
use Rattle.std.proofs.lemmas.Result.{IfOk-weaker}
use Rattle.lf_words.specs.declared.types.Shown.TheVariants as shown
use Rattle.leastfault.specs.Shown.{IsShownReply}
use Rattle.reply_examples.proofs.reply_laws.traced.Goals as goal

pub returns : goal.returns
returns g c =
    let text = c.args.text.now in
    let faults = string_bytes c.in_ok-from_str-2.field-0 in
    IfOk-weaker c.done.result _ _
    (λ reply is. subst (λ words. IsShownReply None shown.Whole (Some c.args.delays.now) words text (string_bytes reply.text) reply.value.status)
    c.in_ok-from_str-2.ensures.ok
    (subst (λ delays. IsShownReply None shown.Whole (Some delays) faults text (string_bytes reply.text) reply.value.status)
    c.in_ok-from_str-3.ensures.ok is.0))
    c.done.ensures
