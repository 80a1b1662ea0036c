use Rattle.std.proofs.Common.{◌≡◌, IsTrue, rules, string_bytes, sym, ◌∙◌}
use Rattle.reply_examples.proofs.ReplayedLemmas.{misses_again, told_as}
use Rattle.reply_examples.proofs.reply_laws.played_again.Goals as goal

pub returns : goal.returns
returns g c =
    let reply = c.in_ok-reply.reply in
    let again = c.in_ok-again.again in
    let text = c.args.text.now in
    let yes : IsTrue c.is_text.result = search rules in
    let one : reply.value.status ≡ 1 = search rules in
    let same : string_bytes reply.text ≡ c.args.told.now = sym c.as_str.ensures.value ∙ c.is_text.ensures yes in
    misses_again c.in-Ok.scenario text (string_bytes reply.text) c.args.faults.now c.args.delays.now (string_bytes again.text) reply.value.status
    again.value.status c.every_delay_replies_replay.ensures c.in-Ok.ensures.reading c.in_ok-reply.ensures one
    (told_as c.args.told.now (string_bytes reply.text) c.args.faults.now c.args.delays.now (sym same) c.requires) c.in_ok-again.ensures
