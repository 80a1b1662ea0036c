use Rattle.std.proofs.Common.{None, string_bytes}
use Rattle.reply_examples.proofs.reply_laws.answered_twice.Goals as goal

pub returns-clause-text : goal.returns-clause-text
returns-clause-text g c =
    let one = c.in_ok-one.one in
    let other = c.in_ok-other.other in
    (c.every_delay_replies_are_one.ensures None c.args.text.now (string_bytes one.text) (string_bytes other.text) one.value.status other.value.status
    c.in_ok-one.ensures c.in_ok-other.ensures).0

pub returns-clause-status : goal.returns-clause-status
returns-clause-status g c =
    let one = c.in_ok-one.one in
    let other = c.in_ok-other.other in
    (c.every_delay_replies_are_one.ensures None c.args.text.now (string_bytes one.text) (string_bytes other.text) one.value.status other.value.status
    c.in_ok-one.ensures c.in_ok-other.ensures).1
