use Rattle.std.proofs.Common.{string_bytes}
use Rattle.std.proofs.lemmas.Result.{err_from_is_err_and}
use Rattle.leastfault.specs.declared.commands.Executed.{Executed}
use Rattle.leastfault.specs.Commands.{IsCause, IsDone}
use Rattle.leastfault.specs.Places.{writes_of}
use Rattle.leastfault.proofs.DoneLemmas.{cause_by_protocol, cause_by_text, done_by_front, done_by_protocol, done_by_tree}
use Rattle.leastfault.proofs.PlaceLemmas.{delivered, not_delivered, not_made}
use Rattle.leastfault.proofs.commands.execute.Goals as goal

pub returns-in_err-reply : goal.returns-in_err-reply
returns-in_err-reply g c =
    let a = c.args.asked.now in
    let p = err_from_is_err_and c.from_residual-in_err-reply.result c.from_residual-in_err-reply.ensures.1 in
    rw (p.1, p.2) (not_made a
    (λ protocol text certificate (done : Executed). IsDone a protocol text certificate (string_bytes done.reply.text) done.reply.value) (IsCause a)
    (λ (done : Executed). writes_of a (string_bytes done.reply.text) done.reply.value)
    (λ text certificate done. done_by_protocol a text certificate (string_bytes done.reply.text) done.reply.value)
    (λ protocol certificate done. done_by_front a protocol certificate (string_bytes done.reply.text) done.reply.value)
    (λ protocol text done. done_by_tree a protocol text (string_bytes done.reply.text) done.reply.value) (cause_by_protocol a) (cause_by_text a)
    (g.F.Files.desk c.args.files.now) c.requires.write c.in_ok-texts.texts (g.F.Files.desk c.read_command.new.files) c.in_ok-texts.ensures
    c.in_err-reply.field-0.0 c.in_err-reply.ensures)

pub returns-in_err-deliver : goal.returns-in_err-deliver
returns-in_err-deliver g c =
    let a = c.args.asked.now in
    let p = err_from_is_err_and c.from_residual-in_err-deliver.result c.from_residual-in_err-deliver.ensures.1 in
    rw (p.1, p.2) (not_delivered a
    (λ protocol text certificate (done : Executed). IsDone a protocol text certificate (string_bytes done.reply.text) done.reply.value) (IsCause a)
    (λ (done : Executed). writes_of a (string_bytes done.reply.text) done.reply.value)
    (λ text certificate done. done_by_protocol a text certificate (string_bytes done.reply.text) done.reply.value)
    (λ protocol certificate done. done_by_front a protocol certificate (string_bytes done.reply.text) done.reply.value)
    (λ protocol text done. done_by_tree a protocol text (string_bytes done.reply.text) done.reply.value) (cause_by_protocol a) (cause_by_text a)
    (g.F.Files.desk c.args.files.now) c.requires.write c.in_ok-texts.texts (g.F.Files.desk c.read_command.new.files) c.in_ok-texts.ensures
    (record { reply = c.in_ok-reply.reply; texts = c.in_ok-texts.texts }) (g.F.Files.desk c.deliver.new.files) c.in_err-deliver.field-0.0
    c.in_ok-reply.ensures c.in_err-deliver.ensures)

pub returns : goal.returns
returns g c =
    let a = c.args.asked.now in
    delivered a
    (λ protocol text certificate (done : Executed). IsDone a protocol text certificate (string_bytes done.reply.text) done.reply.value) (IsCause a)
    (λ (done : Executed). writes_of a (string_bytes done.reply.text) done.reply.value)
    (λ text certificate done. done_by_protocol a text certificate (string_bytes done.reply.text) done.reply.value)
    (λ protocol certificate done. done_by_front a protocol certificate (string_bytes done.reply.text) done.reply.value)
    (λ protocol text done. done_by_tree a protocol text (string_bytes done.reply.text) done.reply.value) (cause_by_protocol a) (cause_by_text a)
    (g.F.Files.desk c.args.files.now) c.requires.write c.in_ok-texts.texts (g.F.Files.desk c.read_command.new.files) c.in_ok-texts.ensures
    (record { reply = c.in_ok-reply.reply; texts = c.in_ok-texts.texts }) (g.F.Files.desk c.deliver.new.files) c.in_ok-deliver.field-0
    c.in_ok-reply.ensures c.in_ok-deliver.ensures
