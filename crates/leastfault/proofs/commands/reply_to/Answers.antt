use Rattle.std.proofs.Common.{Some, inl, inr, subst, option_map, string_bytes, ◌∙◌}
use Rattle.lf_protocol_file.specs.Files as files
use Rattle.leastfault.specs.declared.reply.Certified.{Certified}
use Rattle.leastfault.specs.declared.reply.Reply.{Reply}
use Rattle.leastfault.specs.Commands.{IsCause, IsCauseFor, IsDone, IsDoneFor}
use Rattle.leastfault.proofs.CommandLemmas.{here_wider}
use Rattle.leastfault.proofs.commands.reply_to.Goals as goal

pub returns-in-Ok : goal.returns-in-Ok
returns-in-Ok g c =
    let a = c.args.asked.now in
    let text = c.args.texts.now.scenario.items in
    let tree = option_map (λ bytes. bytes.items) c.args.texts.now.tree in
    let items = c.in-Some.protocol.items in
    let file = c.in-Ok.file in
    let reads = subst (files.IsText file) c.as_slice.ensures.value c.in-Ok.ensures.reading in
    rw (c.in-Some.is) (here_wider (λ (r : Reply Certified). IsDoneFor (Some file) a text tree (string_bytes r.text) r.value)
    (λ (r : Reply Certified). IsDone a (Some items) text tree (string_bytes r.text) r.value) (IsCauseFor (Some file) a text) (IsCause a (Some items) text)
    c.reply_knowing-in-Ok.result c.reply_knowing-in-Ok.ensures (λ r is. inr (file, reads, is)) (λ number cause. (file, reads, cause)))

pub returns-in_ok-protocol_refused-in-Err : goal.returns-in_ok-protocol_refused-in-Err
returns-in_ok-protocol_refused-in-Err g c =
    let told = c.in_ok-protocol_refused-in-Err.ensures in
    let why = subst (λ bytes. files.IsRefused bytes c.in-Err.error) c.as_slice.ensures.value (c.in-Err.ensures.reading told.0) in
    rw (c.in-Some.is) (inl ((c.in-Err.error, why, c.alone.ensures.0 ∙ told.1, c.alone.ensures.1 ∙ told.2), c.alone.ensures.2))
