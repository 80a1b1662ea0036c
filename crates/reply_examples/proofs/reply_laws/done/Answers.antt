use Rattle.std.proofs.Common.{ap, Some, string_bytes}
use Rattle.lf_streams.specs.InMemory.{held_in}
use Rattle.leastfault.specs.Commands.{IsDone}
use Rattle.reply_examples.proofs.InputLemmas.{of_input}
use Rattle.reply_examples.proofs.reply_laws.done.Goals as goal

pub returns : goal.returns
returns g c =
    let a = c.args.asked.now in
    let files = c.in_ok-files.files in
    let done = c.in_ok-done.done in
    of_input a (λ name. held_in files.files.items files.input.items name)
    (λ protocol text certificate. IsDone a protocol text certificate (string_bytes done.reply.text) done.reply.value) c.args.text.now c.requires.file
    c.requires.protocol c.requires.tree (ap Some c.in_ok-files.ensures.input) c.in_ok-done.ensures.one.0
