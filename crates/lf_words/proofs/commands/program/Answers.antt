use Rattle.lf_words.proofs.commands.program.Goals as goal

pub returns : goal.returns
returns c = c.with_command.ensures _ _ (c.with_command-program-6.ensures _ _ (c.with_command-program-5.ensures _ _ (c.with_command-program-4.ensures _ _
    (c.with_command-program-3.ensures _ _ (c.with_command-program-2.ensures _ _ (c.with_command-program.ensures _ _ c.plain.ensures c.search.ensures)
    c.run.ensures) c.draw.ensures) c.check.ensures) c.answer.ensures) c.why.ensures) c.protocol.ensures
