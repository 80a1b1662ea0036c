use Rattle.lf_words.proofs.commands.answer.Goals as goal

pub returns : goal.returns
returns c = c.with_argument-2.ensures _ _ (c.with_argument-command.ensures _ _ (c.with_argument.ensures _ _ c.of_file-command.ensures
    c.quiet.ensures) c.flag-every_delay.ensures) c.known.ensures
