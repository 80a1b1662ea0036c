use Rattle.lf_words.proofs.commands.check.Goals as goal

pub returns : goal.returns
returns c = c.with_argument-2.ensures _ _ (c.with_argument-command.ensures _ _ (c.with_argument.ensures _ _ c.of_file-command.ensures
    c.positional-tree.ensures) c.quiet.ensures) c.known.ensures
