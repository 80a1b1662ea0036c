use Rattle.lf_words.proofs.commands.search.Goals as goal

pub returns : goal.returns
returns c = c.with_argument-3.ensures _ _ (c.with_argument-command-2.ensures _ _ (c.with_argument-2.ensures _ _ (c.with_argument-command.ensures _ _
    (c.with_argument.ensures _ _ c.of_file-command.ensures c.option-tree.ensures) c.flag-all.ensures) c.option-workers.ensures) c.quiet.ensures)
    c.known.ensures
