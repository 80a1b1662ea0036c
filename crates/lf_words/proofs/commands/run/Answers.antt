use Rattle.lf_words.proofs.commands.run.Goals as goal

pub returns : goal.returns
returns c = c.with_argument-4.ensures _ _ (c.with_argument-command-3.ensures _ _ (c.with_argument-3.ensures _ _ (c.with_argument-command-2.ensures _ _
    (c.with_argument-2.ensures _ _ (c.with_argument-command.ensures _ _ (c.with_argument.ensures _ _ c.of_file-command.ensures c.faults.ensures)
    c.flag-rules.ensures) c.flag-changes.ensures) c.flag-json.ensures) c.option-beside.ensures) c.delays.ensures) c.known.ensures
