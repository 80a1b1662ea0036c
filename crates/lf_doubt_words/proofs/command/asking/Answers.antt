use Rattle.lf_doubt_words.proofs.command.asking.Goals as goal

pub returns : goal.returns
returns c built = c.with_argument-3.ensures _ _ (c.with_argument-2.ensures _ _ (c.with_argument.ensures _ _ built c.file.ensures)
    c.option-protocol.ensures) c.flag-deep.ensures
