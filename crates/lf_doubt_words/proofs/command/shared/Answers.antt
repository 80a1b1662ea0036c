use Rattle.lf_doubt_words.proofs.command.shared.Goals as goal

pub returns : goal.returns
returns c built = c.with_argument-3.ensures _ _ (c.with_argument-2.ensures _ _ (c.with_argument.ensures _ _ built c.option-seconds.ensures)
    c.option-workers.ensures) c.option-part.ensures
