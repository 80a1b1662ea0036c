use Rattle.lf_sweep_words.proofs.command.told.Goals as goal

pub returns : goal.returns
returns c built = c.with_argument-3.ensures _ _ (c.with_argument-2.ensures _ _ (c.with_argument.ensures _ _ built c.option-part.ensures)
    c.flag-json.ensures) c.flag-quiet.ensures
