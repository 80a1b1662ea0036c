use Rattle.lf_sweep_words.proofs.command.worked.Goals as goal

pub returns : goal.returns
returns c built = c.with_argument-2.ensures _ _ (c.with_argument.ensures _ _ built c.option-by.ensures) c.option-workers.ensures
