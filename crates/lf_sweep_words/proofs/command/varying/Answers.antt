use Rattle.lf_sweep_words.proofs.command.varying.Goals as goal

pub returns : goal.returns
returns c built = c.with_argument-2.ensures _ _ (c.with_argument.ensures _ _ built c.file.ensures) c.vary.ensures
