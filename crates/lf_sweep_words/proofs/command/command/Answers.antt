use Rattle.lf_sweep_words.proofs.command.command.Goals as goal

pub returns : goal.returns
returns c = c.with_argument.ensures _ _ (c.told.ensures (c.worked.ensures (c.varying.ensures c.bare.ensures))) c.option-protocol.ensures
