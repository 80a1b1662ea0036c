use Rattle.lf_doubt_words.proofs.command.command.Goals as goal

pub returns : goal.returns
returns c =
    c.with_argument-2.ensures _ _ (c.with_argument.ensures _ _ (c.shared-command.ensures (c.asking.ensures c.bare.ensures)) c.flag-json.ensures)
    c.flag-quiet.ensures
