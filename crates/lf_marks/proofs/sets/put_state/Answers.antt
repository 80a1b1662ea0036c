use Rattle.lf_marks.proofs.BareLemmas.{bare-put}
use Rattle.lf_marks.proofs.SetLemmas.{remarked-put}
use Rattle.lf_marks.proofs.sets.put_state.Goals as goal

pub returns-clause-remarked : goal.returns-clause-remarked
returns-clause-remarked c =
    remarked-put c.args.sets.now.items c.args.place c.index_mut-set.result.now c.args.state c.requires.within c.index_mut-set.ensures.value
    c.requires.first c.requires.taken

pub returns-clause-bare : goal.returns-clause-bare
returns-clause-bare c bare =
    bare-put c.args.sets.now.items c.args.place c.index_mut-set.result.now c.args.state c.requires.within c.requires.none bare
