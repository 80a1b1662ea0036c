use Rattle.lf_check.proofs.ExcludedLemmas.{excludes_first}
use Rattle.lf_check.proofs.excluded.Excluded.start.Goals as goal

pub returns-clause-here : goal.returns-clause-here
returns-clause-here c =
    excludes_first c.args.places.now.tree.now c.args.branch c.clear.new.self.items c.put_excluded.new.excluded.items c.clear.ensures.items
    c.in_ok-put_excluded.ensures
