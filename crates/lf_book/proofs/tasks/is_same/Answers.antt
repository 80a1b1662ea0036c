use Rattle.lf_book.proofs.SameLemmas.{fault-same}
use Rattle.lf_book.proofs.tasks.is_same.Goals as goal

pub returns : goal.returns
returns c = fault-same c.args.one.now c.args.other.now c.eq.result c.eq.ensures
