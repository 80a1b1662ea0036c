use Rattle.std.proofs.Common.{Some, sym, ap, ◌∙◌}
use Rattle.lf_book.specs.Books.{scenario_of}
use Rattle.lf_pool.proofs.HoldLemmas.{take-counted}
use Rattle.lf_pool.proofs.ScenarioLemmas.{left-spent}
use Rattle.lf_pool.proofs.locked.Locked.take_job.Goals as goal

pub invariant_of-self : goal.invariant_of-self
invariant_of-self g c =
    let m = c.args.self.now in
    record {
      counted = take-counted m.book c.take_with.new.self c.take_with.result m.total.total c.take_with.ensures.taken c.take_with.ensures.err m.counted;
      searches = m.searches ∙ ap Some (sym c.take_with.ensures.scenario);
    }

pub take_with-requires : goal.take_with-requires
take_with-requires g c = left-spent g.L.Searched.scenario (scenario_of c.args.self.now.book) c.args.spent c.args.self.now.searches c.requires.left
