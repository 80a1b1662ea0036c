use Rattle.std.proofs.Common.{◌≡◌, true}
use Rattle.lf_sim.specs.Settings.{world_of}
use Rattle.lf_certificate.specs.Levels.{AreAllLeast}
use Rattle.lf_book.specs.Books.{scenario_of, state_of}
use Rattle.lf_pool.proofs.SolvedLemmas.{ended-searched}
use Rattle.lf_pool.proofs.answers.all_of.Goals as goal

pub returns-clause-all : goal.returns-clause-all
returns-clause-all c =
    let m = c.args.book in
    let s = scenario_of m in
    let found : ((state_of m).finished ≡ true) × AreAllLeast (world_of s.setting) s.setting.spec s.formula c.in-Some.sets.items =
    rw c.in-Some.is at c.in-Ok.ensures in
    record {
      least = found.1;
      searched = ended-searched m c.in-Ok-into_tree.tree c.answered-runs.result c.books_are_closed.ensures.bounded c.books_are_closed.ensures.closed c.requires
          c.in-Ok-into_tree.ensures.places c.answered-runs.ensures c.in-Ok-into_tree.ensures.tree c.in-Ok-into_tree.ensures.accepted;
    }
