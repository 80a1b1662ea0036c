use Rattle.std.specs.Prelude.{◌≡◌, ◌+◌, length, vec_capacity}
use Rattle.std.specs.List.{All}
use Rattle.lf_book.specs.Books.{scenario_of}
use Rattle.lf_pool.specs.Holds.{AreJobsOf, AreTaken, IsLeftIn}
use Rattle.lf_pool.proofs.locked.Locked.take_some.Given as goal

abbrev pub invariant-jobs : goal.invariant-jobs
invariant-jobs g l = record {
  taken : AreTaken l.jobs.items l.initial.self.book l.self.book;
  same : AreJobsOf (scenario_of l.initial.self.book) l.jobs.items;
  left : All (IsLeftIn g.L.Searched.scenario) l.spent.items;
  few : length l.jobs.items ≡ l._taken;
  held : l.hand.held ≡ l.initial.hand.held + l._taken;
  room : vec_capacity l.jobs ≡ vec_capacity l.initial.jobs;
  scenario : scenario_of l.self.book ≡ scenario_of l.initial.self.book;
  total : l.self.total ≡ l.initial.self.total;
}
