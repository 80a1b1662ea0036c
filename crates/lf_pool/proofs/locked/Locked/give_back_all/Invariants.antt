use Rattle.std.specs.Prelude.{◌≡◌, ◌+◌, ◌++◌, List, length, vec_capacity}
use Rattle.lf_book.specs.Books.{scenario_of}
use Rattle.lf_pool.specs.declared.locked.hand.Claim.{Claim}
use Rattle.lf_pool.specs.Holds.{AreGivenBack}
use Rattle.lf_pool.proofs.locked.Locked.give_back_all.Given as goal

abbrev pub invariant-jobs : goal.invariant-jobs
invariant-jobs g l = record {
  done : List Claim;
  rest : l.initial.jobs.items ≡ l.jobs.items ++ done;
  room : vec_capacity l.jobs ≡ vec_capacity l.initial.jobs;
  given : AreGivenBack done l.initial.self.book l.self.book;
  held : l.hand.held + length l.initial.jobs.items ≡ l.initial.hand.held + length l.jobs.items;
  scenario : scenario_of l.self.book ≡ scenario_of l.initial.self.book;
  total : l.self.total ≡ l.initial.self.total;
}

abbrev pub decreases-jobs : goal.decreases-jobs
decreases-jobs g l = goal.left-jobs g l
