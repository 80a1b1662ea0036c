use Rattle.std.proofs.Common.{◌≡◌, ◌≤◌, [], map, take, length, vec_capacity, All}
use Rattle.lf_book.specs.Books.{scenario_of, state_of}
use Rattle.lf_book.specs.Holding.{IsHeldOf, held_of}
use Rattle.lf_book.proofs.DriveLemmas.{DrivesTo}
use Rattle.lf_book.proofs.book.Book.drive.Given as goal

-- the events so far were done, with the jobs that are held
abbrev pub invariant-events : goal.invariant-events
invariant-events l = record {
  drives : DrivesTo (scenario_of l.initial.self) [] (take l.event-index l.events) l.replies.items (map held_of l.jobs.items)
      (state_of l.initial.self) (state_of l.self);
  held : All (IsHeldOf (scenario_of l.self) (state_of l.self)) l.jobs.items;
  scenario : scenario_of l.self ≡ scenario_of l.initial.self;
  count : length l.replies.items ≡ l.event-index;
  room : length l.events ≤ vec_capacity l.replies;
}
