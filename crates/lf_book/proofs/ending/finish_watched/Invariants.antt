use Rattle.std.proofs.Common.{◌≡◌, ◌-◌}
use Rattle.lf_book.specs.Turns.{IsUnderway, KeepsAnswers}
use Rattle.lf_book.specs.Books.{scenario_of, state_of}
use Rattle.lf_certificate.specs.Events.{IsUnclaimed}
use Rattle.lf_work.specs.Scratches.{IsScratchFor}
use Rattle.lf_book.proofs.ending.finish_watched.Given as goal

-- nothing is claimed, there is still a ticket for each open set if there was, and the scratch is of the scenario
abbrev pub invariant-levels : goal.invariant-levels
invariant-levels g l = record {
  free : IsUnclaimed (state_of l.book).marks;
  underway : IsUnderway (state_of l.initial.book) → IsUnderway (state_of l.book);
  kept : KeepsAnswers (state_of l.initial.book).marks (state_of l.book).marks;
  scenario : scenario_of l.book ≡ scenario_of l.initial.book;
  scratch : IsScratchFor (scenario_of l.book) l.scratch;
}

-- each level has one fault more
abbrev pub decreases-levels : goal.decreases-levels
decreases-levels g l = 7 - (state_of l.book).level
