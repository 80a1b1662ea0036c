use Rattle.std.proofs.Common.{◌≡◌, ◌-◌}
use Rattle.lf_book.specs.Turns.{IsUnderway, KeepsAnswers}
use Rattle.lf_book.specs.Books.{scenario_of, state_of}
use Rattle.lf_certificate.specs.Events.{IsUnclaimed}
use Rattle.lf_certificate.specs.States.{last_ticket}
use Rattle.lf_work.specs.Scratches.{IsScratchFor}
use Rattle.lf_book.proofs.ending.work_level.Given as goal

-- the level is the same, nothing is claimed, there is still a ticket for each open set if there was, and the scratch is of the scenario
abbrev pub invariant-sets : goal.invariant-sets
invariant-sets g l = record {
  free : IsUnclaimed (state_of l.book).marks;
  level : (state_of l.book).level ≡ (state_of l.initial.book).level;
  underway : IsUnderway (state_of l.initial.book) → IsUnderway (state_of l.book);
  kept : KeepsAnswers (state_of l.initial.book).marks (state_of l.book).marks;
  scenario : scenario_of l.book ≡ scenario_of l.initial.book;
  scratch : IsScratchFor (scenario_of l.book) l.scratch;
}

-- each set takes a ticket
abbrev pub decreases-sets : goal.decreases-sets
decreases-sets g l = last_ticket - (state_of l.book).next
