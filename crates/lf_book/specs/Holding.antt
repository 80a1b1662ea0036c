-- Jobs that are held.
use Rattle.std.specs.Prelude.{◌≡◌, ◌<◌}
use Rattle.std.specs.Arc.{arc_value}
use Rattle.lf_marks.specs.Steps.{IsMarked}
use Rattle.lf_marks.specs.Steps as mark
use Rattle.lf_outcome.specs.declared.scenario.Scenario.{Scenario}
use Rattle.lf_certificate.specs.Events.{Claims}
use Rattle.lf_certificate.specs.States.{State}
use Rattle.lf_work.specs.declared.job.Job.{Job}
use Rattle.lf_book.specs.Books.{task_of_job}
use Rattle.lf_book.specs.Drives.{Held}

-- what a held job names
abbrev pub held_of : Job → Held
held_of job = record { path = job.path.items; ticket = job.ticket; task = task_of_job job }

-- a job that a search of the scenario gave, by a ticket that claims no other set
pub record IsHeldOf (s : Scenario) (state : State) (job : Job) : Type 0 where
  pub scenario : arc_value job.scenario ≡ s
  pub given : job.ticket < state.next
  pub own : IsMarked state.marks (mark.Claimed job.ticket) → ∥ Claims job.path.items job.ticket (task_of_job job) state.marks ∥₁
