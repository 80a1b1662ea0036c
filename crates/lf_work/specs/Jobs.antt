-- Jobs, and what comes of them.
use Rattle.std.specs.Prelude.{◌≡◌}
use Rattle.std.specs.Arc.{arc_value}
use Rattle.lf_outcome.specs.declared.scenario.Scenario.{Scenario}
use Rattle.lf_work.specs.declared.job.Job.{Job}
use Rattle.lf_work.specs.declared.finding.Finding.{Finding}
use Rattle.lf_work.specs.declared.spent.Spent.{Spent}

-- two jobs name the same
pub record IsSameJob (job other : Job) : Type 0 where
  pub scenario : arc_value other.scenario ≡ arc_value job.scenario
  pub set : other.set ≡ job.set
  pub excluded : other.excluded.items ≡ job.excluded.items
  pub path : other.path.items ≡ job.path.items
  pub ticket : other.ticket ≡ job.ticket

-- the finding is of the job
abbrev pub IsOfJob : Job → Finding → Type 0
IsOfJob job finding = IsSameJob job finding.job

-- what a job of the scenario left
abbrev pub IsSpentOf : Scenario → Spent → Type 0
IsSpentOf s spent = arc_value spent.scenario ≡ s
