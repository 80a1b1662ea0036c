-- What the calls of a book give that one thread drives.
use Rattle.std.proofs.Common.{◌≡◌, ℕ, List, sym, ap, ◌∙◌}
use Rattle.lf_book.specs.Books.{task_of_job, task_of_finding}
use Rattle.lf_outcome.specs.declared.scenario.Scenario.{Scenario}
use Rattle.lf_outcome.specs.Sameness.{AreSame}
use Rattle.lf_certificate.specs.Events.{Claims, TakesSet}
use Rattle.lf_certificate.specs.States.{State}
use Rattle.lf_certificate.specs.Tasks.{Task}
use Rattle.lf_certificate.proofs.Laws.{take_tasks}
use Rattle.lf_work.specs.Jobs.{IsOfJob}
use Rattle.lf_work.specs.declared.finding.Finding.{Finding}
use Rattle.lf_work.specs.declared.job.Job.{Job}

-- a taken set is claimed,
claimed_by : (old mid : State) (path : List ℕ) (ticket : ℕ) (task : Task) → TakesSet path ticket task old mid → Claims path ticket task mid.marks
claimed_by old mid path ticket task took =
    record { claimed = took.marks.is; works = sym (take_tasks path ticket task old mid took path) ∙ took.works }

-- by what was found of it too
pub claimed_for : (old mid : State) (job : Job) (finding : Finding) → IsOfJob job finding
    → TakesSet job.path.items job.ticket (task_of_job job) old mid
    → Claims finding.job.path.items finding.job.ticket (task_of_finding finding) mid.marks
claimed_for old mid job finding of took =
    rw (of.path, of.ticket, of.set, of.excluded) (claimed_by old mid job.path.items job.ticket (task_of_job job) took)

pub same_as : (s t : Scenario) → s ≡ t → AreSame s t
same_as s t e = record {
  protocol = ap (λ (x : Scenario). x.setting.machine) e;
  network = ap (λ (x : Scenario). x.setting.network) e;
  bounds = ap (λ (x : Scenario). x.setting.spec) e;
  formula = ap (λ (x : Scenario). x.formula) e;
  max_sets = ap (λ (x : Scenario). x.max_sets) e;
}
