-- What a book is, and what its calls do, in the words of searches.
use Rattle.std.specs.Prelude.{◌≡◌, ℕ, ◌+◌, ◌≤◌, List, Some, ⊤}
use Rattle.std.specs.Arc.{arc_value}
use Rattle.lf_marks.specs.Marks.{mark_at, level_of}
use Rattle.lf_marks.specs.Answers.{mark_for}
use Rattle.lf_marks.specs.Steps.{Marking, IsMarked, IsUnmarked, kids_above}
use Rattle.lf_marks.specs.Steps as mark
use Rattle.lf_outcome.specs.declared.scenario.Scenario.{Scenario}
use Rattle.lf_outcome.specs.Sameness.{AreSame}
use Rattle.lf_sim.specs.Settings.{world_of}
use Rattle.lf_work.specs.declared.finding.Finding.{Finding}
use Rattle.lf_work.specs.declared.job.Job.{Job}
use Rattle.lf_certificate.specs.Closed.{IsClosed}
use Rattle.lf_certificate.specs.Events.{TakesSet, FindsBusy, FindsLevelDone, FindsFinished, FindsSpent, Claims, FilesMark, GivesBack}
use Rattle.lf_certificate.specs.Events.{IsNotDone, FindsAnswer, FindsNone, FindsFull, GoesDown}
use Rattle.lf_certificate.specs.Found.{IsFound}
use Rattle.lf_certificate.specs.Levels.{IsFullAt}
use Rattle.lf_certificate.specs.States.{State}
use Rattle.lf_certificate.specs.Tasks.{Task, task_at}
use Rattle.lf_book.specs.declared.book.Book.{Book}
use Rattle.lf_book.specs.declared.taking.Taken.{Taken}
use Rattle.lf_book.specs.declared.taking.Taken.TheVariants as taken
use Rattle.lf_book.specs.declared.filing.Refusal.{Refusal}
use Rattle.lf_book.specs.declared.filing.Refusal.TheVariants as refusal
use Rattle.lf_book.specs.declared.deepening.Deepened.{Deepened}
use Rattle.lf_book.specs.declared.deepening.Deepened.TheVariants as deepened

-- the scenario that it searches, and the state of the search
abbrev pub scenario_of : Book → Scenario
scenario_of book = arc_value book.scenario

abbrev pub state_of : Book → State
state_of book = record { level = level_of book.marks; next = book.next; finished = book.finished; marks = mark_at book.marks }

-- a state of a search of the scenario is closed
abbrev pub IsClosedFor : Scenario → State → Type 0
IsClosedFor s = IsClosed (world_of s.setting) s.setting.spec s.formula s.max_sets

-- what a job's set is worked with, and that of a finding
abbrev pub task_of_job : Job → Task
task_of_job job = record { faults = job.set; excluded = job.excluded.items }

abbrev pub task_of_finding : Finding → Task
task_of_finding finding = task_of_job finding.job

-- the job of the set at a path of a book, by a ticket
pub record IsJobFor (book : Book) (p : List ℕ) (t : ℕ) (job : Job) : Type 0 where
  pub scenario : arc_value job.scenario ≡ scenario_of book
  pub path : job.path.items ≡ p
  pub ticket : job.ticket ≡ t
  pub works : task_at (state_of book).marks p ≡ Some (task_of_job job)

-- the set at a path is worked with the task in a state that a search of the scenario can have: so it is in all of them in which it stands
pub record IsGivenFor (s : Scenario) (path : List ℕ) (task : Task) : Type 0 where
  pub state : State
  pub closed : ∥ IsClosedFor s state ∥₁
  pub works : task_at state.marks path ≡ Some task

-- a take's answer: a job of the scenario, whose set is claimed now, or why there is none
abbrev pub IsTaken : Book → Book → Taken → Type 0
IsTaken old new (taken.Job job) =
    (arc_value job.scenario ≡ scenario_of old) × TakesSet job.path.items job.ticket (task_of_job job) (state_of old) (state_of new)
IsTaken old new taken.Busy = FindsBusy (state_of old) (state_of new)
IsTaken old new taken.LevelDone = FindsLevelDone (state_of old) (state_of new)
IsTaken old new taken.Finished = FindsFinished (state_of old) (state_of new)
IsTaken old new taken.Spent = FindsSpent (state_of old) (state_of new)

-- where a take gives no job
abbrev pub IfNoJob : Taken → Type 0 → Type 0
IfNoJob (taken.Job job) P = ⊤
IfNoJob taken.Busy P = P
IfNoJob taken.LevelDone P = P
IfNoJob taken.Finished P = P
IfNoJob taken.Spent P = P

-- a take was near what it took: the steps are at most one more than the kids of the sets above, and at most one where there is no job
abbrev pub IsNear : Marking → Taken → ℕ → ℕ → Type 0
IsNear at (taken.Job job) old new = new ≤ old + 1 + kids_above at job.path.items
IsNear at taken.Busy old new = new ≤ old + 1
IsNear at taken.LevelDone old new = new ≤ old + 1
IsNear at taken.Finished old new = new ≤ old + 1
IsNear at taken.Spent old new = new ≤ old + 1

-- the numbers of refusals
abbrev pub number_of : Refusal → ℕ
number_of refusal.NoClaim = 1
number_of refusal.OtherScenario = 2
number_of refusal.OtherSet = 3

-- why something that names a ticket, a scenario, a path and a task is refused: no claim stands with the ticket, or the scenario is
-- another, or the claim is of another set
abbrev pub IsRefusedFor : Book → ℕ → Scenario → List ℕ → Task → Refusal → Type 0
IsRefusedFor book t s path task refusal.NoClaim = IsUnmarked (state_of book).marks (mark.Claimed t)
IsRefusedFor book t s path task refusal.OtherScenario = IsMarked (state_of book).marks (mark.Claimed t) × (¬ AreSame (scenario_of book) s)
IsRefusedFor book t s path task refusal.OtherSet =
    IsMarked (state_of book).marks (mark.Claimed t) × AreSame (scenario_of book) s × (¬ Claims path t task (state_of book).marks)

-- a finding is filed: its mark is that of the set that its ticket claims
abbrev pub IsFiled : Finding → Book → Book → Type 0
IsFiled finding old new =
    FilesMark finding.job.path.items finding.job.ticket (task_of_finding finding) (mark_for finding.answer) (state_of old) (state_of new)

-- and it is what the run of the finding's set shows
abbrev pub IsFoundOf : Finding → Type 0
IsFoundOf finding =
    IsFound (world_of (arc_value finding.job.scenario).setting) (arc_value finding.job.scenario).setting.spec
    (arc_value finding.job.scenario).formula finding.job.set finding.job.excluded.items (mark_for finding.answer)

-- a job is given back: the set that its ticket claims is open
abbrev pub IsGivenBack : Job → Book → Book → Type 0
IsGivenBack job old new = GivesBack job.path.items job.ticket (task_of_job job) (state_of old) (state_of new)

-- the job or the finding names a claim of the book
pub record IsClaimOf (book : Book) (t : ℕ) (s : Scenario) (path : List ℕ) (task : Task) : Type 0 where
  pub same : AreSame (scenario_of book) s
  pub claims : Claims path t task (state_of book).marks

-- what a call of deepen answers, and what it made of the state of a search of the scenario
abbrev pub Deepens : Scenario → Deepened → State → State → Type 0
Deepens s deepened.NotDone old new = IsNotDone old new
Deepens s deepened.Answer old new = FindsAnswer old new
Deepens s deepened.NoneWithin old new = FindsNone s.setting.spec old new
Deepens s (deepened.Full count) old new = FindsFull s.setting.spec s.max_sets count old new
Deepens s deepened.Down old new = GoesDown s.setting.spec s.max_sets old new

abbrev pub IsDeepened : Book → Book → Deepened → Type 0
IsDeepened old new d = Deepens (scenario_of old) d (state_of old) (state_of new)

-- where the search neither ends nor goes on
abbrev pub IfStays : Deepened → Type 0 → Type 0
IfStays deepened.NotDone P = P
IfStays deepened.Answer P = ⊤
IfStays deepened.NoneWithin P = ⊤
IfStays (deepened.Full count) P = P
IfStays deepened.Down P = ⊤

-- where a search is full, the next level is the first that is too full, it has so many sets, and all smaller allowed sets reach
abbrev pub ShowsFull : Scenario → State → Deepened → Type 0
ShowsFull s state deepened.NotDone = ⊤
ShowsFull s state deepened.Answer = ⊤
ShowsFull s state deepened.NoneWithin = ⊤
ShowsFull s state (deepened.Full count) = IsFullAt (world_of s.setting) s.setting.spec s.formula s.max_sets (state.level + 1) count
ShowsFull s state deepened.Down = ⊤
