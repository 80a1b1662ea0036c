-- What the holds of the lock do to the book that lies under it. A turn is a first hold and, after a job, a second one: it is filed in that,
-- or given back. Where many sets are open, a worker takes a handful of them in one hold, and files them in another, in which it takes the next
-- handful. Nothing else changes the book.
use Rattle.std.specs.Prelude.{◌≡◌, ◌⊎◌, ℕ, ◌+◌, List, [], ◌∷◌, Option, Some}
use Rattle.lf_marks.specs.Counting.{IsCount, OfKind}
use Rattle.lf_marks.specs.Steps as mark
use Rattle.std.specs.Arc.{arc_value}
use Rattle.std.specs.List.{All}
use Rattle.lf_outcome.specs.Sameness.{AreSame}
use Rattle.lf_outcome.specs.declared.scenario.Scenario.{Scenario}
use Rattle.lf_book.specs.Books.{scenario_of, state_of, task_of_finding, task_of_job, IsTaken, IsDeepened, IsFiled, IsGivenBack, IsClaimOf, IsGivenFor}
use Rattle.lf_book.specs.declared.book.Book.{Book}
use Rattle.lf_book.specs.declared.taking.Taken.TheVariants as taken
use Rattle.lf_certificate.specs.Events.{FindsBusy}
use Rattle.lf_work.specs.declared.finding.Finding.{Finding}
use Rattle.lf_work.specs.declared.job.Job.{Job}
use Rattle.lf_work.specs.declared.scratch.Scratch.{Scratch}
use Rattle.lf_work.specs.Scratches.{IsScratchFor}
use Rattle.lf_work.specs.declared.spent.Spent.{Spent}
use Rattle.lf_book.specs.declared.deepening.Deepened.TheVariants as deepened
use Rattle.lf_pool.specs.declared.locked.Begun.{Begun}
use Rattle.lf_pool.specs.declared.locked.Begun.TheVariants as begun
use Rattle.lf_pool.specs.declared.locked.hand.Claim.{Claim}
use Rattle.lf_pool.specs.declared.locked.hand.Found.{Found}
use Rattle.lf_pool.specs.declared.turning.Turn.{Turn}
use Rattle.lf_pool.specs.declared.turning.Turn.TheVariants as turn

-- so many sets of the book are answered
abbrev pub IsAnsweredCount : Book → ℕ → Type 0
IsAnsweredCount book = IsCount (λ p. OfKind mark.IsAnswer ((state_of book).marks p))

-- the first hold of a turn is a take. Where it finds the level done, a deepen follows in the same hold.
abbrev pub IsBegun : Book → Book → Begun → Type 0
IsBegun old new (begun.Job claim) = IsTaken old new (taken.Job claim.job)
IsBegun old new begun.Busy = IsTaken old new taken.Busy
IsBegun old new (begun.Deepened deepened) = (between : Book) × IsTaken old between taken.LevelDone × IsDeepened between new deepened
IsBegun old new begun.Finished = IsTaken old new taken.Finished
IsBegun old new begun.Spent = IsTaken old new taken.Spent

-- and so many sets it gives out
abbrev pub given_out : Begun → ℕ
given_out (begun.Job claim) = 1
given_out begun.Busy = 0
given_out (begun.Deepened deepened) = 0
given_out begun.Finished = 0
given_out begun.Spent = 0

-- no set of the book is open, but some are worked: the one state in which a worker waits
abbrev pub IsBusy : Book → Type 0
IsBusy book = FindsBusy (state_of book) (state_of book)

-- a claim of the book is that of the job, or of the finding
abbrev pub IsJobClaimed : Book → Job → Type 0
IsJobClaimed book job = IsClaimOf book job.ticket (arc_value job.scenario) job.path.items (task_of_job job)

abbrev pub IsFindingClaimed : Book → Finding → Type 0
IsFindingClaimed book finding =
    IsClaimOf book finding.job.ticket (arc_value finding.job.scenario) finding.job.path.items (task_of_finding finding)

-- jobs were taken in one hold, each by a take, the first of the list first
abbrev pub AreTaken : List Claim → Book → Book → Type 0
AreTaken [] old new = new ≡ old
AreTaken (claim ∷ claims) old new = (between : Book) × IsTaken old between (taken.Job claim.job) × AreTaken claims between new

-- so many of some findings were filed in one hold, the last of the list first, and those refused that were of no claim
abbrev pub AreFiled : List Found → ℕ → Book → Book → Type 0
AreFiled [] n old new = (n ≡ 0) × (new ≡ old)
AreFiled (found ∷ founds) n old new =
    (m : ℕ) × (between : Book) × AreFiled founds m old between
    × ((IsFiled found.finding between new × (n ≡ m + 1)) ⊎ ((¬ IsFindingClaimed between found.finding) × (new ≡ between) × (n ≡ m)))

-- jobs were given back in one hold, the last of the list first, but for those whose claims don't stand
abbrev pub AreGivenBack : List Claim → Book → Book → Type 0
AreGivenBack [] old new = new ≡ old
AreGivenBack (claim ∷ claims) old new =
    (between : Book) × AreGivenBack claims old between
    × (IsGivenBack claim.job between new ⊎ ((¬ IsJobClaimed between claim.job) × (new ≡ between)))

-- a handful was ended in one hold: so many of its findings were filed, and then the jobs that were left given back
abbrev pub AreEnded : List Found → List Claim → ℕ → Book → Book → Type 0
AreEnded findings jobs n old new = (between : Book) × AreFiled findings n old between × AreGivenBack jobs between new

-- a worker went on in one hold: so many of its findings were filed, and then jobs were taken
abbrev pub HasGoneOn : List Found → List Claim → Book → Book → Type 0
HasGoneOn findings jobs old new = (n : ℕ) × (between : Book) × AreFiled findings n old between × AreTaken jobs between new

-- a job is of a scenario, and a book of that scenario gave it out
abbrev pub IsJobOf : Scenario → Claim → Type 0
IsJobOf s claim = (arc_value claim.job.scenario ≡ s) × IsGivenFor s claim.job.path.items (task_of_job claim.job)

abbrev pub AreJobsOf : Scenario → List Claim → Type 0
AreJobsOf s = All (IsJobOf s)

-- a finding is of such a job
abbrev pub IsFoundFor : Scenario → Found → Type 0
IsFoundFor s found =
    (arc_value found.finding.job.scenario ≡ s) × IsGivenFor s found.finding.job.path.items (task_of_finding found.finding)

-- jobs are of the scenario that is searched, and so are findings
abbrev pub AreJobsIn : Option Scenario → List Claim → Type 0
AreJobsIn searched jobs = (s : Scenario) × (searched ≡ Some s) × AreJobsOf s jobs

abbrev pub IsFindingIn : Option Scenario → Found → Type 0
IsFindingIn searched found = (s : Scenario) × (searched ≡ Some s) × IsFoundFor s found

abbrev pub AreFindingsIn : Option Scenario → List Found → Type 0
AreFindingsIn searched founds = (s : Scenario) × (searched ≡ Some s) × All (IsFoundFor s) founds

-- a worker's jobs and those that it took for later, what it found, and what it works with are of that scenario
abbrev pub IsAtWork : Option Scenario → List Claim → List Claim → List Found → Scratch → Type 0
IsAtWork searched jobs next findings scratch = (s : Scenario) × (searched ≡ Some s) × AreJobsOf s jobs × AreJobsOf s next
    × All (IsFoundFor s) findings × IsScratchFor s scratch

-- what a job of that scenario left
abbrev pub IsLeftIn : Option Scenario → Spent → Type 0
IsLeftIn searched spent = searched ≡ Some (arc_value spent.scenario)

-- a finding is of the scenario that the book searches, and of a job that such a book gave out
abbrev pub IsOfBook : Book → Finding → Type 0
IsOfBook book finding =
    AreSame (scenario_of book) (arc_value finding.job.scenario)
    × IsGivenFor (arc_value finding.job.scenario) finding.job.path.items (task_of_finding finding)

-- a hold of the lock found a book of the scenario that is searched, and this was its first hold,
abbrev pub WasBegun : Option Scenario → Begun → Type 0
WasBegun searched b = (old : Book) × (new : Book) × (searched ≡ Some (scenario_of old)) × IsBegun old new b

-- or it filed a finding,
abbrev pub WasFiled : Option Scenario → Type 0
WasFiled searched =
    (old : Book) × (new : Book) × (found : Found) × (searched ≡ Some (scenario_of old)) × IsFiled found.finding old new

-- or refused one that is of no claim
abbrev pub WasRefused : Option Scenario → Type 0
WasRefused searched = (book : Book) × (found : Found) × (searched ≡ Some (scenario_of book)) × (¬ IsFindingClaimed book found.finding)

-- what a turn did, or found, in a book of that scenario
abbrev pub IsTurn : Option Scenario → Turn → Type 0
IsTurn searched turn.Filed = WasFiled searched
IsTurn searched turn.Refused = WasRefused searched
IsTurn searched turn.Waited = WasBegun searched begun.Busy
IsTurn searched (turn.Deepened d) = WasBegun searched (begun.Deepened d)
IsTurn searched turn.Finished = WasBegun searched begun.Finished
IsTurn searched (turn.Full count) = WasBegun searched (begun.Deepened (deepened.Full count))
IsTurn searched turn.Spent = WasBegun searched begun.Spent

-- after such a turn a worker has no more to do: the book was finished, or the next level too full, or there was no ticket
abbrev pub IsLastTurn : Option Scenario → Turn → Type 0
IsLastTurn searched turn.Filed = ⊥
IsLastTurn searched turn.Refused = ⊥
IsLastTurn searched turn.Waited = ⊥
IsLastTurn searched (turn.Deepened d) = ⊥
IsLastTurn searched turn.Finished = WasBegun searched begun.Finished
IsLastTurn searched (turn.Full count) = WasBegun searched (begun.Deepened (deepened.Full count))
IsLastTurn searched turn.Spent = WasBegun searched begun.Spent
