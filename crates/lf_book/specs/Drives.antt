-- Lists of events, and what a book replies to them.
use Rattle.std.specs.Prelude.{◌≡◌, ◌⊎◌, ℕ, ◌+◌, ◌<◌, List, [], ◌∷◌, ◌++◌, take, drop, length, slice_get, Option, None, Some}
use Rattle.lf_marks.specs.Steps.{Mark, IsUnmarked}
use Rattle.lf_marks.specs.Steps as mark
use Rattle.lf_outcome.specs.declared.scenario.Scenario.{Scenario}
use Rattle.lf_sim.specs.Settings.{world_of}
use Rattle.lf_certificate.specs.Events.{TakesSet, FindsBusy, FindsLevelDone, FindsFinished, FindsSpent, FilesMark, GivesBack, Reclaims}
use Rattle.lf_certificate.specs.Found.{IsFound}
use Rattle.lf_certificate.specs.States.{State, IsSameState}
use Rattle.lf_certificate.specs.Tasks.{Task}
use Rattle.lf_book.specs.Books.{Deepens}
use Rattle.lf_book.specs.declared.deepening.Deepened.{Deepened}
use Rattle.lf_book.specs.declared.driving.Event.{Event}
use Rattle.lf_book.specs.declared.driving.Event.TheVariants as event
use Rattle.lf_book.specs.declared.driving.Reply.{Reply}
use Rattle.lf_book.specs.declared.driving.Reply.TheVariants as reply

-- what a held job names
pub record Held : Type 0 where
  pub path : List ℕ
  pub ticket : ℕ
  pub task : Task

-- the jobs that are left when the i-th is taken off the list
abbrev pub without : List Held → ℕ → List Held
without jobs i = take i jobs ++ drop (i + 1) jobs

-- a take: a job more is held, or none is to be had
abbrev pub DoesTake : List Held → Reply → List Held → State → State → Type 0
DoesTake jobs r left old new =
    ((job : Held) × (r ≡ reply.Took job.ticket) × TakesSet job.path job.ticket job.task old new × (left ≡ jobs ++ job ∷ []))
    ⊎ ((left ≡ jobs) × (((r ≡ reply.Busy) × FindsBusy old new) ⊎ ((r ≡ reply.LevelDone) × FindsLevelDone old new)
    ⊎ ((r ≡ reply.Finished) × FindsFinished old new) ⊎ ((r ≡ reply.Spent) × FindsSpent old new)))

-- the i-th job is worked and filed, or refused where no claim stands with its ticket; without such a job nothing is done
abbrev pub DoesFile : Scenario → Option Held → Reply → State → State → Type 0
DoesFile s None r old new = (r ≡ reply.NoJob) × IsSameState old new
DoesFile s (Some job) r old new =
    ((r ≡ reply.Filed) × (m : Mark) × IsFound (world_of s.setting) s.setting.spec s.formula job.task.faults job.task.excluded m
    × FilesMark job.path job.ticket job.task m old new)
    ⊎ ((r ≡ reply.Refused 1) × IsUnmarked old.marks (mark.Claimed job.ticket) × IsSameState old new)

abbrev pub DoesGiveBack : Option Held → Reply → State → State → Type 0
DoesGiveBack None r old new = (r ≡ reply.NoJob) × IsSameState old new
DoesGiveBack (Some job) r old new =
    ((r ≡ reply.GaveBack) × GivesBack job.path job.ticket job.task old new)
    ⊎ ((r ≡ reply.NotGiven) × IsUnmarked old.marks (mark.Claimed job.ticket) × IsSameState old new)

-- an event, with its reply and the jobs that are held after it
abbrev pub Does : Scenario → List Held → Event → Reply → List Held → State → State → Type 0
Does s jobs event.Take r left old new = DoesTake jobs r left old new
Does s jobs (event.File i) r left old new = (left ≡ without jobs i) × DoesFile s (slice_get jobs i) r old new
Does s jobs (event.GiveBack i) r left old new = (left ≡ without jobs i) × DoesGiveBack (slice_get jobs i) r old new
Does s jobs event.Deepen r left old new = (left ≡ jobs) × (d : Deepened) × (r ≡ reply.Deepened d) × Deepens s d old new
Does s jobs event.Reclaim r left old new = (left ≡ jobs) × (r ≡ reply.Reclaimed) × Reclaims old new

-- events one after another, each with its reply
abbrev pub Drives : Scenario → List Held → List Event → List Reply → State → State → Type 0
Drives s jobs [] [] old new = IsSameState old new
Drives s jobs [] (r ∷ rs) old new = ⊥
Drives s jobs (e ∷ es) [] old new = ⊥
Drives s jobs (e ∷ es) (r ∷ rs) old new = (left : List Held) × (mid : State) × Does s jobs e r left old mid × Drives s left es rs mid new

-- the events before some event were done, and it changed nothing
abbrev pub DrivesSome : Scenario → List Event → State → State → Type 0
DrivesSome s es old new = (count : ℕ) × (count < length es) × (rs : List Reply) × Drives s [] (take count es) rs old new
