-- What calls of a book make of the jobs that are held, in the words of replies.
use Rattle.std.proofs.Common.{◌≡◌, ℕ, ◌+◌, ◌<◌, refl, sym, ap, ◌∙◌, subst, List, ◌++◌, take, drop, length, map, slice_index_or, inl, inr}
use Rattle.std.specs.Prelude.{Option, Some, slice_get}
use Rattle.std.specs.Arc.{arc_value}
use Rattle.std.specs.List.{All}
use Rattle.std.specs.Option.{option_map}
use Rattle.std.proofs.lemmas.List.{map-append, take-map, drop-map}
use Rattle.std.proofs.lemmas.Option.{slice_get-map, slice_get_read}
use mathlib.Core.Logic.{∥∥₁_elim}
use Rattle.lf_sim.specs.Settings.{world_of}
use Rattle.lf_outcome.specs.declared.scenario.Scenario.{Scenario}
use Rattle.lf_outcome.specs.Sameness.{AreSame}
use Rattle.lf_marks.specs.Answers.{mark_for}
use Rattle.lf_marks.specs.Steps.{Mark, IsUnmarked}
use Rattle.lf_marks.specs.Steps as mark
use Rattle.lf_work.specs.declared.finding.Finding.{Finding}
use Rattle.lf_work.specs.declared.job.Job.{Job}
use Rattle.lf_work.specs.Jobs.{IsOfJob}
use Rattle.lf_certificate.specs.Events.{FilesMark, GivesBack}
use Rattle.lf_certificate.specs.Found.{IsFound}
use Rattle.lf_certificate.specs.States.{State, IsSameState}
use Rattle.lf_book.specs.Books.{scenario_of, state_of, task_of_job, task_of_finding, number_of, IsClaimOf, IsFoundOf, IsRefusedFor}
use Rattle.lf_book.specs.Drives.{Held, DoesFile, DoesGiveBack, without}
use Rattle.lf_book.specs.Holding.{IsHeldOf, held_of}
use Rattle.lf_book.specs.declared.book.Book.{Book}
use Rattle.lf_book.specs.declared.driving.Reply.TheVariants as reply
use Rattle.lf_book.specs.declared.filing.Refusal.{Refusal}
use Rattle.lf_book.specs.declared.filing.Refusal.TheVariants as refusal
use Rattle.lf_book.proofs.FilingLemmas.{as_named}

-- what is left of the jobs
pub left-held : (jobs left : List Job) (i : ℕ) → left ≡ take i jobs ++ drop (i + 1) jobs → map held_of left ≡ without (map held_of jobs) i
left-held jobs left i off =
    ap (map held_of) off ∙ map-append held_of (take i jobs) (drop (i + 1) jobs)
    ∙ ap (λ (l : List Held). l ++ map held_of (drop (i + 1) jobs)) (sym (take-map held_of i jobs))
    ∙ ap (λ (l : List Held). take i (map held_of jobs) ++ l) (sym (drop-map held_of (i + 1) jobs))

-- a scenario is the same as itself
same-scenario : (s t : Scenario) → t ≡ s → AreSame s t
same-scenario s t is = subst (AreSame s) (sym is) (record { protocol = refl; network = refl; bounds = refl; formula = refl; max_sets = refl })

-- the job at a place of those that are held
module _ (jobs : List Job) (i : ℕ) (job : Job) (few : i < length jobs) (here : job ≡ slice_index_or jobs i job) where
  held-at : slice_get (map held_of jobs) i ≡ Some (held_of job)
  held-at = slice_get-map held_of jobs i ∙ ap (option_map held_of) (slice_get_read jobs (length jobs) i job refl few here)

  -- is given back,
  pub gives-held : (old new : State) → GivesBack job.path.items job.ticket (task_of_job job) old new
      → DoesGiveBack (slice_get (map held_of jobs) i) reply.GaveBack old new
  gives-held old new e = subst (λ (o : Option Held). DoesGiveBack o reply.GaveBack old new) (sym held-at) (inl (refl, e))

  module _ (book : Book) (held : All (IsHeldOf (scenario_of book) (state_of book)) jobs) where
    job-held : IsHeldOf (scenario_of book) (state_of book) job
    job-held = subst (IsHeldOf (scenario_of book) (state_of book)) (sym here) (held i job few)

    -- or is of no claim,
    no-claim : (IsClaimOf book job.ticket (arc_value job.scenario) job.path.items (task_of_job job) → ⊥)
        → IsUnmarked (state_of book).marks (mark.Claimed job.ticket)
    no-claim never p is = ∥∥₁_elim (job-held.own (p, is)) (λ x y. absurd x) (λ h.
        never (record { same = same-scenario (scenario_of book) (arc_value job.scenario) job-held.scenario; claims = h }))

    pub keeps-held : (new : State) → (IsClaimOf book job.ticket (arc_value job.scenario) job.path.items (task_of_job job) → ⊥)
        → IsSameState (state_of book) new → DoesGiveBack (slice_get (map held_of jobs) i) reply.NotGiven (state_of book) new
    keeps-held new never same =
        subst (λ (o : Option Held). DoesGiveBack o reply.NotGiven (state_of book) new) (sym held-at) (inr (refl, no-claim never, same))

    -- or is worked:
    module _ (finding : Finding) (of : IsOfJob job finding) (new : State) where
      -- what is found is filed,
      pub filed-held : IsFoundOf finding
          → FilesMark finding.job.path.items finding.job.ticket (task_of_finding finding) (mark_for finding.answer) (state_of book) new
          → IsFound (world_of (scenario_of book).setting) (scenario_of book).setting.spec (scenario_of book).formula job.set job.excluded.items
          (mark_for finding.answer)
          × FilesMark job.path.items job.ticket (task_of_job job) (mark_for finding.answer) (state_of book) new
      filed-held found e =
          as_named (λ t s p task. IsFound (world_of s.setting) s.setting.spec s.formula task.faults task.excluded (mark_for finding.answer)
          × FilesMark p t task (mark_for finding.answer) (state_of book) new) finding.job.ticket job.ticket (arc_value finding.job.scenario) (scenario_of book)
          finding.job.path.items job.path.items finding.job.set job.set finding.job.excluded.items job.excluded.items of.ticket
          (of.scenario ∙ job-held.scenario) of.path of.set of.excluded (found, e)

      pub files-held : IsFoundOf finding
          → FilesMark finding.job.path.items finding.job.ticket (task_of_finding finding) (mark_for finding.answer) (state_of book) new
          → DoesFile (scenario_of book) (slice_get (map held_of jobs) i) reply.Filed (state_of book) new
      files-held found e =
          let both = filed-held found e in
          subst (λ (o : Option Held). DoesFile (scenario_of book) o reply.Filed (state_of book) new) (sym held-at)
          (inl (refl, mark_for finding.answer, both.0, both.1))

      -- or refused, for its ticket
      refused-by : (r : Refusal) (n : ℕ) → n ≡ number_of r → IsRefusedFor book job.ticket (scenario_of book) job.path.items (task_of_job job) r
          → (n ≡ 1) × IsUnmarked (state_of book).marks (mark.Claimed job.ticket)
      refused-by refusal.NoClaim n is h = (is, h)
      refused-by refusal.OtherScenario n is h = absurd (h.1 (same-scenario (scenario_of book) (scenario_of book) refl))
      refused-by refusal.OtherSet n is h = absurd (∥∥₁_elim (job-held.own h.0) (λ x y. absurd x) h.2)

      pub refuses-held : (r : Refusal) (n : ℕ) → n ≡ number_of r
          → IsRefusedFor book finding.job.ticket (arc_value finding.job.scenario) finding.job.path.items (task_of_finding finding) r
          → IsSameState (state_of book) new
          → DoesFile (scenario_of book) (slice_get (map held_of jobs) i) (reply.Refused n) (state_of book) new
      refuses-held r n is h same =
          let why = refused-by r n is (as_named (λ t s p task. IsRefusedFor book t s p task r) finding.job.ticket job.ticket (arc_value finding.job.scenario)
          (scenario_of book) finding.job.path.items job.path.items finding.job.set job.set finding.job.excluded.items job.excluded.items of.ticket
          (of.scenario ∙ job-held.scenario) of.path of.set of.excluded h) in
          subst (λ (o : Option Held). DoesFile (scenario_of book) o (reply.Refused n) (state_of book) new) (sym held-at)
          (inr (ap reply.Refused why.0, why.1, same))
