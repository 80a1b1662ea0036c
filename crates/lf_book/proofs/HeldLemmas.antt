-- What events leave of the claims of the jobs that are held.
use Rattle.std.proofs.Common.{◌≡◌, ℕ, ◌+◌, ◌<◌, ◌≤◌, sym, ap, ◌∙◌, subst, arith, List, [], ◌∷◌, ◌++◌, take, drop, length, inl, inr, is_some}
use Rattle.std.specs.Prelude.{Option, None, Some}
use Rattle.std.specs.Arc.{arc_value}
use Rattle.std.specs.List.{All}
use Rattle.std.specs.Option.{option_map}
use Rattle.std.proofs.lemmas.List.Elements.{All-weaker, All-append, All-push, All-take, All-drop}
use Rattle.std.proofs.lemmas.Bool.{cases_lt}
use Rattle.std.proofs.lemmas.Option.{same_Some}
use Rattle.std.proofs.Math.Path.{fun_ext}
use mathlib.Core.Logic.{∥∥₁_elim, ∥∥₁_map, ∥∥₁_prop}
use Rattle.lf_faults.specs.declared.fault.Parts.{Parts}
use Rattle.lf_faults.specs.declared.spec.Bounds.{Bounds}
use Rattle.lf_sim.specs.Runs.{World}
use Rattle.lf_sim.specs.Settings.{world_of}
use Rattle.lf_outcome.specs.declared.formula.Formula.{Formula}
use Rattle.lf_outcome.specs.declared.scenario.Scenario.{Scenario}
use Rattle.lf_work.specs.declared.job.Job.{Job}
use Rattle.lf_marks.specs.Steps.{Mark, Marking, IsShape, IsMarked, IsSame, freed, raised}
use Rattle.lf_marks.specs.Steps as mark
use Rattle.lf_certificate.specs.Closed.{IsClosed}
use Rattle.lf_certificate.specs.Events.{TakesSet, Claims, FilesMark, GivesBack, Reclaims, GoesDown}
use Rattle.lf_certificate.specs.Found.{IsFound}
use Rattle.lf_certificate.specs.States.{State, IsSameState}
use Rattle.lf_certificate.specs.Tasks.{Task, task_at}
use Rattle.lf_certificate.proofs.Laws.{take_tasks, give_back_tasks, reclaim_tasks, file_tasks, down_tasks}
use Rattle.lf_book.specs.Books.{IsClosedFor, Deepens, task_of_job}
use Rattle.lf_book.specs.Holding.{IsHeldOf}
use Rattle.lf_book.specs.declared.deepening.Deepened.{Deepened}
use Rattle.lf_book.specs.declared.deepening.Deepened.TheVariants as deepened

-- the ticket was given, and if it claims a set then that of the task at the path
record IsOwn (s : State) (ticket : ℕ) (path : List ℕ) (task : Task) : Type 0 where
  pub given : ticket < s.next
  pub own : IsMarked s.marks (mark.Claimed ticket) → ∥ Claims path ticket task s.marks ∥₁

-- no given ticket claims more than before, and tasks of claims stay
record KeepsClaims (old new : State) : Type 0 where
  pub before : (q : List ℕ) (t : ℕ) → t < old.next → new.marks q ≡ Some (mark.Claimed t) → old.marks q ≡ Some (mark.Claimed t)
  pub tasks : (p : List ℕ) (t : ℕ) → old.marks p ≡ Some (mark.Claimed t) → task_at old.marks p ≡ task_at new.marks p

claims-kept : (old new : State) → IsShape old.level old.marks → KeepsClaims old new → (ticket : ℕ) (path : List ℕ) (task : Task)
    → (m : IsMarked new.marks (mark.Claimed ticket)) → old.marks m.0 ≡ Some (mark.Claimed ticket) → Claims path ticket task old.marks
    → Claims path ticket task new.marks
claims-kept old new shape keeps ticket path task m was c =
    let here : m.0 ≡ path = shape.tickets m.0 path ticket was c.claimed in
    record {
      claimed = subst (λ p. new.marks p ≡ Some (mark.Claimed ticket)) here m.1;
      works = sym (keeps.tasks path ticket c.claimed) ∙ c.works;
    }

-- so what is held stays its own
module _ {Local Note Fact : Type 0} (w : World Local Note Fact) (b : Bounds) (formula : Formula Fact) (most : ℕ) (old new : State)
    (closed : ∥ IsClosed w b formula most old ∥₁) (next : old.next ≤ new.next) (keeps : IsClosed w b formula most old → KeepsClaims old new)
    (ticket : ℕ) (path : List ℕ) (task : Task) where
  own-kept : IsOwn old ticket path task → IsOwn new ticket path task
  own-kept o = record {
    given = omega (arith, o.given, next);
    own = λ m. ∥∥₁_elim closed ∥∥₁_prop (λ c.
        let k = keeps c in
        let was = k.before m.0 ticket o.given m.1 in
        ∥∥₁_map (o.own (m.0, was)) (λ h. claims-kept old new c.shape k ticket path task m was h));
  }

-- where no mark changes
same_marks : (old new : State) → IsSame old.marks new.marks → new.marks ≡ old.marks
same_marks old new same = fun_ext same

keeps_same : (old new : State) → IsSame old.marks new.marks → KeepsClaims old new
keeps_same old new same = record {
  before = λ q t given is. sym (same q) ∙ is;
  tasks = λ p t is. ap (λ (at : Marking). task_at at p) (sym (same_marks old new same));
}

-- where a set is taken,
keeps-take : (path : List ℕ) (ticket : ℕ) (task : Task) (old new : State) → TakesSet path ticket task old new → KeepsClaims old new
keeps-take path ticket task old new e = record {
  before = λ q t given is.
      sym (e.marks.others q (λ here.
      let both : Some (mark.Claimed t) ≡ Some (mark.Claimed ticket) = sym is ∙ ap new.marks here ∙ e.marks.is in
      let one : t ≡ ticket = cc in
      omega (arith, one, e.fresh, given))) ∙ is;
  tasks = λ p t is. take_tasks path ticket task old new e p;
}

-- and what was taken is its own
own-taken : (path : List ℕ) (ticket : ℕ) (task : Task) (old new : State) → TakesSet path ticket task old new → IsOwn new ticket path task
own-taken path ticket task old new e = record {
  given = omega (arith, e.fresh, e.next);
  own = λ m. ∣ record { claimed = e.marks.is; works = sym (take_tasks path ticket task old new e path) ∙ e.works } ∣₁;
}

-- given back,
keeps-back : (path : List ℕ) (ticket : ℕ) (task : Task) (old new : State) → GivesBack path ticket task old new → KeepsClaims old new
keeps-back path ticket task old new e = record {
  before = λ q t given is.
      sym (e.marks.others q (λ here.
      let both : Some (mark.Claimed t) ≡ Some mark.Open = sym is ∙ ap new.marks here ∙ e.marks.is in
      absurd cc)) ∙ is;
  tasks = λ p t is. give_back_tasks path ticket task old new e p;
}

-- or reclaimed,
freed_claim : (o : Option Mark) (t : ℕ) → option_map freed o ≡ Some (mark.Claimed t) → o ≡ Some (mark.Claimed t)
freed_claim None t e = absurd cc
freed_claim (Some mark.Waiting) t e = absurd cc
freed_claim (Some mark.Open) t e = absurd cc
freed_claim (Some (mark.Claimed u)) t e = absurd cc
freed_claim (Some mark.Misses) t e = absurd cc
freed_claim (Some mark.Reaches) t e = absurd cc
freed_claim (Some (mark.Branch reach edges)) t e = absurd cc

keeps-reclaim : (old new : State) → Reclaims old new → KeepsClaims old new
keeps-reclaim old new e = record {
  before = λ q t given is. freed_claim (old.marks q) t (sym (e.marks q) ∙ is);
  tasks = λ p t is. reclaim_tasks old new e p;
}

raised_claim : (o : Option Mark) (t : ℕ) → option_map raised o ≡ Some (mark.Claimed t) → o ≡ Some (mark.Claimed t)
raised_claim None t e = absurd cc
raised_claim (Some mark.Waiting) t e = absurd cc
raised_claim (Some mark.Open) t e = absurd cc
raised_claim (Some (mark.Claimed u)) t e = e
raised_claim (Some mark.Misses) t e = absurd cc
raised_claim (Some mark.Reaches) t e = absurd cc
raised_claim (Some (mark.Branch reach edges)) t e = absurd cc

module _ {Local Note Fact : Type 0} (w : World Local Note Fact) (b : Bounds) (formula : Formula Fact) (most : ℕ) (old new : State)
    (closed : IsClosed w b formula most old) where
  -- going down,
  keeps-down : GoesDown b most old new → KeepsClaims old new
  keeps-down e = record {
    before = λ q t given is. raised_claim (old.marks q) t (sym (e.marks q) ∙ is);
    tasks = λ p t is. down_tasks w b formula most old new closed e p;
  }

  -- a claimed set stands no deeper than the level
  claimed_level : (p : List ℕ) (t : ℕ) → old.marks p ≡ Some (mark.Claimed t) → length p ≤ old.level
  claimed_level p t is = elim (cases_lt old.level (length p)) [
    | inr high ↦ high
    | inl beneath ↦
        let deep = closed.shape.deep p (ap is_some is) in
        let waits : old.marks p ≡ Some mark.Waiting = closed.shape.waits p (ap is_some is) (omega (arith, deep, beneath)) in
        absurd (let never : Some (mark.Claimed t) ≡ Some mark.Waiting = sym is ∙ waits in cc)
  ]

  found_claim : (faults excluded : List Parts) (m : Mark) (t : ℕ) → IsFound w b formula faults excluded m → m ≡ mark.Claimed t → ⊥
  found_claim faults excluded m t found is = subst (IsFound w b formula faults excluded) is found

  -- and where what was found is filed
  keeps-file : (path : List ℕ) (ticket : ℕ) (task : Task) (m : Mark) → IsFound w b formula task.faults task.excluded m
      → FilesMark path ticket task m old new → KeepsClaims old new
  keeps-file path ticket task m found e = record {
    before = λ q t given is.
        sym (e.marks.others q
        (λ here. found_claim task.faults task.excluded m t found
        (same_Some m (mark.Claimed t) (sym e.marks.is ∙ sym (ap new.marks here) ∙ is)))
        (λ i few here.
        let both : Some (mark.Claimed t) ≡ Some mark.Waiting = sym is ∙ ap new.marks here ∙ e.marks.kids i few in
        absurd cc)) ∙ is;
    tasks = λ p t is. file_tasks w b formula most old new closed path ticket task m e p (claimed_level p t is);
  }

-- what is left of the jobs is held
held-off : {s : Scenario} {state : State} (jobs left : List Job) (i : ℕ) → left ≡ take i jobs ++ drop (i + 1) jobs
    → All (IsHeldOf s state) jobs → All (IsHeldOf s state) left
held-off {s} {state} jobs left i off held =
    subst (All (IsHeldOf s state)) (sym off) (All-append (IsHeldOf s state) (take i jobs) (drop (i + 1) jobs)
    (All-take (IsHeldOf s state) i jobs held) (All-drop (IsHeldOf s state) (i + 1) jobs held))

-- All jobs that are held stay so:
module _ (s t : Scenario) (same : t ≡ s) (old new : State) (closed : ∥ IsClosedFor s old ∥₁) where
  held-kept : old.next ≤ new.next → (IsClosedFor s old → KeepsClaims old new) → (jobs : List Job) → All (IsHeldOf s old) jobs
      → All (IsHeldOf t new) jobs
  held-kept next keeps jobs = All-weaker (IsHeldOf s old) (IsHeldOf t new) (λ job h.
      let o : IsOwn old job.ticket job.path.items (task_of_job job) = record { given = h.given; own = h.own } in
      let n : IsOwn new job.ticket job.path.items (task_of_job job) =
      own-kept (world_of s.setting) s.setting.spec s.formula s.max_sets old new closed next keeps job.ticket job.path.items (task_of_job job) o in
      record { scenario = h.scenario ∙ sym same; given = n.given; own = n.own }) jobs

  -- where no mark changes,
  pub held-same : new.next ≡ old.next → IsSame old.marks new.marks → (jobs : List Job) → All (IsHeldOf s old) jobs → All (IsHeldOf t new) jobs
  held-same next marks = held-kept (omega (arith, next)) (λ k. keeps_same old new marks)

  -- where a set is taken and its job is held besides,
  pub held-taken : (before after : List Job) (job : Job) → arc_value job.scenario ≡ s
      → TakesSet job.path.items job.ticket (task_of_job job) old new → after ≡ before ++ job ∷ [] → All (IsHeldOf s old) before
      → All (IsHeldOf t new) after
  held-taken before after job given e more held =
      let o : IsOwn new job.ticket job.path.items (task_of_job job) = own-taken job.path.items job.ticket (task_of_job job) old new e in
      let kept = held-kept (omega (arith, e.next)) (λ k. keeps-take job.path.items job.ticket (task_of_job job) old new e) before held in
      subst (All (IsHeldOf t new)) (sym more)
      (All-push (IsHeldOf t new) before job kept (record { scenario = given ∙ sym same; given = o.given; own = o.own }))

  -- where one of them is off the list, and is given back,
  pub held-back : (jobs left : List Job) (i : ℕ) (path : List ℕ) (ticket : ℕ) (task : Task) → left ≡ take i jobs ++ drop (i + 1) jobs
      → GivesBack path ticket task old new → All (IsHeldOf s old) jobs → All (IsHeldOf t new) left
  held-back jobs left i path ticket task off e held =
      held-kept (omega (arith, e.keeps.next)) (λ k. keeps-back path ticket task old new e) left (held-off jobs left i off held)

  -- or filed,
  pub held-file : (jobs left : List Job) (i : ℕ) (path : List ℕ) (ticket : ℕ) (task : Task) (m : Mark) → left ≡ take i jobs ++ drop (i + 1) jobs
      → IsFound (world_of s.setting) s.setting.spec s.formula task.faults task.excluded m → FilesMark path ticket task m old new
      → All (IsHeldOf s old) jobs → All (IsHeldOf t new) left
  held-file jobs left i path ticket task m off found e held =
      held-kept (omega (arith, e.keeps.next))
      (λ k. keeps-file (world_of s.setting) s.setting.spec s.formula s.max_sets old new k path ticket task m found e) left (held-off jobs left i off held)

  -- or refused,
  pub held-refused : (jobs left : List Job) (i : ℕ) → left ≡ take i jobs ++ drop (i + 1) jobs → IsSameState old new
      → All (IsHeldOf s old) jobs → All (IsHeldOf t new) left
  held-refused jobs left i off e held = held-same e.next e.marks left (held-off jobs left i off held)

  -- after a level,
  pub held-deepened : (d : Deepened) → Deepens s d old new → (jobs : List Job) → All (IsHeldOf s old) jobs → All (IsHeldOf t new) jobs
  held-deepened deepened.NotDone e = held-same e.same.next e.same.marks
  held-deepened deepened.Answer e = held-same e.ends.next e.ends.marks
  held-deepened deepened.NoneWithin e = held-same e.ends.next e.ends.marks
  held-deepened (deepened.Full count) e = held-same e.same.next e.same.marks
  held-deepened deepened.Down e =
      held-kept (omega (arith, e.next)) (λ k. keeps-down (world_of s.setting) s.setting.spec s.formula s.max_sets old new k e)

  -- and where all claims are reclaimed
  pub held-reclaimed : Reclaims old new → (jobs : List Job) → All (IsHeldOf s old) jobs → All (IsHeldOf t new) jobs
  held-reclaimed e = held-kept (omega (arith, e.keeps.next)) (λ k. keeps-reclaim old new e)
