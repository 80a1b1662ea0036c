-- What closed states show of sets: all that are smaller than the level reach, and those of the level that miss are marked so.
use Rattle.std.proofs.Common.{◌≡◌, ℕ, zero, suc, ◌+◌, ◌<◌, ◌≤◌, true, false, List, length}
use Rattle.std.proofs.Common.{refl, sym, ap, ◌∙◌, subst, arith, inl, inr}
use Rattle.std.specs.Prelude.{Some, IsSome, nat_lt}
use Rattle.std.specs.Option.{is_some}
use Rattle.std.proofs.lemmas.Bool.{cases_Bool, cases_eq, cases_lt, false≢true, ltb-false}
use Rattle.std.proofs.lemmas.Option.{same_Some}
use Rattle.lf_faults.specs.declared.fault.Parts.{Parts}
use Rattle.lf_faults.specs.declared.spec.Bounds.{Bounds}
use Rattle.lf_faults.specs.Allowed.{IsAllowed}
use Rattle.lf_faults.proofs.Laws.{empty_allowed}
use Rattle.lf_sim.specs.Runs.{World}
use Rattle.lf_outcome.specs.declared.formula.Formula.{Formula}
use Rattle.lf_outcome.specs.Truth.{reaches}
use Rattle.lf_certificate.specs.Accepted.{IsBounded}
use Rattle.lf_marks.specs.Steps.{Mark, IsAnswer, IsMarked}
use Rattle.lf_marks.specs.Steps as mark
use Rattle.lf_certificate.specs.Closed.{IsBranchMark, MissesAt, IsKnown, IsClosed}
use Rattle.lf_certificate.specs.Events.{IsDone}
use Rattle.lf_certificate.specs.Levels.{Grows}
use Rattle.lf_certificate.specs.States.{State}
use Rattle.lf_certificate.specs.Tasks.{Task, root_task, task_at}
use Rattle.lf_certificate.proofs.WayLemmas.{sharp_reaches, IsSet, set_at, IsFilled, Stands, stands_at}
use Rattle.lf_certificate.proofs.CoveringLemmas.{each_grows}

pub branch_answer : (m : Mark) → IsBranchMark m → IsAnswer m
branch_answer mark.Waiting h = h
branch_answer mark.Open h = h
branch_answer (mark.Claimed t) h = h
branch_answer mark.Misses h = absurd h
branch_answer mark.Reaches h = absurd h
branch_answer (mark.Branch reach edges) h = tt

module _ {Local Note Fact : Type 0} (w : World Local Note Fact) (b : Bounds) (formula : Formula Fact) (most : ℕ) (s : State)
    (bounded : IsBounded w b) (closed : IsClosed w b formula most s) where
  lasts : 1 ≤ w.pause_length
  lasts = omega (arith, bounded.pause_length, bounded.limits.pause_length.0)

  -- a set that stands
  pub set_of : (path : List ℕ) → IsSome (s.marks path) → IsSet w b formula s.marks root_task path
  set_of path h = set_at w b formula path s.marks root_task closed.shape.parents closed.known (empty_allowed b) h

  -- above the level all is answered,
  above_filled : IsFilled w b formula s.level 0 s.marks root_task
  above_filled = record {
    root = closed.shape.root;
    kids = closed.shape.kids;
    answered = λ p m here above. branch_answer m (closed.branches p m here (omega (arith, above)));
    known = closed.known;
  }

  -- and on it, once it is done
  pub done_answer : IsDone s.marks → (p : List ℕ) (m : Mark) → s.marks p ≡ Some m → length p ≡ s.level → IsAnswer m
  done_answer done p mark.Waiting here on = let never : ⊥ = omega (arith, closed.shape.waiting p here, on) in never
  done_answer done p mark.Open here on = done.none p here
  done_answer done p (mark.Claimed t) here on = done.free t p here
  done_answer done p mark.Misses here on = tt
  done_answer done p mark.Reaches here on = tt
  done_answer done p (mark.Branch reach edges) here on = tt

  done_filled : IsDone s.marks → IsFilled w b formula (s.level + 1) 0 s.marks root_task
  done_filled done = record {
    root = closed.shape.root;
    kids = closed.shape.kids;
    answered = λ p m here above. elim (cases_eq (length p) s.level) [
      | inl on ↦ done_answer done p m here on
      | inr off ↦ branch_answer m (closed.branches p m here (omega (arith, above, off)))
    ];
    known = closed.known;
  }

  -- what grows down to the level stands, and so does what grows one beneath it, once it is done
  pub grown_stands : (path : List ℕ) (u : Task) → length path ≤ s.level → Grows w b formula root_task path u
      → Stands w b formula s.marks root_task path u
  grown_stands path u deep grows = stands_at w b formula path s.level 0 s.marks root_task u (omega (arith, deep)) above_filled grows

  pub grown_waits : IsDone s.marks → (path : List ℕ) (u : Task) → length path ≤ s.level + 1 → Grows w b formula root_task path u
      → Stands w b formula s.marks root_task path u
  grown_waits done path u deep grows =
      stands_at w b formula path (s.level + 1) 0 s.marks root_task u (omega (arith, deep)) (done_filled done) grows

  -- a branch reaches
  branch_reaches : (u : Task) (m : Mark) → IsBranchMark m → IsKnown w b formula u m → reaches w u.faults formula ≡ true
  branch_reaches u mark.Waiting h k = absurd h
  branch_reaches u mark.Open h k = absurd h
  branch_reaches u (mark.Claimed t) h k = absurd h
  branch_reaches u mark.Misses h k = absurd h
  branch_reaches u mark.Reaches h k = absurd h
  branch_reaches u (mark.Branch reach edges) h k = sharp_reaches w b formula u.faults reach k.sharp

  above_reaches : (path : List ℕ) (u : Task) → length path < s.level → Stands w b formula s.marks root_task path u
      → reaches w u.faults formula ≡ true
  above_reaches path u above st =
      branch_reaches u st.mark (closed.branches path st.mark st.is above) (closed.known path st.mark u st.is st.leads)

  -- so the smaller sets all reach
  pub fewer_reach : (k : ℕ) → k ≤ s.level → (faults : List Parts) → IsAllowed b faults → length faults < k → reaches w faults formula ≡ true
  fewer_reach zero low faults allowed few = let never : ⊥ = omega (arith, few) in absurd never
  fewer_reach (suc k) low faults allowed few = elim (cases_lt (length faults) k) [
    | inl fewer ↦ fewer_reach k (omega (arith, low)) faults allowed fewer
    | inr same ↦ elim (cases_Bool (reaches w faults formula)) [
      | inl is ↦ is
      | inr isnt ↦
          let g = each_grows w b formula lasts k (fewer_reach k (omega (arith, low))) faults allowed (omega (arith, few, same)) isnt in
          let st = grown_stands g.path g.task (omega (arith, g.far, low)) g.grows in
          let is = above_reaches g.path g.task (omega (arith, g.far, low)) st in
          ap (λ f. reaches w f formula) (sym g.same) ∙ is
    ]
  ]

  -- a set of the level that misses is marked so, once the level is done
  missing_marked : (faults : List Parts) (path : List ℕ) (u : Task) (m : Mark) → IsAnswer m → s.marks path ≡ Some m
      → task_at s.marks path ≡ Some u → u.faults ≡ faults → reaches w faults formula ≡ false → IsKnown w b formula u m → MissesAt s.marks faults
  missing_marked faults path u mark.Waiting a here leads same misses k = absurd a
  missing_marked faults path u mark.Open a here leads same misses k = absurd a
  missing_marked faults path u (mark.Claimed t) a here leads same misses k = absurd a
  missing_marked faults path u mark.Misses a here leads same misses k = record {
    path = path;
    task = u;
    misses = here;
    leads = leads;
    same = same;
  }
  missing_marked faults path u mark.Reaches a here leads same misses k =
      absurd (false≢true (sym misses ∙ ap (λ f. reaches w f formula) (sym same) ∙ k.reaching))
  missing_marked faults path u (mark.Branch reach edges) a here leads same misses k =
      absurd (false≢true (sym misses ∙ ap (λ f. reaches w f formula) (sym same) ∙ sharp_reaches w b formula u.faults reach k.sharp))

  pub level_misses : IsDone s.marks → (faults : List Parts) → IsAllowed b faults → length faults ≡ s.level → reaches w faults formula ≡ false
      → MissesAt s.marks faults
  level_misses done faults allowed size misses =
      let g = each_grows w b formula lasts s.level (fewer_reach s.level (omega arith)) faults allowed size misses in
      let st = grown_stands g.path g.task (omega (arith, g.far)) g.grows in
      missing_marked faults g.path g.task st.mark (done_answer done g.path st.mark st.is g.far) st.is st.leads g.same misses
      (closed.known g.path st.mark g.task st.is st.leads)

  -- what is marked so stands on the level,
  on_level : (path : List ℕ) (m : Mark) → s.marks path ≡ Some m → (IsBranchMark m → ⊥) → (m ≡ mark.Waiting → ⊥) → length path ≡ s.level
  on_level path m here leaf known =
      let there : IsSome (s.marks path) = ap is_some here in
      elim (cases_lt (length path) s.level) [
        | inl above ↦ absurd (leaf (closed.branches path m here above))
        | inr low ↦ elim (cases_eq (length path) (s.level + 1)) [
          | inl last ↦ absurd (known (same_Some m mark.Waiting (sym here ∙ closed.shape.waits path there last)))
          | inr off ↦ let deep = closed.shape.deep path there in omega (arith, low, off, deep)
        ]
      ]

  pub misses_on_level : (path : List ℕ) → s.marks path ≡ Some mark.Misses → length path ≡ s.level
  misses_on_level path here = on_level path mark.Misses here (λ h. h) (λ e. absurd cc)

  pub reaches_on_level : (path : List ℕ) → s.marks path ≡ Some mark.Reaches → length path ≡ s.level
  reaches_on_level path here = on_level path mark.Reaches here (λ h. h) (λ e. absurd cc)

  pub branch_on_level : (path : List ℕ) (reach : List ℕ) (edges : List Parts) → s.marks path ≡ Some (mark.Branch reach edges)
      → nat_lt (length path) s.level ≡ false → length path ≡ s.level
  branch_on_level path reach edges here low =
      let there : IsSome (s.marks path) = ap is_some here in
      let under = ltb-false (length path) s.level low in
      elim (cases_eq (length path) (s.level + 1)) [
        | inl last ↦ let no : Some (mark.Branch reach edges) ≡ Some mark.Waiting = sym here ∙ closed.shape.waits path there last in absurd cc
        | inr off ↦ let deep = closed.shape.deep path there in omega (arith, under, off, deep)
      ]

  -- and is an allowed set of so many faults that misses
  pub record IsMissing (faults : List Parts) : Type 0 where
    pub allowed : IsAllowed b faults
    pub size : length faults ≡ s.level
    pub misses : reaches w faults formula ≡ false

  pub missing_is : (faults : List Parts) → MissesAt s.marks faults → IsMissing faults
  missing_is faults m =
      let set = set_of m.path (ap is_some m.misses) in
      let same : set.task.faults ≡ faults = ap (λ (t : Task). t.faults) (same_Some set.task m.task (sym set.leads ∙ m.leads)) ∙ m.same in
      let misses : reaches w m.task.faults formula ≡ false = closed.known m.path mark.Misses m.task m.misses m.leads in
      record {
        allowed = subst (IsAllowed b) same set.allowed;
        size = sym (ap (λ (f : List Parts). length f) same) ∙ omega (arith, set.size, misses_on_level m.path m.misses);
        misses = ap (λ f. reaches w f formula) (sym m.same) ∙ misses;
      }

  pub marked_misses : IsMarked s.marks mark.Misses → (faults : List Parts) × MissesAt s.marks faults
  marked_misses m =
      let set = set_of m.0 (ap is_some m.1) in
      (set.task.faults, record { path = m.0; task = set.task; misses = m.1; leads = set.leads; same = refl })
