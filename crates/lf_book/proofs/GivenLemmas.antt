-- What a set is worked with is one thing in all closed states of a scenario in which it stands.
use mathlib.Core.Logic.{∥∥₁_elim, ∥∥₁_map, ∥∥₁_prop}
use Rattle.std.proofs.Common.{◌≡◌, ℕ, ◌<◌, refl, sym, ap, ◌∙◌, subst, arith, true, false, List, [], ◌∷◌, inl, inr, IsSome, is_some}
use Rattle.std.proofs.lemmas.Bool.{cases_Bool}
use Rattle.std.specs.Prelude.{◌⊎◌, unwrap_or, Option, None, Some}
use Rattle.std.specs.Option.{option_and_then}
use Rattle.lf_faults.specs.contracts.fault.FaultPartialEq.TheImpl.{eq-value}
use Rattle.lf_faults.specs.declared.fault.Parts.{Parts}
use Rattle.lf_faults.specs.declared.spec.Bounds.{Bounds}
use Rattle.lf_sim.specs.Runs.{World}
use Rattle.lf_sim.specs.Settings.{world_of}
use Rattle.lf_outcome.specs.declared.formula.Formula.{Formula}
use Rattle.lf_outcome.specs.declared.point.Point.{Point}
use Rattle.lf_cone.specs.Cones.{IsSharp, AreRequired}
use Rattle.lf_cone.proofs.Laws.{sharp_one, required_one}
use Rattle.lf_certificate.specs.Grown.{IsReachFor}
use Rattle.lf_outcome.specs.declared.scenario.Scenario.{Scenario}
use Rattle.lf_outcome.specs.Sameness.{AreSame}
use Rattle.lf_outcome.proofs.Laws.{worlds_are_one}
use Rattle.lf_marks.specs.Steps.{Mark, Marking, kid_of, kids_beneath}
use Rattle.lf_marks.specs.Steps as mark
use Rattle.lf_certificate.specs.Closed.{IsClosed, IsKnown}
use Rattle.lf_certificate.specs.Found.{IsBranch}
use Rattle.lf_certificate.specs.States.{State}
use Rattle.lf_certificate.specs.Tasks.{Task, root_task, kid_task, edges_in, edges_of_mark, beneath, task_from, task_at}
use Rattle.lf_book.specs.Books.{IsClosedFor, IsGivenFor}
use Rattle.lf_book.proofs.SameLemmas.{fault-same}

some-one : {X : Type 0} (x y : X) → Some x ≡ Some y → x ≡ y
some-one x y is = ap (λ o. unwrap_or o x) is

none-below : (i : ℕ) → i < 0 → ⊥
none-below i few = omega (arith, few)

-- kids stand beneath branches
abbrev HasParents : Marking → Type 0
HasParents at = (p : List ℕ) (i : ℕ) → IsSome (at (kid_of p i)) → (m : Mark) × (at p ≡ Some m) × (i < kids_beneath m)

-- so the root of what stands has the kid that leads to it
first-parent : (path : List ℕ) (at : Marking) (i : ℕ) → HasParents at → IsSome (at (i ∷ path)) → (m : Mark) × (at [] ≡ Some m) × (i < kids_beneath m)
first-parent [] at i parents h = parents [] i h
first-parent (j ∷ path) at i parents h =
    let f = first-parent path (beneath at i) j (λ p k s. parents (i ∷ p) k s) h in
    parents [] i (ap is_some f.1)

module _ {Local Note Fact : Type 0} (w : World Local Note Fact) (b : Bounds) (formula : Formula Fact) where
  reach-one : (faults : List Parts) (r s : List ℕ) → IsReachFor w b formula faults r → IsReachFor w b formula faults s → r ≡ s
  reach-one faults r s h k =
      let points : h.0 ≡ k.0 = some-one h.0 k.0 (sym h.1 ∙ k.1) in
      sharp_one w faults k.0 r s (subst (λ (ps : List Point). IsSharp w faults ps r) points h.2) k.2

  edges-one : (t : Task) (r s : List ℕ) (es fs : List Parts) → IsBranch w b formula t.faults t.excluded r es
      → IsBranch w b formula t.faults t.excluded s fs → es ≡ fs
  edges-one t r s es fs h k =
      required_one w t.faults b s t.excluded es fs
      (subst (λ (x : List ℕ). AreRequired w t.faults b x t.excluded es) (reach-one t.faults r s h.sharp k.sharp) h.required) k.required

  -- marks that are known, from a task on
  abbrev AreKnown : Marking → Task → Type 0
  AreKnown at t = (p : List ℕ) (m : Mark) (u : Task) → at p ≡ Some m → task_from at t p ≡ Some u → IsKnown w b formula u m

  known-beneath : (at : Marking) (t kid : Task) (i : ℕ) → kid_task t (edges_in (at [])) i ≡ Some kid → AreKnown at t → AreKnown (beneath at i) kid
  known-beneath at t kid i is known p m u here leads =
      known (i ∷ p) m u here (ap (option_and_then (λ (k : Task). task_from (beneath at i) k p)) is ∙ leads)

  -- the edges beneath a task are the same in both, where one has an edge there and the other a kid
  same-edges : (t : Task) (i : ℕ) (m n : Mark) (kid : Task) → IsKnown w b formula t m → IsKnown w b formula t n
      → kid_task t (edges_of_mark m) i ≡ Some kid → i < kids_beneath n → edges_of_mark m ≡ edges_of_mark n
  same-edges t i mark.Waiting n kid h k is few = let never : None ≡ Some kid = is in absurd cc
  same-edges t i mark.Open n kid h k is few = let never : None ≡ Some kid = is in absurd cc
  same-edges t i (mark.Claimed u) n kid h k is few = let never : None ≡ Some kid = is in absurd cc
  same-edges t i mark.Misses n kid h k is few = let never : None ≡ Some kid = is in absurd cc
  same-edges t i mark.Reaches n kid h k is few = let never : None ≡ Some kid = is in absurd cc
  same-edges t i (mark.Branch r es) mark.Waiting kid h k is few = absurd (none-below i few)
  same-edges t i (mark.Branch r es) mark.Open kid h k is few = absurd (none-below i few)
  same-edges t i (mark.Branch r es) (mark.Claimed u) kid h k is few = absurd (none-below i few)
  same-edges t i (mark.Branch r es) mark.Misses kid h k is few = absurd (none-below i few)
  same-edges t i (mark.Branch r es) mark.Reaches kid h k is few = absurd (none-below i few)
  same-edges t i (mark.Branch r es) (mark.Branch s fs) kid h k is few = edges-one t r s es fs h k

  -- a kid's task is the same in both
  same-kid : (at other : Marking) (t kid : Task) (i : ℕ) (o : Option Mark) (n : Mark) → at [] ≡ o → other [] ≡ Some n → AreKnown at t
      → AreKnown other t → kid_task t (edges_in o) i ≡ Some kid → i < kids_beneath n → kid_task t (edges_in (other [])) i ≡ Some kid
  same-kid at other t kid i None n at-is other-is known too is few = let never : None ≡ Some kid = is in absurd cc
  same-kid at other t kid i (Some m) n at-is other-is known too is few =
      let edges : edges_of_mark m ≡ edges_of_mark n = same-edges t i m n kid (known [] m t at-is refl) (too [] n t other-is refl) is few in
      ap (λ (o : Option Mark). kid_task t (edges_in o) i) other-is ∙ ap (λ (es : List Parts). kid_task t es i) (sym edges) ∙ is

  -- what a path leads to is the same in both, if what it leads to from the kid is
  task-by : (i : ℕ) (path : List ℕ) (at other : Marking) (t task : Task) (o : Option Task) → kid_task t (edges_in (at [])) i ≡ o
      → ((kid : Task) → AreKnown (beneath at i) kid → AreKnown (beneath other i) kid → task_from (beneath at i) kid path ≡ Some task
      → task_from (beneath other i) kid path ≡ Some task)
      → AreKnown at t → AreKnown other t → HasParents other → IsSome (other (i ∷ path))
      → option_and_then (λ (k : Task). task_from (beneath at i) k path) o ≡ Some task → task_from other t (i ∷ path) ≡ Some task
  task-by i path at other t task None is ih known too parents stands leads = let never : None ≡ Some task = leads in absurd cc
  task-by i path at other t task (Some kid) is ih known too parents stands leads =
      let up = first-parent path other i parents stands in
      let there = same-kid at other t kid i (at []) up.0 refl up.1 known too is up.2 in
      ap (option_and_then (λ (k : Task). task_from (beneath other i) k path)) there
      ∙ ih kid (known-beneath at t kid i is known) (known-beneath other t kid i there too) leads

  task-one : (path : List ℕ) (at other : Marking) (t task : Task) → AreKnown at t → AreKnown other t → HasParents other → IsSome (other path)
      → task_from at t path ≡ Some task → task_from other t path ≡ Some task
  task-one [] at other t task known too parents stands leads = leads
  task-one (i ∷ path) at other t task known too parents stands leads =
      task-by i path at other t task (kid_task t (edges_in (at [])) i) refl
      (λ kid here there. task-one path (beneath at i) (beneath other i) kid task here there (λ p k s. parents (i ∷ p) k s) stands)
      known too parents stands leads

  -- in a closed state it is what it is in another in which it is known
  pub works-alike : (most more : ℕ) (s r : State) (path : List ℕ) (task : Task) → IsClosed w b formula most s → IsClosed w b formula more r
      → IsSome (r.marks path) → task_at s.marks path ≡ Some task → task_at r.marks path ≡ Some task
  works-alike most more s r path task h k stands leads = task-one path s.marks r.marks root_task task h.known k.known k.shape.parents stands leads

-- whether two lists of faults are one
fault-or-not : (f g : Parts) → (f ≡ g) ⊎ (f ≡ g → ⊥)
fault-or-not f g =
    let test = fault-same f g ((eq-value).it f g) refl in
    elim (cases_Bool ((eq-value).it f g)) [
      | inl is ↦ inl (test.0 is)
      | inr other ↦ inr (λ e. let never : true ≡ false = sym (test.1 e) ∙ other in absurd cc)
    ]

faults-or-not : (fs gs : List Parts) → (fs ≡ gs) ⊎ (fs ≡ gs → ⊥)
faults-or-not [] [] = inl refl
faults-or-not [] (g ∷ gs) = inr (λ e. absurd cc)
faults-or-not (f ∷ fs) [] = inr (λ e. absurd cc)
faults-or-not (f ∷ fs) (g ∷ gs) = elim (fault-or-not f g) [
  | inr other ↦ inr (λ e. other cc)
  | inl same ↦ elim (faults-or-not fs gs) [
    | inl rest ↦ inl cc
    | inr apart ↦ inr (λ e. apart cc)
  ]
]

-- and whether something is a task
same-task : (t task : Task) → t.faults ≡ task.faults → t.excluded ≡ task.excluded → Some t ≡ Some task
same-task t task faults excluded =
    let one : Some t ≡ Some (record { faults = task.faults; excluded = t.excluded }) =
    subst (λ (fs : List Parts). Some t ≡ Some (record { faults = fs; excluded = t.excluded })) faults refl in
    subst (λ (es : List Parts). Some t ≡ Some (record { faults = task.faults; excluded = es })) excluded one

task-or-not : (o : Option Task) (task : Task) → (o ≡ Some task) ⊎ (o ≡ Some task → ⊥)
task-or-not None task = inr (λ e. absurd cc)
task-or-not (Some t) task = elim (faults-or-not t.faults task.faults) [
  | inr other ↦ inr (λ e. other (ap (λ (u : Task). u.faults) (some-one t task e)))
  | inl faults ↦ elim (faults-or-not t.excluded task.excluded) [
    | inl excluded ↦ inl (same-task t task faults excluded)
    | inr other ↦ inr (λ e. other (ap (λ (u : Task). u.excluded) (some-one t task e)))
  ]
]

-- a state that is closed for a scenario is so for one that is the same
closed-same : (s r : Scenario) → AreSame s r → (state : State) → IsClosedFor r state → IsClosedFor s state
closed-same s r same state closed = rw (worlds_are_one s r same, same.bounds, same.formula, same.max_sets) closed

-- what a search of a scenario works a set with, every search of the same scenario in which it stands works it with
pub given-works : (s r : Scenario) (state : State) (path : List ℕ) (task : Task) → AreSame s r → ∥ IsClosedFor s state ∥₁
    → IsGivenFor r path task → IsSome (state.marks path) → task_at state.marks path ≡ Some task
given-works s r state path task same closed given stands =
    let found : ∥ task_at state.marks path ≡ Some task ∥₁ = ∥∥₁_elim closed ∥∥₁_prop (λ k. ∥∥₁_map given.closed (λ h.
    works-alike (world_of s.setting) s.setting.spec s.formula s.max_sets s.max_sets given.state state path task
    (closed-same s r same given.state h) k stands given.works)) in
    elim (task-or-not (task_at state.marks path) task) [
      | inl is ↦ is
      | inr never ↦ absurd (∥∥₁_elim found (λ x y. absurd x) never)
    ]
