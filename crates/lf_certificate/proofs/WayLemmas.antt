-- Where marks stand, and where sets grow: the one is the other.
use Rattle.std.proofs.Common.{◌≡◌, ℕ, ◌+◌, ◌<◌, ◌≤◌, true, List, [], ◌∷◌, ◌++◌, length, get_or, take}
use Rattle.std.proofs.Common.{refl, sym, ap, ◌∙◌, subst, arith}
use Rattle.std.specs.Prelude.{slice_get, Option, None, Some, IsSome}
use Rattle.std.specs.Option.{is_some, option_map, option_and_then}
use Rattle.std.specs.List.{Contains}
use Rattle.std.proofs.lemmas.Bool.{false≢true}
use Rattle.std.proofs.lemmas.Option.{none-some, same_Some, slice_get_within, slice_get-get_or, get_or_from_slice_get}
use Rattle.lf_faults.specs.declared.fault.Parts.{Parts}
use Rattle.lf_faults.specs.declared.spec.Bounds.{Bounds}
use Rattle.lf_faults.specs.Faults.{inserted}
use Rattle.lf_faults.specs.Allowed.{IsAllowed}
use Rattle.lf_faults.proofs.Laws.{length-inserted}
use Rattle.lf_sim.specs.Runs.{World}
use Rattle.lf_outcome.specs.declared.formula.Formula.{Formula}
use Rattle.lf_outcome.specs.Truth.{reaches}
use Rattle.lf_outcome.proofs.Laws.{evidence-truth}
use Rattle.lf_cone.specs.Cones.{IsSharp, AreRequired}
use Rattle.lf_cone.proofs.Laws.{sharp_one, required_one}
use Rattle.lf_certificate.specs.Grown.{IsReachFor}
use Rattle.lf_marks.specs.Steps.{Mark, Marking, kid_of, kids_beneath, IsAnswer}
use Rattle.lf_marks.specs.Steps as mark
use Rattle.lf_certificate.specs.Closed.{IsKnown}
use Rattle.lf_certificate.specs.Levels.{Grows}
use Rattle.lf_certificate.specs.Tasks.{Task, kid_task, edges_in, beneath, task_from}

none_below : (i : ℕ) → i < 0 → ⊥
none_below i few = omega (arith, few)

-- an item of a list at a place
pub item : {X : Type 0} (xs : List X) (i : ℕ) → i < length xs → (x : X) × (slice_get xs i ≡ Some x)
item [] i below = absurd (none_below i below)
item (x ∷ xs) i below = (get_or (x ∷ xs) i x, slice_get-get_or (x ∷ xs) i x below)

pub item-in : {X : Type 0} (xs : List X) (i : ℕ) (x : X) → slice_get xs i ≡ Some x → Contains xs x
item-in xs i x is = (i, slice_get_within xs i x is, get_or_from_slice_get xs i x x is)

-- what stands is a mark
pub some_mark : (o : Option Mark) → IsSome o → (m : Mark) × (o ≡ Some m)
some_mark None h = absurd (false≢true h)
some_mark (Some m) h = (m, refl)

-- an edge of a kid's task
pub record KidTask (t : Task) (edges : List Parts) (i : ℕ) (kid : Task) : Type 0 where
  pub edge : Parts
  pub is : slice_get edges i ≡ Some edge
  pub same : record { faults = inserted edge t.faults; excluded = t.excluded ++ take i edges } ≡ kid

kid_by : (t : Task) (edges : List Parts) (i : ℕ) (kid : Task) (o : Option Parts) → slice_get edges i ≡ o
    → option_map (λ edge. record { faults = inserted edge t.faults; excluded = t.excluded ++ take i edges }) o ≡ Some kid → KidTask t edges i kid
kid_by t edges i kid None at is = absurd (none-some kid is)
kid_by t edges i kid (Some edge) at is = record { edge = edge; is = at; same = same_Some _ kid is }

pub kid_has : (t : Task) (edges : List Parts) (i : ℕ) (kid : Task) → kid_task t edges i ≡ Some kid → KidTask t edges i kid
kid_has t edges i kid is = kid_by t edges i kid (slice_get edges i) refl is

pub kid_made : (t : Task) (edges : List Parts) (i : ℕ) (edge : Parts) → slice_get edges i ≡ Some edge
    → kid_task t edges i ≡ Some (record { faults = inserted edge t.faults; excluded = t.excluded ++ take i edges })
kid_made t edges i edge is =
    ap (option_map (λ e. record { faults = inserted e t.faults; excluded = t.excluded ++ take i edges })) is

-- a path leads on through a kid
pub through : (at : Marking) (t kid : Task) (i : ℕ) (path : List ℕ) → kid_task t (edges_in (at [])) i ≡ Some kid
    → task_from at t (i ∷ path) ≡ task_from (beneath at i) kid path
through at t kid i path is = ap (option_and_then (λ k. task_from (beneath at i) k path)) is

-- above each mark there is one with kids
abbrev pub HasParents : Marking → Type 0
HasParents at = (p : List ℕ) (i : ℕ) → IsSome (at (kid_of p i)) → (m : Mark) × (at p ≡ Some m) × (i < kids_beneath m)

pub first_parent : (path : List ℕ) (at : Marking) (i : ℕ) → HasParents at → IsSome (at (i ∷ path))
    → (m : Mark) × (at [] ≡ Some m) × (i < kids_beneath m)
first_parent [] at i parents h = parents [] i h
first_parent (j ∷ path) at i parents h =
    let f = first_parent path (beneath at i) j (λ p k s. parents (i ∷ p) k s) h in
    parents [] i (ap is_some f.1)

module _ {Local Note Fact : Type 0} (w : World Local Note Fact) (b : Bounds) (formula : Formula Fact) where
  -- a sharp reach is there only where the set reaches, and there is one
  pub sharp_reaches : (faults : List Parts) (reach : List ℕ) → IsReachFor w b formula faults reach → reaches w faults formula ≡ true
  sharp_reaches faults reach sharp = sym (evidence-truth w faults formula) ∙ ap is_some sharp.1

  pub reach_one : (faults : List Parts) (r s : List ℕ) → IsReachFor w b formula faults r → IsReachFor w b formula faults s → r ≡ s
  reach_one faults r s h k =
      let points : h.0 ≡ k.0 = same_Some h.0 k.0 (sym h.1 ∙ k.1) in
      sharp_one w faults k.0 r s (subst (λ ps. IsSharp w faults ps r) points h.2) k.2

  pub edges_one : (t : Task) (r s : List ℕ) (es fs : List Parts) → IsReachFor w b formula t.faults r → IsReachFor w b formula t.faults s
      → AreRequired w t.faults b r t.excluded es → AreRequired w t.faults b s t.excluded fs → es ≡ fs
  edges_one t r s es fs h k re rf =
      required_one w t.faults b s t.excluded es fs (subst (λ x. AreRequired w t.faults b x t.excluded es) (reach_one t.faults r s h k) re) rf

  -- a required edge may be added
  pub edge_allowed : (t : Task) (reach : List ℕ) (edges : List Parts) (i : ℕ) (edge : Parts) → AreRequired w t.faults b reach t.excluded edges
      → slice_get edges i ≡ Some edge → IsAllowed b (inserted edge t.faults)
  edge_allowed t reach edges i edge required is = ((required.each edge).0 (item-in edges i edge is)).allowed.1

  -- marks that are known, from a task on
  abbrev pub AreKnown : Marking → Task → Type 0
  AreKnown at t = (p : List ℕ) (m : Mark) (u : Task) → at p ≡ Some m → task_from at t p ≡ Some u → IsKnown w b formula u m

  pub known_beneath : (at : Marking) (t kid : Task) (i : ℕ) → kid_task t (edges_in (at [])) i ≡ Some kid → AreKnown at t → AreKnown (beneath at i) kid
  known_beneath at t kid i is known p m u here leads = known (i ∷ p) m u here (through at t kid i p is ∙ leads)

  -- what is known of a set that stands: its task, and that it grows
  pub record IsSet (at : Marking) (t : Task) (path : List ℕ) : Type 0 where
    pub task : Task
    pub leads : task_from at t path ≡ Some task
    pub grows : Grows w b formula t path task
    pub allowed : IsAllowed b task.faults
    pub size : length task.faults ≡ length t.faults + length path

  set_through : (at : Marking) (t : Task) (i : ℕ) (path : List ℕ) (reach : List ℕ) (edges : List Parts) (edge : Parts)
      → at [] ≡ Some (mark.Branch reach edges) → slice_get edges i ≡ Some edge → IsReachFor w b formula t.faults reach
      → AreRequired w t.faults b reach t.excluded edges
      → IsSet (beneath at i) (record { faults = inserted edge t.faults; excluded = t.excluded ++ take i edges }) path → IsSet at t (i ∷ path)
  set_through at t i path reach edges edge here is sharp required s =
      let kid : Task = record { faults = inserted edge t.faults; excluded = t.excluded ++ take i edges } in
      let kid_is : kid_task t (edges_in (at [])) i ≡ Some kid = ap (λ o. kid_task t (edges_in o) i) here ∙ kid_made t edges i edge is in
      record {
        task = s.task;
        leads = through at t kid i path kid_is ∙ s.leads;
        grows = (reach, edges, kid, sharp, required, kid_made t edges i edge is, s.grows);
        allowed = s.allowed;
        size = omega (arith, s.size, length-inserted edge t.faults);
      }

  abbrev SetThere : List ℕ → Type 0
  SetThere path = (at : Marking) (t : Task) → HasParents at → AreKnown at t → IsAllowed b t.faults → IsSome (at path) → IsSet at t path

  set_by_mark : (i : ℕ) (path : List ℕ) (ih : SetThere path) (at : Marking) (t : Task) (m : Mark) → HasParents at → AreKnown at t
      → IsSome (at (i ∷ path)) → at [] ≡ Some m → i < kids_beneath m → IsSet at t (i ∷ path)
  set_by_mark i path ih at t mark.Waiting parents known h here few = absurd (none_below i few)
  set_by_mark i path ih at t mark.Open parents known h here few = absurd (none_below i few)
  set_by_mark i path ih at t (mark.Claimed u) parents known h here few = absurd (none_below i few)
  set_by_mark i path ih at t mark.Misses parents known h here few = absurd (none_below i few)
  set_by_mark i path ih at t mark.Reaches parents known h here few = absurd (none_below i few)
  set_by_mark i path ih at t (mark.Branch reach edges) parents known h here few =
      let k = known [] (mark.Branch reach edges) t here refl in
      let e = item edges i few in
      let kid : Task = record { faults = inserted e.0 t.faults; excluded = t.excluded ++ take i edges } in
      let kid_is : kid_task t (edges_in (at [])) i ≡ Some kid = ap (λ o. kid_task t (edges_in o) i) here ∙ kid_made t edges i e.0 e.1 in
      set_through at t i path reach edges e.0 here e.1 k.sharp k.required
      (ih (beneath at i) kid (λ p j s. parents (i ∷ p) j s) (known_beneath at t kid i kid_is known)
      (edge_allowed t reach edges i e.0 k.required e.1) h)

  -- each mark that stands is that of an allowed set, as large as it is deep, which grows there
  pub set_at : (path : List ℕ) → SetThere path
  set_at [] at t parents known allowed h = record { task = t; leads = refl; grows = refl; allowed = allowed; size = omega arith }
  set_at (i ∷ path) at t parents known allowed h =
      let f = first_parent path at i parents h in
      set_by_mark i path (set_at path) at t f.0 parents known h f.1 f.2

  -- marks with all their kids, answered above so many levels
  pub record IsFilled (high d : ℕ) (at : Marking) (t : Task) : Type 0 where
    pub root : IsSome (at [])
    pub kids : (p : List ℕ) (m : Mark) (i : ℕ) → at p ≡ Some m → i < kids_beneath m → IsSome (at (kid_of p i))
    pub answered : (p : List ℕ) (m : Mark) → at p ≡ Some m → d + length p < high → IsAnswer m
    pub known : AreKnown at t

  filled_beneath : (high d : ℕ) (at : Marking) (t kid : Task) (i : ℕ) → kid_task t (edges_in (at [])) i ≡ Some kid → IsSome (at (i ∷ []))
      → IsFilled high d at t → IsFilled high (d + 1) (beneath at i) kid
  filled_beneath high d at t kid i is root f = record {
    root = root;
    kids = λ p m j here few. f.kids (i ∷ p) m j here few;
    answered = λ p m here above. f.answered (i ∷ p) m here (omega (arith, above));
    known = known_beneath at t kid i is f.known;
  }

  -- what stands where a set grows
  pub record Stands (at : Marking) (t : Task) (path : List ℕ) (u : Task) : Type 0 where
    pub mark : Mark
    pub is : at path ≡ Some mark
    pub leads : task_from at t path ≡ Some u

  abbrev StandsThere : List ℕ → Type 0
  StandsThere path =
      (high d : ℕ) (at : Marking) (t u : Task) → d + length path ≤ high → IsFilled high d at t → Grows w b formula t path u → Stands at t path u

  stands_by_mark : (i : ℕ) (path : List ℕ) (ih : StandsThere path) (high d : ℕ) (at : Marking) (t u kid : Task) (reach : List ℕ) (edges : List Parts)
      → d + length (i ∷ path) ≤ high → IsFilled high d at t → IsReachFor w b formula t.faults reach → AreRequired w t.faults b reach t.excluded edges
      → kid_task t edges i ≡ Some kid → Grows w b formula kid path u → (m : Mark) → at [] ≡ Some m → IsAnswer m → Stands at t (i ∷ path) u
  stands_by_mark i path ih high d at t u kid reach edges deep f sharp required kid_is grows mark.Waiting here a = absurd a
  stands_by_mark i path ih high d at t u kid reach edges deep f sharp required kid_is grows mark.Open here a = absurd a
  stands_by_mark i path ih high d at t u kid reach edges deep f sharp required kid_is grows (mark.Claimed v) here a = absurd a
  stands_by_mark i path ih high d at t u kid reach edges deep f sharp required kid_is grows mark.Misses here a =
      absurd (false≢true (sym (f.known [] mark.Misses t here refl) ∙ sharp_reaches t.faults reach sharp))
  stands_by_mark i path ih high d at t u kid reach edges deep f sharp required kid_is grows mark.Reaches here a =
      let e = kid_has t edges i kid kid_is in
      let full = (f.known [] mark.Reaches t here refl).full in
      let few = (edge_allowed t reach edges i e.edge required e.is).budget in
      let never : ⊥ = omega (arith, full, few, length-inserted e.edge t.faults) in
      absurd never
  stands_by_mark i path ih high d at t u kid reach edges deep f sharp required kid_is grows (mark.Branch r es) here a =
      let k = f.known [] (mark.Branch r es) t here refl in
      let same : edges ≡ es = edges_one t reach r edges es sharp k.sharp required k.required in
      let there : kid_task t es i ≡ Some kid = ap (λ xs. kid_task t xs i) (sym same) ∙ kid_is in
      let leads_is : kid_task t (edges_in (at [])) i ≡ Some kid = ap (λ o. kid_task t (edges_in o) i) here ∙ there in
      let e = kid_has t es i kid there in
      let root : IsSome (at (i ∷ [])) = f.kids [] (mark.Branch r es) i here (slice_get_within es i e.edge e.is) in
      let s = ih high (d + 1) (beneath at i) kid u (omega (arith, deep)) (filled_beneath high d at t kid i leads_is root f) grows in
      record { mark = s.mark; is = s.is; leads = through at t kid i path leads_is ∙ s.leads }

  -- where a set grows that isn't beneath what is answered, it stands
  pub stands_at : (path : List ℕ) → StandsThere path
  stands_at [] high d at t u deep f grows =
      let m = some_mark (at []) f.root in
      record { mark = m.0; is = m.1; leads = ap (λ v. Some v) grows }
  stands_at (i ∷ path) high d at t u deep f grows =
      let m = some_mark (at []) f.root in
      stands_by_mark i path (stands_at path) high d at t u grows.2 grows.0 grows.1 deep f grows.3 grows.4 grows.5 grows.6 m.0 m.1
      (f.answered [] m.0 m.1 (omega (arith, deep)))
