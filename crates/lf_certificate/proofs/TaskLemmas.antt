-- The tasks of sets, along the paths that lead to them.
use Rattle.std.proofs.Common.{◌≡◌, ℕ, zero, suc, ◌<◌, refl, sym, ap, ◌∙◌, subst, arith, List, [], ◌∷◌, ◌++◌, length, take}
use Rattle.std.proofs.Common.{append_assoc, append-nil, IsSome, is_some}
use Rattle.std.specs.Prelude.{slice_get, unwrap_or, Option, None, Some}
use Rattle.std.specs.Option.{option_map, option_and_then}
use Rattle.std.specs.List.{Contains}
use Rattle.std.proofs.lemmas.Option.{slice_get_within, get_or_from_slice_get}
use Rattle.lf_faults.specs.declared.fault.Parts.{Parts}
use Rattle.lf_faults.specs.Faults.{inserted}
use Rattle.lf_marks.specs.Steps.{Mark, Marking, IsShape, kid_of, kids_beneath}
use Rattle.lf_marks.specs.Steps as mark
use Rattle.lf_certificate.specs.Tasks.{Task, root_task, kid_task, edges_of_mark, edges_in, beneath, task_from, task_at}

pub some-one : {X : Type 0} (x y : X) → Some x ≡ Some y → x ≡ y
some-one x y is = ap (λ o. unwrap_or o x) is

pub none_below : (i : ℕ) → i < 0 → ⊥
none_below i few = omega (arith, few)

-- an item of a list at a place
pub item : {X : Type 0} (xs : List X) (i : ℕ) → i < length xs → (x : X) × (slice_get xs i ≡ Some x)
item [] i few = absurd (none_below i few)
item (x ∷ xs) zero few = (x, refl)
item (x ∷ xs) (suc i) few = item xs i (omega (arith, few))

pub item-in : {X : Type 0} (xs : List X) (i : ℕ) (x : X) → slice_get xs i ≡ Some x → Contains xs x
item-in xs i x is = (i, slice_get_within xs i x is, get_or_from_slice_get xs i x x is)

-- what stands is something
pub mark-there : (o : Option Mark) → IsSome o → (m : Mark) × (o ≡ Some m)
mark-there None h = absurd cc
mark-there (Some m) h = (m, refl)

pub is-there : (o : Option Mark) (m : Mark) → o ≡ Some m → IsSome o
is-there o m h = ap is_some h

-- paths from their ends on
by_kids_from : (P : List ℕ → Type 0) → ((p : List ℕ) (i : ℕ) → P p → P (kid_of p i)) → (front rest : List ℕ) → P front → P (front ++ rest)
by_kids_from P step front [] h = subst P (sym (append-nil front)) h
by_kids_from P step front (i ∷ rest) h = subst P (append_assoc front (i ∷ []) rest) (by_kids_from P step (kid_of front i) rest (step front i h))

pub by_kids : (P : List ℕ → Type 0) → P [] → ((p : List ℕ) (i : ℕ) → P p → P (kid_of p i)) → (p : List ℕ) → P p
by_kids P base step p = by_kids_from P step [] p base

-- a kid's task, and the edge to it
pub record IsKid (t : Task) (edges : List Parts) (i : ℕ) (kid : Task) : Type 0 where
  pub edge : Parts
  pub is : slice_get edges i ≡ Some edge
  pub faults : kid.faults ≡ inserted edge t.faults
  pub excluded : kid.excluded ≡ t.excluded ++ take i edges

kid_by : (t kid : Task) (edges : List Parts) (i : ℕ) (o : Option Parts) → slice_get edges i ≡ o
    → option_map (λ edge. record { faults = inserted edge t.faults; excluded = t.excluded ++ take i edges }) o ≡ Some kid → IsKid t edges i kid
kid_by t kid edges i None is h = let no : None ≡ Some kid = h in absurd cc
kid_by t kid edges i (Some edge) is h =
    let made : Task = record { faults = inserted edge t.faults; excluded = t.excluded ++ take i edges } in
    let same : made ≡ kid = some-one made kid h in
    record { edge = edge; is = is; faults = sym (ap (λ (k : Task). k.faults) same); excluded = sym (ap (λ (k : Task). k.excluded) same) }

pub kid-is : (t kid : Task) (edges : List Parts) (i : ℕ) → kid_task t edges i ≡ Some kid → IsKid t edges i kid
kid-is t kid edges i h = kid_by t kid edges i (slice_get edges i) refl h

pub kid-there : (t : Task) (edges : List Parts) (i : ℕ) → i < length edges → (kid : Task) × (kid_task t edges i ≡ Some kid)
kid-there t edges i few =
    let e = item edges i few in (
      record { faults = inserted e.0 t.faults; excluded = t.excluded ++ take i edges },
      ap (option_map (λ edge. record { faults = inserted edge t.faults; excluded = t.excluded ++ take i edges })) e.1,
    )

and_then_same : (f g : Task → Option Task) → ((t : Task) → f t ≡ g t) → (o : Option Task) → option_and_then f o ≡ option_and_then g o
and_then_same f g same None = refl
and_then_same f g same (Some t) = same t

-- what a path leads to depends on the edges of the sets above it alone
pub task-same : (at other : Marking) (t : Task) (path : List ℕ)
    → ((front : List ℕ) (i : ℕ) (rest : List ℕ) → path ≡ front ++ i ∷ rest → edges_in (at front) ≡ edges_in (other front))
    → task_from at t path ≡ task_from other t path
task-same at other t [] same = refl
task-same at other t (i ∷ path) same =
    ap (λ edges. option_and_then (λ kid. task_from (beneath at i) kid path) (kid_task t edges i)) (same [] i path refl)
    ∙ and_then_same (λ kid. task_from (beneath at i) kid path) (λ kid. task_from (beneath other i) kid path)
    (λ kid. task-same (beneath at i) (beneath other i) kid path (λ front j rest whole. same (i ∷ front) j rest (ap (λ (q : List ℕ). i ∷ q) whole)))
    (kid_task t (edges_in (other [])) i)

and_then_more : (f g h : Task → Option Task) → ((t : Task) → f t ≡ option_and_then h (g t)) → (o : Option Task)
    → option_and_then f o ≡ option_and_then h (option_and_then g o)
and_then_more f g h same None = refl
and_then_more f g h same (Some t) = same t

-- a path that goes on from where another leads
task-append : (at : Marking) (t : Task) (p rest : List ℕ)
    → task_from at t (p ++ rest) ≡ option_and_then (λ u. task_from (λ q. at (p ++ q)) u rest) (task_from at t p)
task-append at t [] rest = refl
task-append at t (i ∷ p) rest =
    and_then_more (λ kid. task_from (beneath at i) kid (p ++ rest)) (λ kid. task_from (beneath at i) kid p)
    (λ u. task_from (λ q. at (i ∷ p ++ q)) u rest) (λ kid. task-append (beneath at i) kid p rest) (kid_task t (edges_in (at [])) i)

and_then_some : (o : Option Task) → option_and_then (λ (t : Task). Some t) o ≡ o
and_then_some None = refl
and_then_some (Some t) = refl

-- the task of a kid, from that of the set above it
pub task-kid : (at : Marking) (p : List ℕ) (i : ℕ) (t : Task) → task_at at p ≡ Some t
    → task_at at (kid_of p i) ≡ kid_task t (edges_in (at p)) i
task-kid at p i t leads =
    task-append at root_task p (i ∷ [])
    ∙ ap (option_and_then (λ u. task_from (λ q. at (p ++ q)) u (i ∷ []))) leads
    ∙ and_then_some (kid_task t (edges_in (at (p ++ []))) i)
    ∙ ap (λ q. kid_task t (edges_in (at q)) i) (append-nil p)

-- as many kids stand beneath a mark as it has edges
pub kids-edges : (m : Mark) → kids_beneath m ≡ length (edges_of_mark m)
kids-edges mark.Waiting = refl
kids-edges mark.Open = refl
kids-edges (mark.Claimed t) = refl
kids-edges mark.Misses = refl
kids-edges mark.Reaches = refl
kids-edges (mark.Branch reach edges) = refl

module _ (level : ℕ) (at : Marking) (shape : IsShape level at) where
  -- each set above one that stands, stands
  pub front-stands : (front rest : List ℕ) → IsSome (at (front ++ rest)) → IsSome (at front)
  front-stands front rest = by_kids (λ r. IsSome (at (front ++ r)) → IsSome (at front)) (λ h. subst (λ q. IsSome (at q)) (append-nil front) h)
      (λ r i up h.
      let above = shape.parents (front ++ r) i (subst (λ q. IsSome (at q)) (sym (append_assoc front r (i ∷ []))) h) in
      up (is-there (at (front ++ r)) above.0 above.1)) rest

  -- each set that stands has a task
  pub task-stands : (p : List ℕ) → IsSome (at p) → (t : Task) × (task_at at p ≡ Some t)
  task-stands = by_kids (λ p. IsSome (at p) → (t : Task) × (task_at at p ≡ Some t)) (λ h. (root_task, refl)) (λ p i up h.
      let above = shape.parents p i h in
      let t = up (is-there (at p) above.0 above.1) in
      let kid = kid-there t.0 (edges_of_mark above.0) i (omega (arith, above.2, kids-edges above.0)) in
      (kid.0, task-kid at p i t.0 t.1 ∙ ap (λ o. kid_task t.0 (edges_in o) i) above.1 ∙ kid.1))
