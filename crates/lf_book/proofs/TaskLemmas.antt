-- What leads down to the sets of a closed state, step by step along their paths.
use Rattle.std.proofs.Common.{◌≡◌, ℕ, ◌+◌, ◌-◌, ◌<◌, ◌≤◌, inl, inr, refl, sym, ap, ◌∙◌, subst, arith, List, [], ◌∷◌, ◌++◌, length, take, drop, get_or}
use Rattle.std.proofs.Common.{append_assoc, append-nil, IsSome, is_some}
use Rattle.std.specs.Prelude.{slice_get, unwrap_or, Option, None, Some}
use Rattle.std.specs.Option.{option_map, option_and_then}
use Rattle.std.specs.List.{Contains}
use Rattle.std.proofs.lemmas.List.{take_more, take-append-drop, take_all, take_at, length-drop, length-append}
use Rattle.std.proofs.Math.Seq.{take-add}
use Rattle.std.specs.Coded.{le_prop}
use mathlib.Core.Logic.{∥∥₁_elim, ∥∥₁_map}
use Rattle.std.proofs.lemmas.Option.{slice_get_within, get_or_from_slice_get}
use Rattle.lf_faults.specs.declared.fault.Parts.{Parts}
use Rattle.lf_faults.specs.declared.spec.Bounds.{Bounds}
use Rattle.lf_faults.specs.Allowed.{CanAdd}
use Rattle.lf_faults.specs.Faults.{inserted}
use Rattle.lf_faults.proofs.Laws.{allowed_or_not}
use Rattle.lf_sim.specs.Runs.{World}
use Rattle.lf_outcome.specs.declared.formula.Formula.{Formula}
use Rattle.lf_marks.specs.Steps.{Mark, Marking, IsShape, kid_of, kids_beneath}
use Rattle.lf_marks.specs.Steps as mark
use Rattle.lf_certificate.specs.Closed.{IsClosed}
use Rattle.lf_certificate.specs.States.{State}
use Rattle.lf_certificate.specs.Tasks.{Task, root_task, kid_task, edges_in, beneath, task_from, task_at}
use Rattle.lf_book.specs.Ways.{LeadsTo, LeadsOn}

-- what is made of something
some-one : {X : Type 0} (x y : X) → Some x ≡ Some y → x ≡ y
some-one x y is = ap (λ o. unwrap_or o x) is

is-there : (o : Option Mark) (m : Mark) → o ≡ Some m → IsSome o
is-there o m h = ap is_some h

and_then_more : (f g h : Task → Option Task) → ((t : Task) → f t ≡ option_and_then h (g t)) → (o : Option Task)
    → option_and_then f o ≡ option_and_then h (option_and_then g o)
and_then_more f g h same None = refl
and_then_more f g h same (Some t) = same t

-- a path that goes on from where another leads
pub task-append : (at : Marking) (t : Task) (p rest : List ℕ)
    → task_from at t (p ++ rest) ≡ option_and_then (λ u. task_from (λ q. at (p ++ q)) u rest) (task_from at t p)
task-append at t [] rest = refl
task-append at t (i ∷ p) rest =
    and_then_more (λ kid. task_from (beneath at i) kid (p ++ rest)) (λ kid. task_from (beneath at i) kid p)
    (λ u. task_from (λ q. at (i ∷ p ++ q)) u rest) (λ kid. task-append (beneath at i) kid p rest) (kid_task t (edges_in (at [])) i)

and_then_some : (o : Option Task) → option_and_then (λ (t : Task). Some t) o ≡ o
and_then_some None = refl
and_then_some (Some t) = refl

-- the task of a kid, from that of the set above it
pub task-kid : (at : Marking) (p : List ℕ) (i : ℕ) (t : Task) → task_at at p ≡ Some t
    → task_at at (kid_of p i) ≡ kid_task t (edges_in (at p)) i
task-kid at p i t leads =
    task-append at root_task p (i ∷ [])
    ∙ ap (option_and_then (λ u. task_from (λ q. at (p ++ q)) u (i ∷ []))) leads
    ∙ and_then_some (kid_task t (edges_in (at (p ++ []))) i)
    ∙ ap (λ q. kid_task t (edges_in (at q)) i) (append-nil p)

-- what is excluded at a set is excluded beneath it, and first
kid_excludes : (at : Marking) (i : ℕ) (path : List ℕ) (t u : Task) (o : Option Parts)
    → ((kid : Task) → task_from at kid path ≡ Some u → (more : List Parts) × (u.excluded ≡ kid.excluded ++ more))
    → (edges : List Parts)
    → option_and_then (λ kid. task_from at kid path)
    (option_map (λ edge. record { faults = inserted edge t.faults; excluded = t.excluded ++ take i edges }) o) ≡ Some u
    → (more : List Parts) × (u.excluded ≡ t.excluded ++ more)
kid_excludes at i path t u None next edges leads = let no : None ≡ Some u = leads in absurd cc
kid_excludes at i path t u (Some edge) next edges leads =
    let kid : Task = record { faults = inserted edge t.faults; excluded = t.excluded ++ take i edges } in
    let beyond = next kid leads in
    (take i edges ++ beyond.0, beyond.1 ∙ append_assoc t.excluded (take i edges) beyond.0)

pub excludes-more : (at : Marking) (path : List ℕ) (t u : Task) → task_from at t path ≡ Some u → (more : List Parts) × (u.excluded ≡ t.excluded ++ more)
excludes-more at [] t u leads = ([], ap (λ (v : Task). v.excluded) (sym (some-one t u leads)) ∙ sym (append-nil t.excluded))
excludes-more at (i ∷ path) t u leads =
    kid_excludes (beneath at i) i path t u (slice_get (edges_in (at [])) i) (λ kid. excludes-more (beneath at i) path kid u) (edges_in (at [])) leads

-- the same along a path
pub excludes-on : (at : Marking) (p rest : List ℕ) (t u : Task) → task_at at p ≡ Some t → task_at at (p ++ rest) ≡ Some u
    → (more : List Parts) × (u.excluded ≡ t.excluded ++ more)
excludes-on at p rest t u leads beyond =
    excludes-more (λ q. at (p ++ q)) rest t u
    (sym (task-append at root_task p rest ∙ ap (option_and_then (λ v. task_from (λ q. at (p ++ q)) v rest)) leads) ∙ beyond)

-- the sets above one that stands, stand
by_kids_from : (P : List ℕ → Type 0) → ((p : List ℕ) (i : ℕ) → P p → P (kid_of p i)) → (front rest : List ℕ) → P front → P (front ++ rest)
by_kids_from P step front [] h = subst P (sym (append-nil front)) h
by_kids_from P step front (i ∷ rest) h = subst P (append_assoc front (i ∷ []) rest) (by_kids_from P step (kid_of front i) rest (step front i h))

pub front-stands : (level : ℕ) (at : Marking) → IsShape level at → (front rest : List ℕ) → IsSome (at (front ++ rest)) → IsSome (at front)
front-stands level at shape front rest =
    by_kids_from (λ r. IsSome (at (front ++ r)) → IsSome (at front)) (λ r i up h.
    let above = shape.parents (front ++ r) i (subst (λ q. IsSome (at q)) (sym (append_assoc front r (i ∷ []))) h) in
    up (is-there (at (front ++ r)) above.0 above.1)) [] rest (λ h. subst (λ q. IsSome (at q)) (append-nil front) h)

-- so far down a path a branch stands, and the path goes on by one of its edges
pub record IsWay (at : Marking) (path : List ℕ) (depth : ℕ) : Type 0 where
  pub reach : List ℕ
  pub edges : List Parts
  pub branch : at (take depth path) ≡ Some (mark.Branch reach edges)
  pub few : get_or path depth 0 < length edges

none_below : (i : ℕ) → i < 0 → ⊥
none_below i few = omega (arith, few)

way_by : (at : Marking) (path : List ℕ) (depth : ℕ) (m : Mark) → at (take depth path) ≡ Some m → get_or path depth 0 < kids_beneath m → IsWay at path depth
way_by at path depth mark.Waiting is few = absurd (none_below (get_or path depth 0) few)
way_by at path depth mark.Open is few = absurd (none_below (get_or path depth 0) few)
way_by at path depth (mark.Claimed t) is few = absurd (none_below (get_or path depth 0) few)
way_by at path depth mark.Misses is few = absurd (none_below (get_or path depth 0) few)
way_by at path depth mark.Reaches is few = absurd (none_below (get_or path depth 0) few)
way_by at path depth (mark.Branch reach edges) is few = record { reach = reach; edges = edges; branch = is; few = few }

pub way : (level : ℕ) (at : Marking) → IsShape level at → (path : List ℕ) → IsSome (at path) → (depth : ℕ) → depth < length path → IsWay at path depth
way level at shape path stands depth within =
    let front = front-stands level at shape (take (depth + 1) path) (drop (depth + 1) path)
    (subst (λ q. IsSome (at q)) (sym (take-append-drop (depth + 1) path)) stands) in
    let above = shape.parents (take depth path) (get_or path depth 0) (subst (λ q. IsSome (at q)) (take_more path depth 0 within) front) in
    way_by at path depth above.0 above.1 above.2

-- two branches at one path are one
same_edges : (r s : List ℕ) (es fs : List Parts) (o : Option Mark) → o ≡ Some (mark.Branch r es) → o ≡ Some (mark.Branch s fs) → es ≡ fs
same_edges r s es fs o h k =
    let same : Some (mark.Branch r es) ≡ Some (mark.Branch s fs) = sym h ∙ k in
    ap (λ (o : Option Mark). edges_in o) same

pub way-few : (at : Marking) (path : List ℕ) (depth : ℕ) (reach : List ℕ) (edges : List Parts) → IsWay at path depth
    → at (take depth path) ≡ Some (mark.Branch reach edges) → get_or path depth 0 < length edges
way-few at path depth reach edges x is =
    subst (λ (es : List Parts). get_or path depth 0 < length es) (same_edges x.reach reach x.edges edges (at (take depth path)) x.branch is) x.few

-- what a step leads to
pub leads-on : (at : Marking) (path : List ℕ) (depth : ℕ) (faults : List Parts) (reach : List ℕ) (edges : List Parts) (edge : Parts) (larger : List Parts)
    → depth < length path → at (take depth path) ≡ Some (mark.Branch reach edges) → slice_get edges (get_or path depth 0) ≡ Some edge
    → larger ≡ inserted edge faults → LeadsOn at path depth faults (take (get_or path depth 0) edges) larger
leads-on at path depth faults reach edges edge larger within branch is made excluded leads =
    let k = get_or path depth 0 in
    let t : Task = record { faults = faults; excluded = excluded } in
    ap (task_at at) (take_more path depth 0 within)
    ∙ task-kid at (take depth path) k t leads
    ∙ ap (λ o. kid_task t (edges_in o) k) branch
    ∙ ap (option_map (λ edge. record { faults = inserted edge faults; excluded = excluded ++ take k edges })) is
    ∙ ap (λ fs. Some (record { faults = fs; excluded = excluded ++ take k edges })) (sym made)

item_in : (xs : List Parts) (i : ℕ) (x : Parts) → slice_get xs i ≡ Some x → Contains xs x
item_in xs i x is = (i, slice_get_within xs i x is, get_or_from_slice_get xs i x x is)

-- a step's edge may be added
pub may-add : {Local Note Fact : Type 0} (w : World Local Note Fact) (b : Bounds) (formula : Formula Fact) (most : ℕ) (s : State)
    → IsClosed w b formula most s → (path : List ℕ) (depth : ℕ) (faults : List Parts) (reach : List ℕ) (edges : List Parts) (edge : Parts)
    → LeadsTo s.marks (take depth path) faults → s.marks (take depth path) ≡ Some (mark.Branch reach edges) → slice_get edges (get_or path depth 0) ≡ Some edge
    → CanAdd b faults edge
may-add w b formula most s closed path depth faults reach edges edge leads branch is =
    let t : Task = record { faults = faults; excluded = leads.0 } in
    let found = closed.known (take depth path) (mark.Branch reach edges) t branch leads.1 in
    ((found.required.each edge).0 (item_in edges (get_or path depth 0) edge is)).allowed

-- of what a closed state keeps, also where it is only known that it is closed
module _ {Local Note Fact : Type 0} (w : World Local Note Fact) (b : Bounds) (formula : Formula Fact) (most : ℕ) (s : State)
    (mere : ∥ IsClosed w b formula most s ∥₁) (path : List ℕ) (depth : ℕ) (within : depth < length path) where
  pub some-way : IsSome (s.marks path) → ((reach : List ℕ) (edges : List Parts) → s.marks (take depth path) ≡ Some (mark.Branch reach edges) → ⊥) → ⊥
  some-way stands never = ∥∥₁_elim mere (λ x y. absurd x) (λ closed.
      let x = way s.level s.marks closed.shape path stands depth within in
      never x.reach x.edges x.branch)

  pub few-on : IsSome (s.marks path) → (reach : List ℕ) (edges : List Parts) → s.marks (take depth path) ≡ Some (mark.Branch reach edges)
      → get_or path depth 0 < length edges
  few-on stands reach edges is = ∥∥₁_elim mere (hlevel le_prop) (λ closed.
      way-few s.marks path depth reach edges (way s.level s.marks closed.shape path stands depth within) is)

  pub may-on : (faults : List Parts) (reach : List ℕ) (edges : List Parts) (edge : Parts) → LeadsTo s.marks (take depth path) faults
      → s.marks (take depth path) ≡ Some (mark.Branch reach edges) → slice_get edges (get_or path depth 0) ≡ Some edge → CanAdd b faults edge
  may-on faults reach edges edge leads branch is =
      let may = ∥∥₁_map mere (λ closed. may-add w b formula most s closed path depth faults reach edges edge leads branch is) in (
        λ h. ∥∥₁_elim may (λ x y. absurd x) (λ m. m.0 h),
        elim (allowed_or_not b (inserted edge faults)) [
          | inl allowed ↦ allowed
          | inr never ↦ absurd (∥∥₁_elim may (λ x y. absurd x) (λ m. never m.1))
        ],
      )

-- where a path ends
pub whole : (at : Marking) (path : List ℕ) (d : ℕ) (t : Task) → d ≡ length path → task_at at (take d path) ≡ Some t → task_at at path ≡ Some t
whole at path d t end leads = subst (λ q. task_at at q ≡ Some t) (take_all d path (omega (arith, end))) leads

pub other-excluded : (at : Marking) (path : List ℕ) (faults xs ys : List Parts) → ys ≡ xs
    → task_at at path ≡ Some (record { faults = faults; excluded = xs }) → task_at at path ≡ Some (record { faults = faults; excluded = ys })
other-excluded at path faults xs ys same leads = subst (λ zs. task_at at path ≡ Some (record { faults = faults; excluded = zs })) (sym same) leads

-- lists with one front
cancel : (a b c : List Parts) → a ++ b ≡ a ++ c → b ≡ c
cancel [] b c same = same
cancel (x ∷ a) b c same = let rest : a ++ b ≡ a ++ c = cc in cancel a b c rest

-- what is excluded at a set goes on as its path does
pub goes-on : (at : Marking) (path : List ℕ) (d n : ℕ) (larger set more excluded : List Parts)
    → task_at at (take d path) ≡ Some (record { faults = larger; excluded = take n excluded ++ more })
    → task_at at path ≡ Some (record { faults = set; excluded = excluded }) → (rest : List Parts) × (drop n excluded ≡ more ++ rest)
goes-on at path d n larger set more excluded leads ends =
    let beyond = excludes-on at (take d path) (drop d path) (record { faults = larger; excluded = take n excluded ++ more })
    (record { faults = set; excluded = excluded }) leads
    (subst (λ q. task_at at q ≡ Some (record { faults = set; excluded = excluded })) (sym (take-append-drop d path)) ends) in (
      beyond.0,
      cancel (take n excluded) (drop n excluded) (more ++ beyond.0)
          (take-append-drop n excluded ∙ beyond.1 ∙ append_assoc (take n excluded) more beyond.0),
    )

-- what is left of a list, to its end
pub rest_whole : (n : ℕ) (xs : List Parts) → take (length xs - n) (drop n xs) ≡ drop n xs
rest_whole n xs = take_all (length xs - n) (drop n xs) (omega (arith, length-drop n xs))

-- one list is taken from another, and more from the rest
pub taken-more : (n : ℕ) (excluded more rest : List Parts) → n ≤ length excluded → drop n excluded ≡ more ++ rest
    → (n + length more ≤ length excluded) × (take (n + length more) excluded ≡ take n excluded ++ more)
taken-more n excluded more rest few is = (
  omega (arith, length-drop n excluded, ap (λ (xs : List Parts). length xs) is, length-append more rest),
  take-add n (length more) excluded
      ∙ ap (λ (xs : List Parts). take n excluded ++ take (length more) xs) is
      ∙ ap (λ (xs : List Parts). take n excluded ++ xs) (take_at more rest (length more) refl),
)

-- where a path ends, its task is the one that was found
pub ends-as : (at : Marking) (path : List ℕ) (d n : ℕ) (found set excluded : List Parts) → d ≡ length path
    → task_at at (take d path) ≡ Some (record { faults = found; excluded = take n excluded })
    → task_at at path ≡ Some (record { faults = set; excluded = excluded }) → (found ≡ set) × (take n excluded ≡ excluded)
ends-as at path d n found set excluded end leads is =
    let t : Task = record { faults = found; excluded = take n excluded } in
    let u : Task = record { faults = set; excluded = excluded } in
    let same : t ≡ u = some-one t u (sym (whole at path d t end leads) ∙ is) in
    (ap (λ (v : Task). v.faults) same, ap (λ (v : Task). v.excluded) same)

pub ends-in : (at : Marking) (path : List ℕ) (d n : ℕ) (found set excluded : List Parts) → d ≡ length path → length excluded ≤ n
    → task_at at (take d path) ≡ Some (record { faults = found; excluded = take n excluded }) → found ≡ set
    → task_at at path ≡ Some (record { faults = set; excluded = excluded })
ends-in at path d n found set excluded end all leads same =
    subst (λ (fs : List Parts). task_at at path ≡ Some (record { faults = fs; excluded = excluded })) same
    (subst (λ (xs : List Parts). task_at at path ≡ Some (record { faults = found; excluded = xs })) (take_all n excluded all)
    (whole at path d (record { faults = found; excluded = take n excluded }) end leads))
