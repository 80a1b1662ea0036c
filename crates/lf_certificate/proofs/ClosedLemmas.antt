-- What is so in every closed state: how its sets came to stand, and what their tasks are.
use Rattle.std.proofs.Common.{◌≡◌, ℕ, ◌<◌, sym, ap, ◌∙◌, subst, arith, List, [], ◌∷◌, ◌++◌, length, append_assoc, append-nil, IsSome}
use Rattle.std.specs.Prelude.{Some}
use Rattle.std.proofs.lemmas.List.{length_push}
use Rattle.lf_faults.specs.declared.fault.Parts.{Parts}
use Rattle.lf_faults.specs.declared.spec.Bounds.{Bounds}
use Rattle.lf_faults.specs.Allowed.{IsAllowed}
use Rattle.lf_faults.proofs.Laws.{empty_allowed, length-inserted}
use Rattle.lf_sim.specs.Runs.{World}
use Rattle.lf_outcome.specs.declared.formula.Formula.{Formula}
use Rattle.lf_cone.specs.Cones.{IsRequired}
use Rattle.lf_marks.specs.Steps.{Mark, kid_of, kids_beneath}
use Rattle.lf_marks.specs.Steps as mark
use Rattle.lf_certificate.specs.Closed.{IsClosed}
use Rattle.lf_certificate.specs.Found.{IsBranch}
use Rattle.lf_certificate.specs.States.{State}
use Rattle.lf_certificate.specs.Tasks.{Task, root_task, kid_task, edges_in, task_at}
use Rattle.lf_certificate.proofs.TaskLemmas.{some-one, none_below, item-in, is-there, by_kids, IsKid, kid-is, task-kid, task-stands}

module _ {Local Note Fact : Type 0} (w : World Local Note Fact) (b : Bounds) (formula : Formula Fact) (most : ℕ) (s : State)
    (closed : IsClosed w b formula most s) where
  -- a set stands beneath a branch by one of its edges
  pub record IsBorn (p : List ℕ) (i : ℕ) (above t : Task) : Type 0 where
    pub reach : List ℕ
    pub edges : List Parts
    pub branch : s.marks p ≡ Some (mark.Branch reach edges)
    pub leads : task_at s.marks p ≡ Some above
    pub found : IsBranch w b formula above.faults above.excluded reach edges
    pub kid : IsKid above edges i t

  born_by : (p : List ℕ) (i : ℕ) (above t : Task) (m : Mark) → s.marks p ≡ Some m → i < kids_beneath m → task_at s.marks p ≡ Some above
      → task_at s.marks (kid_of p i) ≡ Some t → IsBorn p i above t
  born_by p i above t mark.Waiting is few leads there = absurd (none_below i few)
  born_by p i above t mark.Open is few leads there = absurd (none_below i few)
  born_by p i above t (mark.Claimed u) is few leads there = absurd (none_below i few)
  born_by p i above t mark.Misses is few leads there = absurd (none_below i few)
  born_by p i above t mark.Reaches is few leads there = absurd (none_below i few)
  born_by p i above t (mark.Branch reach edges) is few leads there = record {
    reach = reach;
    edges = edges;
    branch = is;
    leads = leads;
    found = closed.known p (mark.Branch reach edges) above is leads;
    kid = kid-is above t edges i (ap (λ o. kid_task above (edges_in o) i) (sym is) ∙ sym (task-kid s.marks p i above leads) ∙ there);
  }

  pub born : (p : List ℕ) (i : ℕ) (t : Task) → IsSome (s.marks (kid_of p i)) → task_at s.marks (kid_of p i) ≡ Some t
      → (above : Task) × IsBorn p i above t
  born p i t stands there =
      let up = closed.shape.parents p i stands in
      let u = task-stands s.level s.marks closed.shape p (is-there (s.marks p) up.0 up.1) in
      (u.0, born_by p i u.0 t up.0 up.1 up.2 u.1 there)

  -- its edge is one that is required there
  pub edge-required : (p : List ℕ) (i : ℕ) (above t : Task) (x : IsBorn p i above t)
      → IsRequired w above.faults b x.reach above.excluded x.kid.edge
  edge-required p i above t x = (x.found.required.each x.kid.edge).0 (item-in x.edges i x.kid.edge x.kid.is)

  -- what holds of a set, and of a kid where it holds of the set above it, holds of all that stand beneath
  pub along : (P : List ℕ → Task → Type 0) (k : List ℕ) → ((t : Task) → task_at s.marks k ≡ Some t → P k t)
      → ((p : List ℕ) (i : ℕ) (above t : Task) → IsBorn p i above t → P p above → P (kid_of p i) t)
      → (rest : List ℕ) (t : Task) → IsSome (s.marks (k ++ rest)) → task_at s.marks (k ++ rest) ≡ Some t → P (k ++ rest) t
  along P k base step = by_kids (λ rest. (t : Task) → IsSome (s.marks (k ++ rest)) → task_at s.marks (k ++ rest) ≡ Some t → P (k ++ rest) t)
      (λ t stands leads. subst (λ q. P q t) (sym (append-nil k)) (base t (subst (λ q. task_at s.marks q ≡ Some t) (append-nil k) leads)))
      (λ rest i up t stands leads.
      let whole : kid_of (k ++ rest) i ≡ k ++ kid_of rest i = append_assoc k rest (i ∷ []) in
      let x = born (k ++ rest) i t (subst (λ q. IsSome (s.marks q)) (sym whole) stands)
      (subst (λ q. task_at s.marks q ≡ Some t) (sym whole) leads) in
      subst (λ q. P q t) whole (step (k ++ rest) i x.0 t x.1
      (up x.0 (is-there (s.marks (k ++ rest)) (mark.Branch x.1.reach x.1.edges) x.1.branch) x.1.leads)))

  -- each set has as many faults as its path is long, and is allowed
  pub sized : (p : List ℕ) (t : Task) → IsSome (s.marks p) → task_at s.marks p ≡ Some t → (length t.faults ≡ length p) × IsAllowed b t.faults
  sized = along (λ p t. (length t.faults ≡ length p) × IsAllowed b t.faults) []
      (λ t leads.
      let same : root_task ≡ t = some-one root_task t leads in
      (ap (λ (u : Task). length u.faults) (sym same), subst (λ (u : Task). IsAllowed b u.faults) same (empty_allowed b)))
      (λ p i above t x up. (
        omega (arith, ap (λ (fs : List Parts). length fs) x.kid.faults, length-inserted x.kid.edge above.faults, up.0, length_push p i),
        subst (IsAllowed b) (sym x.kid.faults) (edge-required p i above t x).allowed.1,
      ))

  -- each set that stands has a task
  pub task-there : (p : List ℕ) → IsSome (s.marks p) → (t : Task) × (task_at s.marks p ≡ Some t)
  task-there = task-stands s.level s.marks closed.shape
