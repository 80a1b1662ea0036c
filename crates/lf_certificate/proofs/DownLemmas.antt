-- Going down a level.
use Rattle.std.proofs.Common.{◌≡◌, ℕ, ◌+◌, ◌≤◌, refl, sym, ap, ◌∙◌, subst, arith, List, length, inl, inr, IsSome}
use Rattle.std.specs.Prelude.{Option, None, Some}
use Rattle.std.specs.Option.{option_map}
use Rattle.std.proofs.lemmas.Bool.{cases_lt}
use Rattle.lf_faults.specs.declared.spec.Bounds.{Bounds}
use Rattle.lf_sim.specs.Runs.{World}
use Rattle.lf_outcome.specs.declared.formula.Formula.{Formula}
use Rattle.lf_marks.specs.Counting.{IsCount}
use Rattle.lf_marks.specs.Steps.{Mark, IsShape, raised}
use Rattle.lf_marks.specs.Steps as mark
use Rattle.lf_certificate.specs.Closed.{IsClosed, IsKnown, IsEnded, IsBranchMark}
use Rattle.lf_certificate.specs.Events.{GoesDown}
use Rattle.lf_certificate.specs.States.{State}
use Rattle.lf_certificate.specs.Tasks.{Task, root_task, edges_in, task_at}
use Rattle.lf_certificate.proofs.ClosedLemmas.{sized, task-there}
use Rattle.lf_certificate.proofs.PathLemmas.{count-same}
use Rattle.lf_certificate.proofs.TaskLemmas.{some-one, is-there, task-same}

-- what was raised
raised_edges : (o : Option Mark) → edges_in o ≡ edges_in (option_map raised o)
raised_edges None = refl
raised_edges (Some mark.Waiting) = refl
raised_edges (Some mark.Open) = refl
raised_edges (Some (mark.Claimed t)) = refl
raised_edges (Some mark.Misses) = refl
raised_edges (Some mark.Reaches) = refl
raised_edges (Some (mark.Branch reach edges)) = refl

raised_some : (o : Option Mark) → IsSome (option_map raised o) → IsSome o
raised_some None h = h
raised_some (Some m) h = refl

some_raised : (o : Option Mark) → IsSome o → IsSome (option_map raised o)
some_raised None h = h
some_raised (Some m) h = refl

raised_from : (o : Option Mark) (m : Mark) → option_map raised o ≡ Some m → (k : Mark) × (o ≡ Some k) × (m ≡ raised k)
raised_from None m h = let no : None ≡ Some m = h in absurd cc
raised_from (Some k) m h = (k, refl, sym (some-one (raised k) m h))

pub raised-misses : (o : Option Mark) → option_map raised o ≡ Some mark.Misses → o ≡ Some mark.Misses
raised-misses None h = cc
raised-misses (Some mark.Waiting) h = cc
raised-misses (Some mark.Open) h = cc
raised-misses (Some (mark.Claimed t)) h = cc
raised-misses (Some mark.Misses) h = refl
raised-misses (Some mark.Reaches) h = cc
raised-misses (Some (mark.Branch reach edges)) h = cc

raised_claim : (o : Option Mark) (t : ℕ) → option_map raised o ≡ Some (mark.Claimed t) → o ≡ Some (mark.Claimed t)
raised_claim None t h = cc
raised_claim (Some mark.Waiting) t h = cc
raised_claim (Some mark.Open) t h = cc
raised_claim (Some (mark.Claimed u)) t h = h
raised_claim (Some mark.Misses) t h = cc
raised_claim (Some mark.Reaches) t h = cc
raised_claim (Some (mark.Branch reach edges)) t h = cc

module _ {Local Note Fact : Type 0} (w : World Local Note Fact) (b : Bounds) (formula : Formula Fact) where
  raised_known : (t : Task) (m : Mark) → IsKnown w b formula t m → IsKnown w b formula t (raised m)
  raised_known t mark.Waiting h = tt
  raised_known t mark.Open h = tt
  raised_known t (mark.Claimed u) h = tt
  raised_known t mark.Misses h = h
  raised_known t mark.Reaches h = h
  raised_known t (mark.Branch reach edges) h = h

  module _ (most : ℕ) (old new : State) (closed : IsClosed w b formula most old) (e : GoesDown b most old new) where
    pub down-tasks : (p : List ℕ) → task_at old.marks p ≡ task_at new.marks p
    down-tasks p = task-same old.marks new.marks root_task p
        (λ front i rest whole. raised_edges (old.marks front) ∙ ap edges_in (sym (e.marks front)))

    -- each set of the level is a branch
    branch_by : (p : List ℕ) (m : Mark) → old.marks p ≡ Some m → length p ≤ old.level → IsBranchMark (raised m)
    branch_by p mark.Waiting is high = absurd (omega (arith, closed.shape.waiting p is, high))
    branch_by p mark.Open is high = absurd (e.done.none p is)
    branch_by p (mark.Claimed t) is high = absurd (e.done.free t p is)
    branch_by p mark.Misses is high = absurd (e.reaching p is)
    branch_by p mark.Reaches is high =
        let there = is-there (old.marks p) mark.Reaches is in
        let t = task-there w b formula most old closed p there in
        let last = closed.known p mark.Reaches t.0 is t.1 in
        absurd (omega (arith, last.full, (sized w b formula most old closed p t.0 there t.1).0, high, e.above))
    branch_by p (mark.Branch reach edges) is high = tt

    waits_to : (p : List ℕ) → IsSome (new.marks p) → length p ≡ old.level + 1 → old.marks p ≡ Some mark.Waiting
    waits_to p h deep = closed.shape.waits p (raised_some (old.marks p) (subst IsSome (e.marks p) h)) deep

    waits_from : (p : List ℕ) → old.marks p ≡ Some mark.Waiting → IsSome (new.marks p)
    waits_from p is = is-there (new.marks p) mark.Open (e.marks p ∙ ap (option_map raised) is)

    narrow : (k n : ℕ) → k ≤ new.level → IsCount (λ p. IsSome (new.marks p) × (length p ≡ k)) n → n ≤ most
    narrow k n high counted = elim (cases_lt old.level k) [
      | inl deep ↦
          let here : k ≡ old.level + 1 = omega (arith, deep, high, e.level) in
          e.few n (count-same (λ p. IsSome (new.marks p) × (length p ≡ k)) (λ p. old.marks p ≡ Some mark.Waiting)
          (λ p h. waits_to p h.0 (h.1 ∙ here)) (λ p h. (waits_from p h, closed.shape.waiting p h ∙ sym here)) n counted)
      | inr low ↦
          closed.narrow k n low (count-same (λ p. IsSome (new.marks p) × (length p ≡ k)) (λ p. IsSome (old.marks p) × (length p ≡ k))
          (λ p h. (raised_some (old.marks p) (subst IsSome (e.marks p) h.0), h.1))
          (λ p h. (subst IsSome (sym (e.marks p)) (some_raised (old.marks p) h.0), h.1)) n counted)
    ]

    pub down-unended : IsEnded w b formula old → ⊥
    down-unended ended = elim ended.reason [
      | inl found ↦ e.reaching found.0 found.1
      | inr last ↦ omega (arith, last, e.above)
    ]

    pub down-closed : IsShape new.level new.marks → IsClosed w b formula most new
    down-closed shape = record {
      shape = shape;
      within = omega (arith, e.level, e.above);
      branches = λ p m is high.
          let k = raised_from (old.marks p) m (sym (e.marks p) ∙ is) in
          subst IsBranchMark (sym k.2) (branch_by p k.0 k.1 (omega (arith, high, e.level)));
      known = λ p m t is leads.
          let k = raised_from (old.marks p) m (sym (e.marks p) ∙ is) in
          subst (IsKnown w b formula t) (sym k.2) (raised_known t k.0 (closed.known p k.0 t k.1 (down-tasks p ∙ leads)));
      tickets = λ p t is. absurd (e.done.free t p (raised_claim (old.marks p) t (sym (e.marks p) ∙ is)));
      narrow = narrow;
      ended = λ h. absurd (down-unended (closed.ended (sym e.finished ∙ h)));
    }
