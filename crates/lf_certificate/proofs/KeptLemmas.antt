-- Events that change no more than which sets are open and which are claimed.
use Rattle.std.proofs.Common.{◌≡◌, ℕ, ◌<◌, refl, sym, ap, ◌∙◌, subst, arith, true, List, [], length, inl, inr, IsSome}
use Rattle.std.specs.Prelude.{◌⊎◌, Option, None, Some}
use Rattle.std.specs.Option.{option_map}
use Rattle.lf_faults.specs.declared.spec.Bounds.{Bounds}
use Rattle.lf_sim.specs.Runs.{World}
use Rattle.lf_outcome.specs.declared.formula.Formula.{Formula}
use Rattle.lf_marks.specs.Steps.{Mark, IsShape, IsSame, freed}
use Rattle.lf_marks.specs.Steps as mark
use Rattle.lf_certificate.specs.Closed.{IsClosed, IsKnown, IsEnded, IsBranchMark}
use Rattle.lf_certificate.specs.Events.{IsDone, TakesSet, GivesBack, Reclaims, FindsAnswer, FindsNone}
use Rattle.lf_certificate.specs.States.{State}
use Rattle.lf_certificate.specs.Tasks.{Task, root_task, edges_of_mark, edges_in, task_at}
use Rattle.lf_certificate.proofs.PathLemmas.{cases_path, count-same}
use Rattle.lf_certificate.proofs.TaskLemmas.{some-one, is-there, task-same}

-- open or claimed
abbrev pub IsHeld : Mark → Type 0
IsHeld mark.Waiting = ⊥
IsHeld mark.Open = Unit {0}
IsHeld (mark.Claimed t) = Unit {0}
IsHeld mark.Misses = ⊥
IsHeld mark.Reaches = ⊥
IsHeld (mark.Branch reach edges) = ⊥

-- the same, or open or claimed before and after
pub data IsAlike (old new : Option Mark) : Type 0 where
  unchanged : new ≡ old → IsAlike old new
  held : (m k : Mark) → old ≡ Some m → IsHeld m → new ≡ Some k → IsHeld k → IsAlike old new

held_edges : (m : Mark) → IsHeld m → edges_of_mark m ≡ []
held_edges mark.Waiting h = refl
held_edges mark.Open h = refl
held_edges (mark.Claimed t) h = refl
held_edges mark.Misses h = refl
held_edges mark.Reaches h = refl
held_edges (mark.Branch reach edges) h = absurd h

alike_edges : (old new : Option Mark) → IsAlike old new → edges_in old ≡ edges_in new
alike_edges old new (unchanged e) = ap edges_in (sym e)
alike_edges old new (held m k is h is' h') = ap edges_in is ∙ held_edges m h ∙ sym (held_edges k h') ∙ sym (ap edges_in is')

pub alike_back : (old new : Option Mark) → IsAlike old new → IsAlike new old
alike_back old new (unchanged e) = unchanged (sym e)
alike_back old new (held m k is h is' h') = held k m is' h' is h

alike_some : (old new : Option Mark) → IsAlike old new → IsSome old → IsSome new
alike_some old new (unchanged e) h = subst IsSome (sym e) h
alike_some old new (held m k is h is' h') s = is-there new k is'

-- what stands afterwards stood before, or is open or claimed and was

pub alike-at : (old new : Option Mark) (m : Mark) → IsAlike old new → new ≡ Some m → (old ≡ Some m) ⊎ ((k : Mark) × (old ≡ Some k) × IsHeld k × IsHeld m)
alike-at old new m (unchanged e) is = inl (sym e ∙ is)
alike-at old new m (held was k is h is' h') now = inr (was, is, h, subst IsHeld (some-one k m (sym is' ∙ now)) h')

no_branch : (m : Mark) → IsHeld m → IsBranchMark m → ⊥
no_branch mark.Waiting h b = h
no_branch mark.Open h b = b
no_branch (mark.Claimed t) h b = b
no_branch mark.Misses h b = h
no_branch mark.Reaches h b = h
no_branch (mark.Branch reach edges) h b = h

module _ {Local Note Fact : Type 0} (w : World Local Note Fact) (b : Bounds) (formula : Formula Fact) where
  held_known : (t : Task) (m : Mark) → IsHeld m → IsKnown w b formula t m
  held_known t mark.Waiting h = tt
  held_known t mark.Open h = tt
  held_known t (mark.Claimed u) h = tt
  held_known t mark.Misses h = absurd h
  held_known t mark.Reaches h = absurd h
  held_known t (mark.Branch reach edges) h = absurd h

undone : (s : State) → IsDone s.marks → (p : List ℕ) (m : Mark) → s.marks p ≡ Some m → IsHeld m → ⊥
undone s done p mark.Waiting is h = h
undone s done p mark.Open is h = done.none p is
undone s done p (mark.Claimed t) is h = done.free t p is
undone s done p mark.Misses is h = h
undone s done p mark.Reaches is h = h
undone s done p (mark.Branch reach edges) is h = h

module _ (old new : State) (alike : (q : List ℕ) → IsAlike (old.marks q) (new.marks q)) where
  -- the tasks are the same
  pub alike-tasks : (p : List ℕ) → task_at old.marks p ≡ task_at new.marks p
  alike-tasks p = task-same old.marks new.marks root_task p (λ front i rest whole. alike_edges (old.marks front) (new.marks front) (alike front))

  -- and so are the sets that miss
  pub alike-misses : (p : List ℕ) → old.marks p ≡ Some mark.Misses → new.marks p ≡ Some mark.Misses
  alike-misses p is = elim (alike-at (new.marks p) (old.marks p) mark.Misses (alike_back (old.marks p) (new.marks p) (alike p)) is) [
    | inl same ↦ same
    | inr was ↦ absurd was.3
  ]

  done_still : IsDone old.marks → (p : List ℕ) (m : Mark) → new.marks p ≡ Some m → IsHeld m → ⊥
  done_still done p m is h = elim (alike-at (old.marks p) (new.marks p) m (alike p) is) [
    | inl same ↦ undone old done p m same h
    | inr was ↦ undone old done p was.0 was.1 was.2
  ]

  module _ {Local Note Fact : Type 0} (w : World Local Note Fact) (b : Bounds) (formula : Formula Fact) (level : new.level ≡ old.level) where
    pub kept-ended : IsEnded w b formula old → IsEnded w b formula new
    kept-ended e = record {
      done = record { none = λ p is. done_still e.done p mark.Open is tt; free = λ t p is. done_still e.done p (mark.Claimed t) is tt };
      reason = elim e.reason [
        | inl found ↦ inl (found.0, alike-misses found.0 found.1)
        | inr last ↦ inr (level ∙ last)
      ];
    }

    pub kept-closed : (most : ℕ) → IsClosed w b formula most old → IsShape new.level new.marks
        → ((p : List ℕ) (t : ℕ) → new.marks p ≡ Some (mark.Claimed t) → t < new.next) → (new.finished ≡ true → IsEnded w b formula new)
        → IsClosed w b formula most new
    kept-closed most c shape tickets ended = record {
      shape = shape;
      within = omega (arith, c.within, level);
      branches = λ p m is high. elim (alike-at (old.marks p) (new.marks p) m (alike p) is) [
        | inl same ↦ c.branches p m same (omega (arith, high, level))
        | inr was ↦ absurd (no_branch was.0 was.2 (c.branches p was.0 was.1 (omega (arith, high, level))))
      ];
      known = λ p m t is leads. elim (alike-at (old.marks p) (new.marks p) m (alike p) is) [
        | inl same ↦ c.known p m t same (alike-tasks p ∙ leads)
        | inr was ↦ held_known w b formula t m was.3
      ];
      tickets = tickets;
      narrow = λ k n high counted. c.narrow k n (omega (arith, high, level))
          (count-same (λ p. IsSome (new.marks p) × (length p ≡ k)) (λ p. IsSome (old.marks p) × (length p ≡ k))
          (λ p h. (alike_some (new.marks p) (old.marks p) (alike_back (old.marks p) (new.marks p) (alike p)) h.0, h.1))
          (λ p h. (alike_some (old.marks p) (new.marks p) (alike p) h.0, h.1)) n counted);
      ended = ended;
    }

-- the events: a set is taken,
pub take-alike : (path : List ℕ) (ticket : ℕ) (task : Task) (old new : State) → TakesSet path ticket task old new
    → (q : List ℕ) → IsAlike (old.marks q) (new.marks q)
take-alike path ticket task old new e q = elim (cases_path q path) [
  | inl same ↦ held mark.Open (mark.Claimed ticket) (ap old.marks same ∙ e.marks.was) tt (ap new.marks same ∙ e.marks.is) tt
  | inr other ↦ unchanged (e.marks.others q other)
]

-- given back,
pub back-alike : (path : List ℕ) (ticket : ℕ) (task : Task) (old new : State) → GivesBack path ticket task old new
    → (q : List ℕ) → IsAlike (old.marks q) (new.marks q)
back-alike path ticket task old new e q = elim (cases_path q path) [
  | inl same ↦ held (mark.Claimed ticket) mark.Open (ap old.marks same ∙ e.marks.was) tt (ap new.marks same ∙ e.marks.is) tt
  | inr other ↦ unchanged (e.marks.others q other)
]

-- or all are reclaimed
freed_alike : (o new : Option Mark) → new ≡ option_map freed o → IsAlike o new
freed_alike None new e = unchanged e
freed_alike (Some mark.Waiting) new e = unchanged e
freed_alike (Some mark.Open) new e = unchanged e
freed_alike (Some (mark.Claimed t)) new e = held (mark.Claimed t) mark.Open refl tt e tt
freed_alike (Some mark.Misses) new e = unchanged e
freed_alike (Some mark.Reaches) new e = unchanged e
freed_alike (Some (mark.Branch reach edges)) new e = unchanged e

pub reclaim-alike : (old new : State) → Reclaims old new → (q : List ℕ) → IsAlike (old.marks q) (new.marks q)
reclaim-alike old new e q = freed_alike (old.marks q) (new.marks q) (e.marks q)

freed_unclaimed : (o : Option Mark) (t : ℕ) → option_map freed o ≡ Some (mark.Claimed t) → ⊥
freed_unclaimed None t h = absurd cc
freed_unclaimed (Some mark.Waiting) t h = absurd cc
freed_unclaimed (Some mark.Open) t h = absurd cc
freed_unclaimed (Some (mark.Claimed u)) t h = absurd cc
freed_unclaimed (Some mark.Misses) t h = absurd cc
freed_unclaimed (Some mark.Reaches) t h = absurd cc
freed_unclaimed (Some (mark.Branch reach edges)) t h = absurd cc

claimed_by : (t u : ℕ) → Some (mark.Claimed t) ≡ Some (mark.Claimed u) → t ≡ u
claimed_by t u e = cc

-- marks of the same shape
shape_same : (old new : State) → new.level ≡ old.level → IsSame old.marks new.marks → IsShape old.level old.marks → IsShape new.level new.marks
shape_same old new level same s = record {
  root = subst IsSome (sym (same [])) s.root;
  kids = λ p m i is few. subst IsSome (sym (same (mark.kid_of p i))) (s.kids p m i (sym (same p) ∙ is) few);
  parents = λ p i h. let up = s.parents p i (subst IsSome (same (mark.kid_of p i)) h) in (up.0, same p ∙ up.1, up.2);
  deep = λ p h. omega (arith, s.deep p (subst IsSome (same p) h), level);
  waits = λ p h deep. same p ∙ s.waits p (subst IsSome (same p) h) (omega (arith, deep, level));
  waiting = λ p h. omega (arith, s.waiting p (sym (same p) ∙ h), level);
  above = λ p m h high. s.above p m (sym (same p) ∙ h) (omega (arith, high, level));
  tickets = λ p q t h k. s.tickets p q t (sym (same p) ∙ h) (sym (same q) ∙ k);
}

module _ {Local Note Fact : Type 0} (w : World Local Note Fact) (b : Bounds) (formula : Formula Fact) (most : ℕ) (old new : State)
    (closed : IsClosed w b formula most old) where
  pub take-closed : (path : List ℕ) (ticket : ℕ) (task : Task) → TakesSet path ticket task old new → IsShape new.level new.marks
      → IsClosed w b formula most new
  take-closed path ticket task e shape =
      kept-closed old new (take-alike path ticket task old new e) w b formula e.level most closed shape
      (λ p t is. elim (cases_path p path) [
        | inl same ↦ let t_is : ticket ≡ t = claimed_by ticket t (sym e.marks.is ∙ ap new.marks (sym same) ∙ is) in omega (arith, t_is, e.fresh, e.next)
        | inr other ↦ omega (arith, closed.tickets p t (sym (e.marks.others p other) ∙ is), e.next)
      ])
      (λ h. kept-ended old new (take-alike path ticket task old new e) w b formula e.level (closed.ended (sym e.finished ∙ h)))

  pub back-closed : (path : List ℕ) (ticket : ℕ) (task : Task) → GivesBack path ticket task old new → IsShape new.level new.marks
      → IsClosed w b formula most new
  back-closed path ticket task e shape =
      kept-closed old new (back-alike path ticket task old new e) w b formula e.keeps.level most closed shape
      (λ p t is. elim (cases_path p path) [
        | inl same ↦ let no : Some mark.Open ≡ Some (mark.Claimed t) = sym e.marks.is ∙ ap new.marks (sym same) ∙ is in absurd cc
        | inr other ↦ omega (arith, closed.tickets p t (sym (e.marks.others p other) ∙ is), e.keeps.next)
      ])
      (λ h. kept-ended old new (back-alike path ticket task old new e) w b formula e.keeps.level (closed.ended (sym e.keeps.finished ∙ h)))

  pub reclaim-closed : Reclaims old new → IsShape new.level new.marks → IsClosed w b formula most new
  reclaim-closed e shape =
      kept-closed old new (reclaim-alike old new e) w b formula e.keeps.level most closed shape
      (λ p t is. absurd (freed_unclaimed (old.marks p) t (sym (e.marks p) ∙ is)))
      (λ h. kept-ended old new (reclaim-alike old new e) w b formula e.keeps.level (closed.ended (sym e.keeps.finished ∙ h)))

  -- the search ends
  ends_closed : new.level ≡ old.level → new.next ≡ old.next → IsSame old.marks new.marks → IsEnded w b formula old → IsClosed w b formula most new
  ends_closed level next same ended =
      kept-closed old new (λ q. unchanged (same q)) w b formula level most closed (shape_same old new level same closed.shape)
      (λ p t is. omega (arith, closed.tickets p t (sym (same p) ∙ is), next))
      (λ _. kept-ended old new (λ q. unchanged (same q)) w b formula level ended)

  pub answer-closed : FindsAnswer old new → IsClosed w b formula most new
  answer-closed e = ends_closed e.ends.level e.ends.next e.ends.marks (record { done = e.done; reason = inl e.missing })

  pub none-closed : FindsNone b old new → IsClosed w b formula most new
  none-closed e = ends_closed e.ends.level e.ends.next e.ends.marks (record { done = e.done; reason = inr e.last })
