-- The beginning, and a mark that is filed.
use Rattle.std.proofs.Common.{◌≡◌, ◌≢◌, ℕ, ◌+◌, ◌<◌, ◌≤◌, refl, sym, ap, ◌∙◌, subst, arith, true, false, List, [], ◌∷◌, length, inl, inr, IsSome, length-append}
use Rattle.std.specs.Prelude.{None, Some}
use mathlib.Core.Logic.{∥∥₁_elim}
use Rattle.std.proofs.lemmas.Bool.{cases_lt, cases_eq}
use Rattle.std.proofs.lemmas.List.{length_push}
use Rattle.lf_faults.specs.declared.spec.Bounds.{Bounds}
use Rattle.lf_list.proofs.Laws.{Contains-first, Contains-more}
use Rattle.lf_sim.specs.Runs.{World}
use Rattle.lf_outcome.specs.declared.formula.Formula.{Formula}
use Rattle.lf_marks.specs.Counting.{IsCount, AreThose}
use Rattle.lf_marks.specs.Steps.{Mark, Marking, IsShape, IsAnswer, kid_of, kids_beneath, only_root}
use Rattle.lf_marks.specs.Steps as mark
use Rattle.lf_certificate.specs.Closed.{IsClosed, IsKnown}
use Rattle.lf_certificate.specs.Events.{FilesMark}
use Rattle.lf_certificate.specs.Found.{IsFound}
use Rattle.lf_certificate.specs.States.{State, IsStart}
use Rattle.lf_certificate.specs.Tasks.{Task, root_task, edges_in, task_at}
use Rattle.lf_certificate.proofs.PathLemmas.{cases_path, count-same}
use Rattle.lf_certificate.proofs.TaskLemmas.{some-one, is-there, mark-there, task-same}

-- at the beginning the root alone stands, and is open
root_mark : (p : List ℕ) (m : Mark) → only_root p ≡ Some m → (p ≡ []) × (m ≡ mark.Open)
root_mark [] m is = (refl, sym (some-one mark.Open m is))
root_mark (i ∷ p) m is = let no : None ≡ Some m = is in absurd cc

root_path : (p : List ℕ) → IsSome (only_root p) → p ≡ []
root_path p h = let m = mark-there (only_root p) h in (root_mark p m.0 m.1).0

-- no more than one path is the root's
one_root : (ps : List (List ℕ)) (P : List ℕ → Type 0) → ((p : List ℕ) → P p → p ≡ []) → AreThose P ps → length ps ≤ 1
one_root [] P is t = omega arith
one_root (p ∷ []) P is t = omega arith
one_root (p ∷ q ∷ ps) P is t =
    let first : p ≡ [] = is p (t.only p (Contains-first p (q ∷ ps))) in
    let second : q ≡ [] = is q (t.only q (Contains-more p (q ∷ ps) q (Contains-first q ps))) in
    absurd (t.apart.0.0 (first ∙ sym second))

few_roots : (P : List ℕ → Type 0) (n : ℕ) → ((p : List ℕ) → P p → p ≡ []) → IsCount P n → n ≤ 1
few_roots P n is c = elim (cases_lt 1 n) [
  | inr few ↦ few
  | inl many ↦ absurd (∥∥₁_elim c (λ x y. absurd x) (λ l. let k = one_root l.0 P is l.1 in omega (arith, k, l.2, many)))
]

module _ {Local Note Fact : Type 0} (w : World Local Note Fact) (b : Bounds) (formula : Formula Fact) where
  pub start-closed : (most : ℕ) (s : State) → 1 ≤ most → IsStart s → IsShape s.level s.marks → IsClosed w b formula most s
  start-closed most s some start shape = record {
    shape = shape;
    within = omega (arith, start.level);
    branches = λ p m is high. absurd (omega (arith, high, start.level));
    known = λ p m t is leads. subst (IsKnown w b formula t) (sym (root_mark p m (sym (start.marks p) ∙ is)).1) tt;
    tickets = λ p t is.
        let no : mark.Claimed t ≡ mark.Open = (root_mark p (mark.Claimed t) (sym (start.marks p) ∙ is)).1 in absurd cc;
    narrow = λ k n high counted.
        let few = few_roots (λ p. IsSome (s.marks p) × (length p ≡ k)) n (λ p h. root_path p (subst IsSome (start.marks p) h.0)) counted in
        omega (arith, few, some);
    ended = λ h. let no : false ≡ true = sym start.finished ∙ h in absurd cc;
  }

-- a claimed set stands on the level,
pub claimed-level : (level : ℕ) (at : Marking) (p : List ℕ) (t : ℕ) → IsShape level at → at p ≡ Some (mark.Claimed t) → length p ≡ level
claimed-level level at p t shape is = elim (cases_lt (length p) level) [
  | inl high ↦ absurd (shape.above p (mark.Claimed t) is high)
  | inr low ↦ elim (cases_eq (length p) (level + 1)) [
    | inl deep ↦
        let no : Some (mark.Claimed t) ≡ Some mark.Waiting = sym is ∙ shape.waits p (is-there (at p) (mark.Claimed t) is) deep in absurd cc
    | inr shallow ↦ omega (arith, shape.deep p (is-there (at p) (mark.Claimed t) is), low, shallow)
  ]
]

-- and what stands one beneath it waits
pub waits-deeper : (level : ℕ) (at : Marking) (p : List ℕ) (m : Mark) → IsShape level at → at p ≡ Some m → level < length p → m ≡ mark.Waiting
waits-deeper level at p m shape is deep =
    let there = is-there (at p) m is in
    some-one m mark.Waiting (sym is ∙ shape.waits p there (omega (arith, shape.deep p there, deep)))

module _ (old new : State) (path : List ℕ) (ticket : ℕ) (task : Task) (m : Mark) (before : IsShape old.level old.marks)
    (e : FilesMark path ticket task m old new) where
  pub filed-level : length path ≡ old.level
  filed-level = claimed-level old.level old.marks path ticket before e.claims.claimed

  -- above the kids of the filed set nothing else changes
  pub filed-others : (q : List ℕ) → length q ≤ old.level → q ≢ path → new.marks q ≡ old.marks q
  filed-others q high other = e.marks.others q other
      (λ i few is. omega (arith, high, filed-level, ap (λ (r : List ℕ). length r) is, length_push path i))

  -- so the tasks are the same
  pub filed-tasks : (q : List ℕ) → length q ≤ old.level → task_at old.marks q ≡ task_at new.marks q
  filed-tasks q high = task-same old.marks new.marks root_task q (λ front i rest whole.
      let shorter : length front < old.level = omega (arith, high, ap (λ (r : List ℕ). length r) whole, length-append front (i ∷ rest)) in
      ap edges_in (sym (filed-others front (omega (arith, shorter))
      (λ is. omega (arith, shorter, filed-level, ap (λ (r : List ℕ). length r) is)))))

module _ {Local Note Fact : Type 0} (w : World Local Note Fact) (b : Bounds) (formula : Formula Fact) where
  found_known : (t : Task) (m : Mark) → IsFound w b formula t.faults t.excluded m → IsKnown w b formula t m
  found_known t mark.Waiting h = tt
  found_known t mark.Open h = tt
  found_known t (mark.Claimed u) h = tt
  found_known t mark.Misses h = h
  found_known t mark.Reaches h = h
  found_known t (mark.Branch reach edges) h = h

  module _ (most : ℕ) (old new : State) (path : List ℕ) (ticket : ℕ) (task : Task) (m : Mark)
      (closed : IsClosed w b formula most old) (e : FilesMark path ticket task m old new) (found : IsFound w b formula task.faults task.excluded m)
      (shape : IsShape new.level new.marks) where
    others : (q : List ℕ) → length q ≤ old.level → q ≢ path → new.marks q ≡ old.marks q
    others = filed-others old new path ticket task m closed.shape e

    filed_tickets : (p : List ℕ) (t : ℕ) → new.marks p ≡ Some (mark.Claimed t) → t < new.next
    filed_tickets p t is = elim (cases_path p path) [
      | inr other ↦
          let here = claimed-level new.level new.marks p t shape is in
          omega (arith, closed.tickets p t (sym (others p (omega (arith, here, e.keeps.level)) other) ∙ is), e.keeps.next)
      | inl same ↦
          let m_is : m ≡ mark.Claimed t = some-one m (mark.Claimed t) (sym e.marks.is ∙ ap new.marks (sym same) ∙ is) in
          absurd (subst (IsFound w b formula task.faults task.excluded) m_is found)
    ]

    filed_known : (p : List ℕ) (k : Mark) (t : Task) → new.marks p ≡ Some k → task_at new.marks p ≡ Some t → IsKnown w b formula t k
    filed_known p k t is leads = elim (cases_lt old.level (length p)) [
      | inl deep ↦ subst (IsKnown w b formula t) (sym (waits-deeper new.level new.marks p k shape is (omega (arith, deep, e.keeps.level)))) tt
      | inr high ↦
          let led : task_at old.marks p ≡ Some t = filed-tasks old new path ticket task m closed.shape e p high ∙ leads in
          elim (cases_path p path) [
            | inr other ↦ closed.known p k t (sym (others p high other) ∙ is) led
            | inl same ↦
                let m_is : m ≡ k = some-one m k (sym e.marks.is ∙ ap new.marks (sym same) ∙ is) in
                let t_is : task ≡ t = some-one task t (sym e.claims.works ∙ ap (task_at old.marks) (sym same) ∙ led) in
                subst (IsKnown w b formula t) m_is (subst (λ u. IsKnown w b formula u m) t_is (found_known task m found))
          ]
    ]

    stands_to : (p : List ℕ) → length p ≤ old.level → IsSome (new.marks p) → IsSome (old.marks p)
    stands_to p high h = elim (cases_path p path) [
      | inl same ↦ is-there (old.marks p) (mark.Claimed ticket) (ap old.marks same ∙ e.claims.claimed)
      | inr other ↦ subst IsSome (others p high other) h
    ]

    stands_from : (p : List ℕ) → length p ≤ old.level → IsSome (old.marks p) → IsSome (new.marks p)
    stands_from p high h = elim (cases_path p path) [
      | inl same ↦ is-there (new.marks p) m (ap new.marks same ∙ e.marks.is)
      | inr other ↦ subst IsSome (sym (others p high other)) h
    ]

    pub file-closed : IsClosed w b formula most new
    file-closed = record {
      shape = shape;
      within = omega (arith, closed.within, e.keeps.level);
      branches = λ p k is high.
          let above : length p < old.level = omega (arith, high, e.keeps.level) in
          closed.branches p k (sym (others p (omega (arith, above))
          (λ same. omega (arith, above, ap (λ (r : List ℕ). length r) same, filed-level old new path ticket task m closed.shape e))) ∙ is) above;
      known = filed_known;
      tickets = filed_tickets;
      narrow = λ k n high counted.
          let low : k ≤ old.level = omega (arith, high, e.keeps.level) in
          closed.narrow k n low
          (count-same (λ p. IsSome (new.marks p) × (length p ≡ k)) (λ p. IsSome (old.marks p) × (length p ≡ k))
          (λ p h. (stands_to p (omega (arith, h.1, low)) h.0, h.1)) (λ p h. (stands_from p (omega (arith, h.1, low)) h.0, h.1)) n counted);
      ended = λ h. absurd ((closed.ended (sym e.keeps.finished ∙ h)).done.free ticket path e.claims.claimed);
    }
