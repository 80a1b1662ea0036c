-- The first of the sets that miss, through the events of a search.
use Rattle.std.proofs.Common.{◌≡◌, ◌≢◌, ℕ, ◌≤◌, refl, sym, ap, ◌∙◌, subst, arith, true, false, List, [], ◌∷◌, length, inl, inr}
use Rattle.std.specs.Prelude.{◌⊎◌, Option, None, Some}
use Rattle.std.specs.Option.{option_map}
use Rattle.std.specs.declared.cmp.Ordering.{Ordering}
use Rattle.std.specs.declared.cmp.Ordering.TheVariants.{Less, Equal, Greater}
use Rattle.std.specs.Ordering.{is_lt}
use Rattle.std.specs.Cmp.{IsTotalOrder}
use Rattle.std.proofs.lemmas.Cmp.{on_total, then_total, lists_total, nat_cmp_total}
use Rattle.std.proofs.lemmas.Bool.{cases_lt, both_ways, false_from_ne_true}
use Rattle.lf_faults.specs.declared.fault.Parts.{Parts}
use Rattle.lf_faults.specs.declared.spec.Bounds.{Bounds}
use Rattle.lf_faults.specs.Faults.{step_of, rank_of, node_of, receiver_of, fault_cmp, set_cmp, set_is_before}
use Rattle.lf_faults.proofs.Laws.{set_not_itself}
use Rattle.lf_sim.specs.Runs.{World}
use Rattle.lf_outcome.specs.declared.formula.Formula.{Formula}
use Rattle.lf_marks.specs.Steps.{Mark, Marking, IsShape, IsSame, raised, only_root}
use Rattle.lf_marks.specs.Steps as mark
use Rattle.lf_certificate.specs.Closed.{IsClosed, MissesAt, IsFirstMissing}
use Rattle.lf_certificate.specs.Events.{FilesMark, GoesDown}
use Rattle.lf_certificate.specs.States.{State, IsStart}
use Rattle.lf_certificate.specs.Tasks.{Task, task_at}
use Rattle.lf_certificate.proofs.DownLemmas.{raised-misses, down-tasks}
use Rattle.lf_certificate.proofs.FiledLemmas.{waits-deeper, filed-level, filed-others, filed-tasks}
use Rattle.lf_certificate.proofs.KeptLemmas.{IsAlike, alike_back, alike-tasks, alike-misses}
use Rattle.lf_certificate.proofs.PathLemmas.{cases_path}
use Rattle.lf_certificate.proofs.TaskLemmas.{some-one}

-- The order of sets goes on: what comes before a set comes before all that come after it
fault_total : IsTotalOrder fault_cmp
fault_total =
    then_total (on_total step_of nat_cmp_total)
    (then_total (on_total rank_of nat_cmp_total) (then_total (on_total node_of nat_cmp_total) (on_total receiver_of nat_cmp_total)))

set_total : IsTotalOrder set_cmp
set_total = then_total (on_total length nat_cmp_total) (lists_total fault_total)

less_from : (o : Ordering) → is_lt o ≡ true → o ≡ Less
less_from Less h = refl
less_from Equal h = cc
less_from Greater h = cc

set_trans : (f g h : List Parts) → set_is_before f g ≡ true → set_is_before g h ≡ true → set_is_before f h ≡ true
set_trans f g h a b = ap is_lt (set_total.trans f g h (less_from (set_cmp f g) a) (less_from (set_cmp g h) b))

not_before : (f g h : List Parts) → set_is_before g f ≡ true → set_is_before h f ≡ false → set_is_before h g ≡ false
not_before f g h before late = false_from_ne_true (set_is_before h g) (λ k. both_ways (set_is_before h f) late (set_trans h g f k before))

not_before_itself : (f : List Parts) → set_is_before f f ≡ false
not_before_itself f = false_from_ne_true (set_is_before f f) (set_not_itself f)

-- marks with the same sets that miss have the same first
misses_to : (at other : Marking) → ((p : List ℕ) → at p ≡ Some mark.Misses → other p ≡ Some mark.Misses)
    → ((p : List ℕ) → task_at at p ≡ task_at other p) → (faults : List Parts) → MissesAt at faults → MissesAt other faults
misses_to at other marks tasks faults m =
    record { path = m.path; task = m.task; misses = marks m.path m.misses; leads = sym (tasks m.path) ∙ m.leads; same = m.same }

first_by : (at other : Marking) → ((faults : List Parts) → MissesAt at faults → MissesAt other faults)
    → ((faults : List Parts) → MissesAt other faults → MissesAt at faults) → (answer : Option (List Parts)) → IsFirstMissing at answer
    → IsFirstMissing other answer
first_by at other to from None h = λ faults m. h faults (from faults m)
first_by at other to from (Some found) h = (to found h.0, λ faults m. h.1 faults (from faults m))

pub alike-first : (old new : State) → ((q : List ℕ) → IsAlike (old.marks q) (new.marks q)) → (answer : Option (List Parts))
    → IsFirstMissing old.marks answer → IsFirstMissing new.marks answer
alike-first old new alike =
    let back : (q : List ℕ) → IsAlike (new.marks q) (old.marks q) = λ q. alike_back (old.marks q) (new.marks q) (alike q) in
    first_by old.marks new.marks
    (misses_to old.marks new.marks (alike-misses old new alike) (alike-tasks old new alike))
    (misses_to new.marks old.marks (alike-misses new old back) (alike-tasks new old back))

-- at the beginning none misses
root_reaches : (p : List ℕ) → only_root p ≡ Some mark.Misses → ⊥
root_reaches [] h = let no : Some mark.Open ≡ Some mark.Misses = h in absurd cc
root_reaches (i ∷ p) h = let no : None ≡ Some mark.Misses = h in absurd cc

pub start-first : (s : State) → IsStart s → IsFirstMissing s.marks None
start-first s start = λ faults m. root_reaches m.path (sym (start.marks m.path) ∙ m.misses)

module _ {Local Note Fact : Type 0} (w : World Local Note Fact) (b : Bounds) (formula : Formula Fact) (most : ℕ) (old new : State)
    (closed : IsClosed w b formula most old) where
  -- going down
  pub down-first : GoesDown b most old new → (answer : Option (List Parts)) → IsFirstMissing old.marks answer → IsFirstMissing new.marks answer
  down-first e = first_by old.marks new.marks
      (misses_to old.marks new.marks (λ p is. e.marks p ∙ ap (option_map raised) is) (down-tasks w b formula most old new closed e))
      (misses_to new.marks old.marks (λ p is. raised-misses (old.marks p) (sym (e.marks p) ∙ is))
      (λ p. sym (down-tasks w b formula most old new closed e p)))

  -- a mark that is filed
  module _ (path : List ℕ) (ticket : ℕ) (task : Task) (m : Mark) (e : FilesMark path ticket task m old new) (shape : IsShape new.level new.marks) where
    others : (q : List ℕ) → length q ≤ old.level → q ≢ path → new.marks q ≡ old.marks q
    others = filed-others old new path ticket task m closed.shape e

    tasks : (q : List ℕ) → length q ≤ old.level → task_at old.marks q ≡ task_at new.marks q
    tasks = filed-tasks old new path ticket task m closed.shape e

    no_waiting : mark.Misses ≡ mark.Waiting → ⊥
    no_waiting e = absurd cc

    -- what missed misses
    misses_still : (faults : List Parts) → MissesAt old.marks faults → MissesAt new.marks faults
    misses_still faults x = elim (cases_lt old.level (length x.path)) [
      | inl deep ↦ absurd (no_waiting (waits-deeper old.level old.marks x.path mark.Misses closed.shape x.misses deep))
      | inr high ↦ record {
        path = x.path;
        task = x.task;
        misses = others x.path high (λ same.
            let no : Some mark.Misses ≡ Some (mark.Claimed ticket) = sym x.misses ∙ ap old.marks same ∙ e.claims.claimed in absurd cc) ∙ x.misses;
        leads = sym (tasks x.path high) ∙ x.leads;
        same = x.same;
      }
    ]

    -- and what misses did, or is what was filed
    misses_or : (faults : List Parts) → MissesAt new.marks faults → MissesAt old.marks faults ⊎ ((m ≡ mark.Misses) × (faults ≡ task.faults))
    misses_or faults x = elim (cases_lt old.level (length x.path)) [
      | inl deep ↦ absurd (no_waiting (waits-deeper new.level new.marks x.path mark.Misses shape x.misses (omega (arith, deep, e.keeps.level))))
      | inr high ↦
          let led : task_at old.marks x.path ≡ Some x.task = tasks x.path high ∙ x.leads in
          elim (cases_path x.path path) [
            | inr other ↦ inl (record {
              path = x.path;
              task = x.task;
              misses = sym (others x.path high other) ∙ x.misses;
              leads = led;
              same = x.same;
            })
            | inl same ↦
                let t_is : task ≡ x.task = some-one task x.task (sym e.claims.works ∙ ap (task_at old.marks) (sym same) ∙ led) in
                inr (some-one m mark.Misses (sym e.marks.is ∙ ap new.marks (sym same) ∙ x.misses), sym x.same ∙ ap (λ (t : Task). t.faults) (sym t_is))
          ]
    ]

    -- another mark than a miss leaves the first one first
    pub filed-first : (m ≢ mark.Misses) → (answer : Option (List Parts)) → IsFirstMissing old.marks answer → IsFirstMissing new.marks answer
    filed-first reached = first_by old.marks new.marks misses_still (λ faults x. elim (misses_or faults x) [
      | inl was ↦ was
      | inr here ↦ absurd (reached here.0)
    ])

    -- a miss is the first one, where none was before it,
    misses_here : m ≡ mark.Misses → MissesAt new.marks task.faults
    misses_here is = record {
      path = path;
      task = task;
      misses = e.marks.is ∙ ap (λ (k : Mark). Some k) is;
      leads = sym (tasks path (omega (arith, filed-level old new path ticket task m closed.shape e))) ∙ e.claims.works;
      same = refl;
    }

    pub missed-first : m ≡ mark.Misses → IsFirstMissing old.marks None → IsFirstMissing new.marks (Some task.faults)
    missed-first is none = (
      misses_here is,
      λ faults x. elim (misses_or faults x) [
        | inl was ↦ absurd (none faults was)
        | inr here ↦ subst (λ fs. set_is_before fs task.faults ≡ false) (sym here.1) (not_before_itself task.faults)
      ],
    )

    -- or where it comes before the first one so far,
    pub missed-before : (found : List Parts) → m ≡ mark.Misses → IsFirstMissing old.marks (Some found) → set_is_before task.faults found ≡ true
        → IsFirstMissing new.marks (Some task.faults)
    missed-before found is h before = (
      misses_here is,
      λ faults x. elim (misses_or faults x) [
        | inl was ↦ not_before found task.faults faults before (h.1 faults was)
        | inr here ↦ subst (λ fs. set_is_before fs task.faults ≡ false) (sym here.1) (not_before_itself task.faults)
      ],
    )

    -- and elsewhere that stays the first
    pub missed-after : (found : List Parts) → IsFirstMissing old.marks (Some found) → set_is_before task.faults found ≡ false
        → IsFirstMissing new.marks (Some found)
    missed-after found h after = (
      misses_still found h.0,
      λ faults x. elim (misses_or faults x) [
        | inl was ↦ h.1 faults was
        | inr here ↦ subst (λ fs. set_is_before fs found ≡ false) (sym here.1) after
      ],
    )
