-- States of a book, and what events make of them.
use Rattle.std.proofs.Common.{◌≡◌, ℕ, ◌+◌, ◌<◌, ◌≤◌, refl, sym, ap, ◌∙◌, subst, arith, Bool, List, inl, inr, true, false, IsSome, is_some}
use Rattle.std.specs.Prelude.{◌⊎◌, Option, None, Some}
use Rattle.std.proofs.Math.Bool.{Bool-set}
use Rattle.std.proofs.Math.Nat.{ℕ_set}
use Rattle.std.proofs.Math.Path.{fun_ext}
use Rattle.std.specs.Coded.{le_prop}
use mathlib.Core.HLevel.{Σ_prop_path}
use mathlib.Core.List.{is_set}
use mathlib.Core.Logic.{∥∥₁_elim, ∥∥₁_map, ∥∥₁_prop}
use Rattle.lf_faults.specs.declared.fault.Parts.{Parts}
use Rattle.lf_faults.specs.declared.spec.Bounds.{Bounds}
use Rattle.lf_faults.proofs.Laws.{allowed_or_not}
use Rattle.lf_sim.specs.Runs.{World}
use Rattle.lf_outcome.specs.declared.formula.Formula.{Formula}
use Rattle.lf_certificate.specs.Accepted.{IsBounded, IsAnswer}
use Rattle.lf_marks.specs.Counting.{IsCount, AreCounts}
use Rattle.lf_marks.specs.Steps.{Mark, Marking, IsShape, IsSame, Took, GaveBack, IsMarked, IsUnmarked}
use Rattle.lf_marks.specs.Steps as mark
use Rattle.lf_marks.proofs.Laws.{none-ready, none-claimed}
use Rattle.lf_certificate.specs.Closed.{IsClosed, IsFirstMissing, MissesAt}
use Rattle.lf_certificate.specs.Events.{TakesSet, IsDone, FindsFull}
use Rattle.lf_certificate.specs.Levels.{IsFullAt}
use Rattle.lf_certificate.specs.States.{State, IsSameState, last_ticket}
use Rattle.lf_certificate.specs.Tasks.{Task, task_at}
use Rattle.lf_certificate.proofs.Laws.{take_closed, take_first, task_stands, stands_once, finds_answer, finds_full}
use Rattle.lf_book.specs.Books.{state_of}
use Rattle.lf_book.specs.declared.book.Book.{Book}
use Rattle.lf_book.proofs.CountLemmas.{count-most}

-- a state in which nothing changed is the same
abbrev make : ℕ → ℕ → Bool → Marking → State
make level next finished marks = record { level = level; next = next; finished = finished; marks = marks }

pub state-one : (old new : State) → IsSameState old new → new ≡ old
state-one old new same =
    let marks : new.marks ≡ old.marks = fun_ext (λ q. same.marks q) in
    let by-level : make new.level new.next new.finished new.marks ≡ make old.level new.next new.finished new.marks =
    ap (λ (x : ℕ). make x new.next new.finished new.marks) same.level in
    let by-next : make old.level new.next new.finished new.marks ≡ make old.level old.next new.finished new.marks =
    ap (λ (x : ℕ). make old.level x new.finished new.marks) same.next in
    let by-end : make old.level old.next new.finished new.marks ≡ make old.level old.next old.finished new.marks =
    ap (λ (x : Bool). make old.level old.next x new.marks) same.finished in
    let by-marks : make old.level old.next old.finished new.marks ≡ make old.level old.next old.finished old.marks =
    ap (λ (x : Marking). make old.level old.next old.finished x) marks in
    by-level ∙ by-next ∙ by-end ∙ by-marks

-- as the book that is the same shows it
pub same-book : (old new : Book) → new ≡ old → IsSameState (state_of old) (state_of new)
same-book old new is =
    let e : state_of new ≡ state_of old = ap state_of is in record {
      level = ap (λ (s : State). s.level) e;
      next = ap (λ (s : State). s.next) e;
      finished = ap (λ (s : State). s.finished) e;
      marks = λ q. ap (λ (s : State). s.marks q) e;
    }

is-there : (o : Option Mark) (m : Mark) → o ≡ Some m → IsSome o
is-there o m h = ap is_some h

-- where no open set and no claim is counted, each set of the level is answered
pub all-done : (at : Marking) (r c a w : ℕ) → r ≤ 0 → c ≤ 0 → AreCounts at r c a w → IsDone at
all-done at r c a w no-open no-claim k =
    let opened : r ≡ 0 = omega (arith, no-open) in
    let claimed : c ≡ 0 = omega (arith, no-claim) in record {
      none = none-ready at c a w (subst (λ n. AreCounts at n c a w) opened k);
      free = none-claimed at r a w (subst (λ n. AreCounts at r n a w) claimed k);
    }

pub none-open : (at : Marking) (r c a w : ℕ) → r ≤ 0 → AreCounts at r c a w → IsUnmarked at mark.Open
none-open at r c a w no-open k =
    let opened : r ≡ 0 = omega (arith, no-open) in
    none-ready at c a w (subst (λ n. AreCounts at n c a w) opened k)

-- where so many wait, no count of them is larger than what these are at most
pub few-waiting : (at : Marking) (r c a w most : ℕ) → AreCounts at r c a w → w ≤ most → (n : ℕ) → IsCount (λ p. at p ≡ Some mark.Waiting) n → n ≤ most
few-waiting at r c a w most k few n counted = omega (arith, count-most (λ p. at p ≡ Some mark.Waiting) n w counted k.waiting, few)

module _ {Local Note Fact : Type 0} (w : World Local Note Fact) (b : Bounds) (formula : Formula Fact) (most : ℕ) (old new : State)
    (mere : ∥ IsClosed w b formula most old ∥₁) where
  -- where nothing changed, the state is closed as before, with the same first set that misses
  pub same-closed : IsSameState old new → ∥ IsClosed w b formula most new ∥₁
  same-closed same = subst (λ (s : State). ∥ IsClosed w b formula most s ∥₁) (sym (state-one old new same)) mere

  pub same-missing : IsSameState old new → (answer : Option (List Parts)) → ∥ IsFirstMissing old.marks answer ∥₁ → ∥ IsFirstMissing new.marks answer ∥₁
  same-missing same answer first = subst (λ (s : State). ∥ IsFirstMissing s.marks answer ∥₁) (sym (state-one old new same)) first

  -- a ticket that was given comes before the next
  pub ticket-before : (p : List ℕ) (t : ℕ) → old.marks p ≡ Some (mark.Claimed t) → t < old.next
  ticket-before p t h = ∥∥₁_elim mere (hlevel le_prop) (λ closed. closed.tickets p t h)

  pub level-within : old.level ≤ b.budget
  level-within = ∥∥₁_elim mere le_prop (λ closed. closed.within)

  -- an open set was claimed by the next ticket
  module _ (path : List ℕ) (going : old.finished ≡ false) (room : old.next < last_ticket) (took : Took path old.next old.marks new.marks)
      (next : new.next ≡ old.next + 1) (level : new.level ≡ old.level) (finished : new.finished ≡ old.finished) where
    pub takes : (task : Task) → task_at old.marks path ≡ Some task → TakesSet path old.next task old new
    takes task works = record {
      going = going;
      room = room;
      fresh = refl;
      works = works;
      marks = took;
      next = next;
      level = level;
      finished = finished;
    }

    pub claimed-closed : IsShape new.level new.marks → ∥ IsClosed w b formula most new ∥₁
    claimed-closed shape = ∥∥₁_map mere (λ closed.
        let t = task_stands w b formula most old closed path (is-there (old.marks path) mark.Open took.was) in
        take_closed w b formula most old new path old.next t.0 closed (takes t.0 t.1) shape)

    pub claimed-missing : (answer : Option (List Parts)) → ∥ IsFirstMissing old.marks answer ∥₁ → ∥ IsFirstMissing new.marks answer ∥₁
    claimed-missing answer first = ∥∥₁_elim mere ∥∥₁_prop (λ closed. ∥∥₁_map first (λ f.
        let t = task_stands w b formula most old closed path (is-there (old.marks path) mark.Open took.was) in
        take_first path old.next t.0 old new (takes t.0 t.1) answer f))

module _ {Local Note Fact : Type 0} (w : World Local Note Fact) (b : Bounds) (formula : Formula Fact) (most : ℕ) (s : State)
    (mere : ∥ IsClosed w b formula most s ∥₁) where
  -- where no set is the first that misses, none misses
  none_by : (answer : Option (List Parts)) → is_some answer ≡ false → IsFirstMissing s.marks answer → (faults : List Parts) → MissesAt s.marks faults → ⊥
  none_by None none first = first
  none_by (Some found) none first = absurd cc

  pub none-misses : (answer : Option (List Parts)) → ∥ IsFirstMissing s.marks answer ∥₁ → is_some answer ≡ false → IsUnmarked s.marks mark.Misses
  none-misses answer first none p misses = ∥∥₁_elim mere (λ x y. absurd x) (λ closed. ∥∥₁_elim first (λ x y. absurd x) (λ f.
      let t = task_stands w b formula most s closed p (is-there (s.marks p) mark.Misses misses) in
      none_by answer none f t.0.faults (record { path = p; task = t.0; misses = misses; leads = t.1; same = refl })))

  -- where a set is the first that misses, there is one path to it
  IsHere : List Parts → List ℕ → Type 0
  IsHere found p = (t : Task) × (s.marks p ≡ Some mark.Misses) × (task_at s.marks p ≡ Some t) × (t.faults ≡ found)

  here-one : (found : List Parts) (p q : List ℕ) → ∥ IsHere found p ∥₁ → ∥ IsHere found q ∥₁ → p ≡ q
  unfolding IsHere
  here-one found p q x y = ∥∥₁_elim mere (is_set ℕ_set p q) (λ closed. ∥∥₁_elim x (is_set ℕ_set p q) (λ h. ∥∥₁_elim y (is_set ℕ_set p q) (λ k.
      stands_once w b formula most s p q h.0 k.0 closed (is-there (s.marks p) mark.Misses h.1) (is-there (s.marks q) mark.Misses k.1) h.2 k.2
      (h.3 ∙ sym k.3))))

  place-prop : (found : List Parts) → IsProp ((p : List ℕ) × ∥ IsHere found p ∥₁)
  place-prop found x y = Σ_prop_path (λ p. ∥∥₁_prop) (here-one found x.0 y.0 x.1 y.1)

  misses_or_not : (o : Option Mark) → (o ≡ Some mark.Misses) ⊎ (o ≡ Some mark.Misses → ⊥)
  misses_or_not None = inr (λ e. cc)
  misses_or_not (Some mark.Waiting) = inr (λ e. cc)
  misses_or_not (Some mark.Open) = inr (λ e. cc)
  misses_or_not (Some (mark.Claimed t)) = inr (λ e. cc)
  misses_or_not (Some mark.Misses) = inl refl
  misses_or_not (Some mark.Reaches) = inr (λ e. cc)
  misses_or_not (Some (mark.Branch reach edges)) = inr (λ e. cc)

  marked_by : (found : List Parts) → ∥ MissesAt s.marks found ∥₁ → IsMarked s.marks mark.Misses
  unfolding IsHere
  marked_by found first =
      let place : (p : List ℕ) × ∥ IsHere found p ∥₁ =
      ∥∥₁_elim first (place-prop found) (λ f. (f.path, ∣ (f.task, f.misses, f.leads, f.same) ∣₁)) in (
        place.0,
        elim (misses_or_not (s.marks place.0)) [
          | inl misses ↦ misses
          | inr not ↦ absurd (∥∥₁_elim place.1 (λ x y. absurd x) (λ h. not h.1))
        ],
      )

  first_is : (answer : Option (List Parts)) → ∥ IsFirstMissing s.marks answer ∥₁ → is_some answer ≡ true → IsMarked s.marks mark.Misses
  first_is None first some = absurd cc
  first_is (Some found) first some = marked_by found (∥∥₁_map first (λ f. f.0))

  pub some-misses : (answer : Option (List Parts)) → ∥ IsFirstMissing s.marks answer ∥₁ → is_some answer ≡ true → IsMarked s.marks mark.Misses
  some-misses = first_is

  -- the answer of an ended search
  answer_by : (answer : Option (List Parts)) → ∥ IsAnswer w b formula answer ∥₁ → IsAnswer w b formula answer
  answer_by None mere = λ other allowed. ∥∥₁_elim mere (hlevel Bool-set) (λ h. h other allowed)
  answer_by (Some found) mere = (
    elim (allowed_or_not b found) [ inl allowed ↦ allowed | inr never ↦ absurd (∥∥₁_elim mere (λ x y. absurd x) (λ h. never h.0)) ],
    ∥∥₁_elim mere (hlevel Bool-set) (λ h. h.1),
    λ other allowed misses. ∥∥₁_elim mere (hlevel Bool-set) (λ h. h.2 other allowed misses),
  )

  pub answer-again : IsBounded w b → s.finished ≡ true → (answer : Option (List Parts)) → ∥ IsFirstMissing s.marks answer ∥₁ → IsAnswer w b formula answer
  answer-again bounded finished answer first = answer_by answer (∥∥₁_elim mere ∥∥₁_prop (λ closed. ∥∥₁_map first (λ f.
      finds_answer w b formula most s bounded closed finished answer f)))

  -- where the next level has more sets than may be kept, it is the first such level, and all smaller sets reach
  pub full-again : IsBounded w b → (count : ℕ) (new : State) → FindsFull b most count s new → IsFullAt w b formula most (s.level + 1) count
  full-again bounded count new full =
      let shows = λ (closed : IsClosed w b formula most s). finds_full w b formula most s bounded closed count new full in
      record {
        within = ∥∥₁_elim mere le_prop (λ closed. (shows closed).within);
        size = ∥∥₁_elim mere ∥∥₁_prop (λ closed. (shows closed).size);
        many = full.many;
        fits = λ j n low sized. ∥∥₁_elim mere le_prop (λ closed. (shows closed).fits j n low sized);
        reaching = λ faults allowed few. ∥∥₁_elim mere (hlevel Bool-set) (λ closed. (shows closed).reaching faults allowed few);
      }
