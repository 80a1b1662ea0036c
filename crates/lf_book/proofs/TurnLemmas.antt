-- What each turn of a search by one thread keeps.
use mathlib.Core.Logic.{∥∥₁_elim, ∥∥₁_map, ∥∥₁_prop}
use Rattle.std.proofs.Common.{◌≡◌, ◌≢◌, ℕ, ◌<◌, ◌≤◌, List, [], ◌∷◌, length, refl, sym, ap, ◌∙◌, inl, inr, arith}
use Rattle.std.specs.Prelude.{◌⊎◌, Option, None, Some}
use Rattle.std.specs.Option.{option_map}
use Rattle.std.specs.Coded.{le_prop}
use Rattle.std.specs.List.{Contains}
use Rattle.lf_list.proofs.Laws.{Contains-first}
use Rattle.lf_faults.specs.declared.spec.Bounds.{Bounds}
use Rattle.lf_marks.specs.Answers.{mark_for}
use Rattle.lf_marks.specs.Counting.{AreThose, IsCount}
use Rattle.lf_marks.specs.Steps.{Mark, Marking, IsUnmarked, Answered, Reclaimed, WentDown, kids_beneath, kid_of, only_root, freed, raised}
use Rattle.lf_marks.specs.Steps as mark
use Rattle.lf_marks.specs.declared.grown.Answer.{Answer}
use Rattle.lf_marks.specs.declared.grown.Answer.TheVariants as answers
use Rattle.lf_outcome.specs.Limits.{most_sets}
use Rattle.lf_certificate.specs.Events.{FindsSpent, TakesSet, FilesMark, GoesDown, IsUnclaimed, Reclaims}
use Rattle.lf_certificate.specs.States.{State, IsStart}
use Rattle.lf_certificate.specs.Tasks.{Task}
use Rattle.lf_book.specs.Turns.{HasTickets, IsNextTurn, IsUnderway, IsWorked}
use Rattle.lf_book.specs.declared.ending.Worked.{Worked}
use Rattle.lf_book.specs.declared.ending.Worked.TheVariants as worked
use Rattle.lf_book.proofs.CountedLemmas.{without}

-- at the beginning the empty set alone is open
root_open : (p : List ℕ) → only_root p ≡ Some mark.Open → Contains ([] ∷ []) p
root_open [] is = Contains-first [] []
root_open (i ∷ path) is = let never : None ≡ Some mark.Open = is in cc

root_unclaimed : (p : List ℕ) (t : ℕ) → only_root p ≡ Some (mark.Claimed t) → ⊥
root_unclaimed [] t is = let never : Some mark.Open ≡ Some (mark.Claimed t) = is in cc
root_unclaimed (i ∷ path) t is = let never : None ≡ Some (mark.Claimed t) = is in cc

pub started : (s : State) → IsStart s → IsUnderway s
started s start = record {
  going = start.finished;
  free = λ t p is. root_unclaimed p t (sym (start.marks p) ∙ is);
  high = omega (arith, start.level);
  tickets = ∣ record {
    paths = [] ∷ [];
    ready = λ p is. root_open p (sym (start.marks p) ∙ is);
    few = omega (arith, start.level, start.next);
  } ∣₁;
}

-- a search that has not begun is as it was once its claims are open again
freed_root : (p : List ℕ) → option_map freed (only_root p) ≡ only_root p
freed_root [] = refl
freed_root (i ∷ path) = refl

pub reclaimed_start : (old new : State) → IsStart old → Reclaims old new → IsUnderway new
reclaimed_start old new start step = started new (record {
  level = step.keeps.level ∙ start.level;
  next = step.keeps.next ∙ start.next;
  finished = step.keeps.finished ∙ start.finished;
  marks = λ p. step.marks p ∙ ap (option_map freed) (start.marks p) ∙ freed_root p;
})

-- there is a ticket for the next set
pub has_ticket : (s : State) → IsUnderway s → s.next ≤ 7000001
has_ticket s u = ∥∥₁_elim u.tickets le_prop (λ t. omega (arith, t.few, u.high))

-- where a level isn't worked to its end, there is none
pub spent_of : (old new : State) (w : Worked) → (w ≡ worked.Done → ⊥) → IsWorked old new w → FindsSpent new new
spent_of old new worked.Done other is = absurd (other refl)
spent_of old new worked.Spent other is = is

-- an answer leaves a set neither open nor claimed
pub not_open : (a : Answer) → mark_for a ≡ mark.Open → ⊥
not_open answers.Misses is = let never : mark.Misses ≡ mark.Open = is in cc
not_open answers.Reaches is = let never : mark.Reaches ≡ mark.Open = is in cc
not_open (answers.Branch g) is = let never : mark_for (answers.Branch g) ≡ mark.Open = is in cc

pub not_claimed : (a : Answer) (t : ℕ) → mark_for a ≡ mark.Claimed t → ⊥
not_claimed answers.Misses t is = let never : mark.Misses ≡ mark.Claimed t = is in cc
not_claimed answers.Reaches t is = let never : mark.Reaches ≡ mark.Claimed t = is in cc
not_claimed (answers.Branch g) t is = let never : mark_for (answers.Branch g) ≡ mark.Claimed t = is in cc

-- a set is taken, and what was found of it is filed
module _ (old mid new : State) (path : List ℕ) (ticket : ℕ) (task other : Task) (m : Mark) (took : TakesSet path ticket task old mid)
    (filed : FilesMark path ticket other m mid new) where
  -- what has another mark than the one that was filed, and doesn't wait, had it before
  had : (q : List ℕ) (n : Mark) → m ≢ n → mark.Waiting ≢ n → new.marks q ≡ Some n → (q ≢ path) × (old.marks q ≡ Some n)
  had q n differs waits is =
      let apart : q ≢ path = λ same. differs (let both : Some m ≡ Some n = sym filed.marks.is ∙ ap new.marks (sym same) ∙ is in cc) in
      let unlike : (i : ℕ) → i < kids_beneath m → q ≢ kid_of path i =
      λ i within same. waits (let both : Some mark.Waiting ≡ Some n = sym (filed.marks.kids i within) ∙ ap new.marks (sym same) ∙ is in cc) in
      (apart, sym (took.marks.others q apart) ∙ sym (filed.marks.others q apart unlike) ∙ is)

  module _ (unready : m ≢ mark.Open) (unclaimed : (t : ℕ) → m ≢ mark.Claimed t) where
    still_free : IsUnclaimed old.marks → IsUnclaimed new.marks
    still_free free t p is = free t p (had p (mark.Claimed t) (unclaimed t) (λ e. cc) is).1

    pub turned : IsUnclaimed old.marks → IsNextTurn old new
    turned free = record {
      level = filed.keeps.level ∙ took.level;
      room = took.room;
      next = filed.keeps.next ∙ took.next;
      free = still_free free;
    }

    tickets_left : HasTickets old → HasTickets new
    tickets_left t =
        let r = without t.paths path (t.ready path took.marks.was) in
        record {
          paths = r.rest;
          ready = λ p is.
              let before = had p mark.Open unready (λ e. cc) is in
              elim (r.kept p (t.ready p before.1)) [ inl same ↦ absurd (before.0 same) | inr kept ↦ kept ];
          few = omega (arith, t.few, r.count, filed.keeps.level, took.level, filed.keeps.next, took.next);
        }

    pub goes_on : IsUnderway old → IsUnderway new
    goes_on u = record {
      going = filed.keeps.finished ∙ took.finished ∙ u.going;
      free = still_free u.free;
      high = omega (arith, filed.keeps.level, took.level, u.high);
      tickets = ∥∥₁_map u.tickets tickets_left;
    }

-- the search goes down a level
raised_open : (o : Option Mark) → option_map raised o ≡ Some mark.Open → (o ≡ Some mark.Waiting) ⊎ (o ≡ Some mark.Open)
raised_open None is = let never : None ≡ Some mark.Open = is in cc
raised_open (Some mark.Waiting) is = inl refl
raised_open (Some mark.Open) is = inr refl
raised_open (Some (mark.Claimed t)) is = let never : Some (mark.Claimed t) ≡ Some mark.Open = is in cc
raised_open (Some mark.Misses) is = let never : Some mark.Misses ≡ Some mark.Open = is in cc
raised_open (Some mark.Reaches) is = let never : Some mark.Reaches ≡ Some mark.Open = is in cc
raised_open (Some (mark.Branch reach edges)) is = let never : Some (mark.Branch reach edges) ≡ Some mark.Open = is in cc

raised_claimed : (o : Option Mark) (t : ℕ) → option_map raised o ≡ Some (mark.Claimed t) → o ≡ Some (mark.Claimed t)
raised_claimed None t is = let never : None ≡ Some (mark.Claimed t) = is in cc
raised_claimed (Some mark.Waiting) t is = let never : Some mark.Open ≡ Some (mark.Claimed t) = is in cc
raised_claimed (Some mark.Open) t is = let never : Some mark.Open ≡ Some (mark.Claimed t) = is in cc
raised_claimed (Some (mark.Claimed u)) t is = is
raised_claimed (Some mark.Misses) t is = let never : Some mark.Misses ≡ Some (mark.Claimed t) = is in cc
raised_claimed (Some mark.Reaches) t is = let never : Some mark.Reaches ≡ Some (mark.Claimed t) = is in cc
raised_claimed (Some (mark.Branch reach edges)) t is = let never : Some (mark.Branch reach edges) ≡ Some (mark.Claimed t) = is in cc

module _ (b : Bounds) (most : ℕ) (old new : State) (n : ℕ) (kept : most ≤ most_sets) (small : b.budget ≤ 6) (down : GoesDown b most old new) where
  freely : IsUnclaimed new.marks
  freely t p is = down.done.free t p (raised_claimed (old.marks p) t (sym (down.marks p) ∙ is))

  lower : new.level ≤ 6
  lower = omega (arith, down.level, down.above, small)

  opened : (ps : List (List ℕ)) → AreThose (λ p. old.marks p ≡ Some mark.Waiting) ps → n ≤ most → length ps ≡ n → HasTickets old → HasTickets new
  opened ps those waiting long t = record {
    paths = ps;
    ready = λ p is. elim (raised_open (old.marks p) (sym (down.marks p) ∙ is)) [
      | inl waited ↦ those.all p waited
      | inr was ↦ absurd (down.done.none p was)
    ];
    few = omega (arith, t.few, long, waiting, kept, down.level, down.next);
  }

  pub gone_down : IsCount (λ p. old.marks p ≡ Some mark.Waiting) n → IsUnderway old → IsUnderway new
  gone_down counted u = record {
    going = down.finished ∙ u.going;
    free = freely;
    high = lower;
    tickets = ∥∥₁_elim u.tickets ∥∥₁_prop (λ t. ∥∥₁_map counted (λ l. opened l.0 l.1 (down.few n counted) l.2 t));
  }
