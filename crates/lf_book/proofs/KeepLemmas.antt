-- What is answered stays.
use Rattle.std.proofs.Common.{◌≡◌, ℕ, ◌<◌, List, refl, sym, ap, ◌∙◌, subst, arith}
use Rattle.std.specs.Prelude.{Some, IsSome}
use Rattle.std.specs.Option.{option_map}
use mathlib.Core.Logic.{∥∥₁_elim}
use Rattle.lf_book.specs.Turns.{KeepsAnswers}
use Rattle.lf_book.specs.Books.{scenario_of, state_of, IsClosedFor, IsDeepened, IsFiled, IsTaken}
use Rattle.lf_book.specs.declared.book.Book.{Book}
use Rattle.lf_book.specs.declared.deepening.Deepened.{Deepened}
use Rattle.lf_book.specs.declared.deepening.Deepened.TheVariants as deepened
use Rattle.lf_book.specs.declared.taking.Taken.{Taken}
use Rattle.lf_book.specs.declared.taking.Taken.TheVariants as taken
use Rattle.lf_marks.specs.Answers.{mark_for}
use Rattle.lf_work.specs.declared.finding.Finding.{Finding}
use Rattle.lf_marks.specs.Steps.{Mark, Marking, IsAnswer, IsSame, IsShape, Took, Answered, Reclaimed, WentDown, kid_of, kids_beneath, freed, raised}
use Rattle.lf_marks.specs.Steps as mark

pub keeps_on : (old mid new : Marking) → KeepsAnswers old mid → KeepsAnswers mid new → KeepsAnswers old new
keeps_on old mid new h k p m is stands = k p m is (h p m is stands)

pub same_keeps : (old new : Marking) → IsSame old new → KeepsAnswers old new
same_keeps old new same p m is stands = same p ∙ stands

-- what is open or claimed isn't answered
not_open : (m : Mark) → IsAnswer m → Some mark.Open ≡ Some m → ⊥
not_open m is same = let e : m ≡ mark.Open = cc in subst IsAnswer e is

not_claimed : (m : Mark) (t : ℕ) → IsAnswer m → Some (mark.Claimed t) ≡ Some m → ⊥
not_claimed m t is same = let e : m ≡ mark.Claimed t = cc in subst IsAnswer e is

took_keeps : (old new : Marking) (p : List ℕ) (t : ℕ) → Took p t old new → KeepsAnswers old new
took_keeps old new p t s q m is stands = s.others q (λ same. not_open m is (sym s.was ∙ ap old (sym same) ∙ stands)) ∙ stands

-- nothing stands beneath a claimed set
module _ (level : ℕ) (at : Marking) (p : List ℕ) (t : ℕ) (shape : IsShape level at) (claimed : at p ≡ Some (mark.Claimed t)) where
  no_kids : (n : Mark) (i : ℕ) → Some (mark.Claimed t) ≡ Some n → i < kids_beneath n → ⊥
  no_kids n i e few = let same : n ≡ mark.Claimed t = cc in let none : i < 0 = subst (λ x. i < kids_beneath x) same few in omega (arith, none)

  bare : (i : ℕ) (n : Mark) → at (kid_of p i) ≡ Some n → ⊥
  bare i n stands = let parent = shape.parents p i (subst IsSome (sym stands) refl) in no_kids parent.0 i (sym claimed ∙ parent.1) parent.2

answered_keeps : (old new : Marking) (p : List ℕ) (t : ℕ) (m : Mark) → Answered p t m old new
    → ((i : ℕ) (n : Mark) → old (kid_of p i) ≡ Some n → ⊥) → KeepsAnswers old new
answered_keeps old new p t m s none q n is stands =
    s.others q (λ same. not_claimed n t is (sym s.was ∙ ap old (sym same) ∙ stands)) (λ i few same. none i n (ap old (sym same) ∙ stands))
    ∙ stands

freed_answer : (m : Mark) → IsAnswer m → freed m ≡ m
freed_answer mark.Waiting is = absurd is
freed_answer mark.Open is = absurd is
freed_answer (mark.Claimed t) is = absurd is
freed_answer mark.Misses is = refl
freed_answer mark.Reaches is = refl
freed_answer (mark.Branch reach edges) is = refl

pub reclaimed_keeps : (old new : Marking) → Reclaimed old new → KeepsAnswers old new
reclaimed_keeps old new step p m is stands = step p ∙ ap (option_map freed) stands ∙ ap (λ (x : Mark). Some x) (freed_answer m is)

raised_answer : (m : Mark) → IsAnswer m → raised m ≡ m
raised_answer mark.Waiting is = absurd is
raised_answer mark.Open is = absurd is
raised_answer (mark.Claimed t) is = absurd is
raised_answer mark.Misses is = refl
raised_answer mark.Reaches is = refl
raised_answer (mark.Branch reach edges) is = refl

down_keeps : (old new : Marking) → WentDown old new → KeepsAnswers old new
down_keeps old new step p m is stands = step p ∙ ap (option_map raised) stands ∙ ap (λ (x : Mark). Some x) (raised_answer m is)

-- in the calls of a book
pub taken_keeps : (old new : Book) (t : Taken) → IsTaken old new t → KeepsAnswers (state_of old).marks (state_of new).marks
taken_keeps old new (taken.Job job) is = took_keeps (state_of old).marks (state_of new).marks job.path.items job.ticket is.1.marks
taken_keeps old new taken.Busy is = same_keeps (state_of old).marks (state_of new).marks is.same.marks
taken_keeps old new taken.LevelDone is = same_keeps (state_of old).marks (state_of new).marks is.same.marks
taken_keeps old new taken.Finished is = same_keeps (state_of old).marks (state_of new).marks is.same.marks
taken_keeps old new taken.Spent is = same_keeps (state_of old).marks (state_of new).marks is.same.marks

pub filed_keeps : (old new : Book) (finding : Finding) → ∥ IsClosedFor (scenario_of old) (state_of old) ∥₁ → IsFiled finding old new
    → KeepsAnswers (state_of old).marks (state_of new).marks
filed_keeps old new finding closed filed =
    let path = finding.job.path.items in
    let t = finding.job.ticket in
    answered_keeps (state_of old).marks (state_of new).marks path t (mark_for finding.answer) filed.marks (λ i n stands.
    ∥∥₁_elim closed (λ x y. absurd x) (λ k. bare (state_of old).level (state_of old).marks path t k.shape filed.claims.claimed i n stands))

pub deepened_keeps : (old new : Book) (d : Deepened) → IsDeepened old new d → KeepsAnswers (state_of old).marks (state_of new).marks
deepened_keeps old new deepened.NotDone is = same_keeps (state_of old).marks (state_of new).marks is.same.marks
deepened_keeps old new deepened.Answer is = same_keeps (state_of old).marks (state_of new).marks is.ends.marks
deepened_keeps old new deepened.NoneWithin is = same_keeps (state_of old).marks (state_of new).marks is.ends.marks
deepened_keeps old new (deepened.Full count) is = same_keeps (state_of old).marks (state_of new).marks is.same.marks
deepened_keeps old new deepened.Down is = down_keeps (state_of old).marks (state_of new).marks is.marks
