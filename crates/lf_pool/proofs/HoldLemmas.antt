-- What the holds of the lock leave of the number of answered sets.
use mathlib.Core.Logic.{∥∥₁_elim, ∥∥₁_prop}
use Rattle.std.proofs.Common.{◌≡◌, ℕ, ◌+◌, refl, sym, ap, ◌∙◌, subst, arith, true, false, Bool, List, [], ◌∷◌, ◌++◌, inl, inr}
use Rattle.std.specs.Arc.{arc_value}
use Rattle.std.proofs.lemmas.List.{append_assoc}
use Rattle.std.specs.Prelude.{Option, Some, Result, Ok, Err, IfOk, IfErr, OnOk, OnErr, MatchBool, is_err}
use Rattle.lf_marks.specs.Steps.{IsAnswer}
use Rattle.lf_marks.specs.Answers.{mark_for}
use Rattle.lf_marks.specs.Counting.{OfKind}
use Rattle.lf_marks.specs.declared.grown.Answer.{Answer}
use Rattle.lf_marks.specs.declared.grown.Answer.TheVariants.{Misses, Reaches, Branch}
use Rattle.lf_book.specs.Books.{scenario_of, state_of, task_of_finding, IsClosedFor, IsRefusedFor, IfNoJob, IsTaken, IsDeepened, IsFiled, IsGivenBack}
use Rattle.lf_book.specs.declared.book.Book.{Book}
use Rattle.lf_book.specs.declared.taking.Taken.{Taken}
use Rattle.lf_book.specs.declared.taking.Taken.TheVariants as taken
use Rattle.lf_book.proofs.Laws.{never_refused, count_one}
use Rattle.lf_book.specs.declared.filing.Refusal.{Refusal}
use Rattle.lf_book.specs.declared.deepening.Deepened.{Deepened}
use Rattle.lf_book.specs.declared.deepening.Deepened.TheVariants as deepened
use Rattle.lf_work.specs.declared.finding.Finding.{Finding}
use Rattle.lf_work.specs.declared.job.Job.{Job}
use Rattle.lf_pool.specs.declared.locked.hand.Claim.{Claim}
use Rattle.lf_pool.specs.declared.locked.hand.Found.{Found}
use Rattle.lf_pool.specs.Holds.{AreFiled, AreGivenBack, AreTaken, IsAnsweredCount, IsBegun, IsBusy, IsFindingClaimed, IsJobClaimed, WasBegun}
use Rattle.lf_pool.specs.declared.locked.Begun.{Begun}
use Rattle.lf_outcome.specs.declared.scenario.Scenario.{Scenario}
use Rattle.lf_pool.proofs.CountLemmas.{same-counted, took-counted, back-counted, down-counted, filed-counted}

-- a take answers no set,
pub taken-counted : (old new : Book) (t : Taken) (n : ℕ) → IsTaken old new t → IsAnsweredCount old n → IsAnsweredCount new n
taken-counted old new (taken.Job job) n e = took-counted (state_of old).marks (state_of new).marks job.path.items job.ticket n e.1.marks
taken-counted old new taken.Busy n e = same-counted (state_of old).marks (state_of new).marks n e.same.marks
taken-counted old new taken.LevelDone n e = same-counted (state_of old).marks (state_of new).marks n e.same.marks
taken-counted old new taken.Finished n e = same-counted (state_of old).marks (state_of new).marks n e.same.marks
taken-counted old new taken.Spent n e = same-counted (state_of old).marks (state_of new).marks n e.same.marks

-- nor does a deepen,
pub deepened-counted : (old new : Book) (d : Deepened) (n : ℕ) → IsDeepened old new d → IsAnsweredCount old n → IsAnsweredCount new n
deepened-counted old new deepened.NotDone n e = same-counted (state_of old).marks (state_of new).marks n e.same.marks
deepened-counted old new deepened.Answer n e = same-counted (state_of old).marks (state_of new).marks n e.ends.marks
deepened-counted old new deepened.NoneWithin n e = same-counted (state_of old).marks (state_of new).marks n e.ends.marks
deepened-counted old new (deepened.Full count) n e = same-counted (state_of old).marks (state_of new).marks n e.same.marks
deepened-counted old new deepened.Down n e = down-counted (state_of old).marks (state_of new).marks n e.marks

-- or a job that is given back
pub given-counted : (old new : Book) (job : Job) (n : ℕ) → IsGivenBack job old new → IsAnsweredCount old n → IsAnsweredCount new n
given-counted old new job n e = back-counted (state_of old).marks (state_of new).marks job.path.items job.ticket n e.marks

answer_is : (a : Answer) → IsAnswer (mark_for a)
answer_is Misses = tt
answer_is Reaches = tt
answer_is (Branch g) = tt

-- a book in which a take found all open sets worked is still such a book
pub still-busy : (old new : Book) (t : Taken) → t ≡ taken.Busy → IsTaken old new t → IfNoJob t (new ≡ old) → IsBusy new
still-busy old new t is h same =
    let busy : IsTaken old new taken.Busy = subst (λ (x : Taken). IsTaken old new x) is h in
    let stays : new ≡ old = subst (λ (x : Taken). IfNoJob x (new ≡ old)) is same in
    subst (λ (b : Book). IsTaken b new taken.Busy) (sym stays) busy

-- what is filed is one more
pub filed-counted-book : (old new : Book) (finding : Finding) (n : ℕ) → ∥ IsClosedFor (scenario_of old) (state_of old) ∥₁ → IsFiled finding old new
    → IsAnsweredCount old n → IsAnsweredCount new (n + 1)
filed-counted-book old new finding n closed e c = ∥∥₁_elim closed ∥∥₁_prop (λ k.
    filed-counted (state_of old).level (state_of old).marks (state_of new).marks finding.job.path.items finding.job.ticket (mark_for finding.answer)
    k.shape (answer_is finding.answer) e.marks n c)

-- what a result says of its cases
pub take-counted : {Failed : Type 0} (old new : Book) (r : Result Taken Failed) (n : ℕ) → IfOk r (IsTaken old new)
    → OnErr r (new ≡ old) → IsAnsweredCount old n → IsAnsweredCount new n
take-counted old new (Ok t) n taken err = taken-counted old new t n taken
take-counted old new (Err e) n taken err = subst (λ b. IsAnsweredCount b n) (sym err)

pub back-job-counted : {Done Back : Type 0} (old new : Book) (job : Job) (r : Result Done Back) (n : ℕ) → OnOk r (IsGivenBack job old new)
    → OnErr r (new ≡ old) → IsAnsweredCount old n → IsAnsweredCount new n
back-job-counted old new job (Ok t) n given err = given-counted old new job n given
back-job-counted old new job (Err e) n given err = subst (λ b. IsAnsweredCount b n) (sym err)

pub refused-counted : {Done Back : Type 0} (old new : Book) (r : Result Done Back) (n : ℕ) → is_err r ≡ true
    → OnErr r (new ≡ old) → IsAnsweredCount old n → IsAnsweredCount new n
refused-counted old new (Ok t) n failed err = absurd cc
refused-counted old new (Err e) n failed err = subst (λ b. IsAnsweredCount b n) (sym err)

pub file-counted : {Done Back : Type 0} (old new : Book) (finding : Finding) (r : Result Done Back) (n : ℕ) → is_err r ≡ false
    → OnOk r (IsFiled finding old new) → ∥ IsClosedFor (scenario_of old) (state_of old) ∥₁ → IsAnsweredCount old n → IsAnsweredCount new (n + 1)
file-counted old new finding (Ok t) n filed is closed c = filed-counted-book old new finding n closed is c
file-counted old new finding (Err e) n filed is closed c = absurd cc

-- what is refused is of no claim
pub refused-unclaimed : {Done : Type 0} (book : Book) (finding : Finding) (r : Result Done (Refusal × Finding)) → is_err r ≡ true
    → IfErr r (λ back. IsRefusedFor book finding.job.ticket (arc_value finding.job.scenario) finding.job.path.items (task_of_finding finding) back.0)
    → IsFindingClaimed book finding → ⊥
refused-unclaimed book finding (Ok done) failed refused claimed = absurd cc
refused-unclaimed book finding (Err back) failed refused claimed =
    never_refused book finding.job.ticket (arc_value finding.job.scenario) finding.job.path.items (task_of_finding finding) back.0 refused claimed

-- a book has one number of answered sets
pub answered-one : (book : Book) (n m : ℕ) → IsAnsweredCount book n → IsAnsweredCount book m → n ≡ m
answered-one book n m = count_one (λ p. OfKind IsAnswer ((state_of book).marks p)) n m

-- the last item is taken off a list
pub one-off : {A : Type 0} (whole old new done : List A) (x : A) → whole ≡ old ++ done → old ≡ new ++ x ∷ [] → whole ≡ new ++ x ∷ done
one-off whole old new done x h e = h ∙ ap (λ l. l ++ done) e ∙ append_assoc new (x ∷ []) done

-- one job more is taken,
pub taken-more : (jobs : List Claim) (job : Claim) (old mid new : Book) → AreTaken jobs old mid → IsTaken mid new (taken.Job job.job)
    → AreTaken (jobs ++ job ∷ []) old new
taken-more [] job old mid new h e = (new, subst (λ b. IsTaken b new (taken.Job job.job)) h e, refl)
taken-more (j ∷ jobs) job old mid new h e = (h.0, h.1, taken-more jobs job h.0 mid new h.2 e)

-- one finding more is filed or refused,
pub filed-more : (filed : Bool) (found : Found) (done : List Found) (n start was is : ℕ) (old mid new : Book) → AreFiled done n old mid
    → MatchBool filed (IsFiled found.finding mid new × (is ≡ was + 1)) ((¬ IsFindingClaimed mid found.finding) × (new ≡ mid) × (is ≡ was))
    → was ≡ start + n → (m : ℕ) × AreFiled (found ∷ done) m old new × (is ≡ start + m)
filed-more true found done n start was is old mid new h e same =
    (n + 1, (n, mid, h, inl (e.0, refl)), omega (arith, e.1, same))
filed-more false found done n start was is old mid new h e same =
    (n, (n, mid, h, inr (e.0, e.1, refl)), omega (arith, e.2, same))

-- and one job more is given back or has no claim
pub given-more : (given : Bool) (claim : Claim) (done : List Claim) (old mid new : Book) → AreGivenBack done old mid
    → MatchBool given (IsGivenBack claim.job mid new) ((¬ IsJobClaimed mid claim.job) × (new ≡ mid)) → AreGivenBack (claim ∷ done) old new
given-more true claim done old mid new h e = (mid, h, inl e)
given-more false claim done old mid new h e = (mid, h, inr e)

-- what a hold did to a book of the scenario
pub was-begun : {Failed : Type 0} (o : Option Scenario) (old new : Book) (r : Result Begun Failed) → o ≡ Some (scenario_of old)
    → IfOk r (IsBegun old new) → IfOk r (WasBegun o)
was-begun o old new (Ok b) searches h = (old, new, searches, h)
was-begun o old new (Err e) searches h = tt
