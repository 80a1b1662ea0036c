-- Jobs and findings of one scenario.
use Rattle.std.proofs.Common.{◌≡◌, ℕ, ◌-◌, Some, None, Bool, inl, inr, sym, ap, ◌∙◌, subst, length, List, [], ◌∷◌, ◌++◌}
use Rattle.std.proofs.lemmas.Option.{slice_get_cases}
use Rattle.std.proofs.lemmas.List.Elements.{All-nil, All-cons, All-head, All-tail}
use Rattle.std.specs.Arc.{arc_value}
use Rattle.std.specs.Prelude.{Option, IfSome, IsTrue}
use Rattle.std.specs.Option.{option_to_list}
use Rattle.std.specs.List.{All, slice_get}
use Rattle.lf_outcome.specs.declared.scenario.Scenario.{Scenario}
use Rattle.lf_outcome.specs.Sameness.{AreSame}
use Rattle.lf_book.specs.Books.{scenario_of, task_of_finding, IsGivenFor}
use Rattle.lf_book.specs.declared.book.Book.{Book}
use Rattle.lf_faults.specs.declared.fault.Parts.{Parts}
use Rattle.lf_work.specs.Jobs.{IsOfJob, IsSpentOf}
use Rattle.lf_work.specs.declared.spent.Spent.{Spent}
use Rattle.lf_pool.specs.Holds.{AreFindingsIn, AreJobsIn, AreJobsOf, IsFindingIn, IsFoundFor, IsJobOf, IsLeftIn, IsOfBook}
use Rattle.lf_pool.specs.declared.locked.hand.Claim.{Claim}
use Rattle.lf_pool.specs.declared.locked.hand.Found.{Found}
use Rattle.lf_pool.proofs.SolvedLemmas.{same-itself}

-- of a list what is so of all is so of its first part,
pub front : {X : Type 0} (P : X → Type 0) (xs ys : List X) → All P (xs ++ ys) → All P xs
front P [] ys h = All-nil P
front P (x ∷ xs) ys h = All-cons P x xs (All-head P x (xs ++ ys) h) (front P xs ys (All-tail P x (xs ++ ys) h))

-- of its last,
pub back : {X : Type 0} (P : X → Type 0) (xs ys : List X) → All P (xs ++ ys) → All P ys
back P [] ys h = h
back P (x ∷ xs) ys h = back P xs ys (All-tail P x (xs ++ ys) h)

-- and of one within
pub within : {X : Type 0} (P : X → Type 0) (whole old new done : List X) (x : X) → whole ≡ old ++ done → old ≡ new ++ x ∷ [] → All P whole → P x
within P whole old new done x h e all =
    let old-all : All P old = front P old done (subst (All P) h all) in
    All-head P x [] (back P new (x ∷ []) (subst (All P) e old-all))

-- where an item is taken off the end of a list, if there is one, what is so of all is so of it and of the rest
pub off-end : {X : Type 0} (P : X → Type 0) (old new : List X) (last : Option X) → old ≡ new ++ option_to_list last → All P old
    → All P new × IfSome last P
off-end P old new None h all = (front P new [] (subst (All P) h all), tt)
off-end P old new (Some x) h all =
    let whole : All P (new ++ x ∷ []) = subst (All P) h all in
    (front P new (x ∷ []) whole, All-head P x [] (back P new (x ∷ []) whole))

-- the last job of jobs of a scenario is of that scenario,
pub last-of : (s : Scenario) (old new : List Claim) (job : Claim) → old ≡ new ++ job ∷ [] → AreJobsOf s old → arc_value job.job.scenario ≡ s
last-of s old new job e all =
    (All-head (IsJobOf s) job [] (back (IsJobOf s) new (job ∷ []) (subst (AreJobsOf s) e all))).0

-- what is found of a job that a book gave out is of such a job
same-given : (s : Scenario) (p q : List ℕ) (fs gs es ds : List Parts) → q ≡ p → gs ≡ fs → ds ≡ es
    → IsGivenFor s p (record { faults = fs; excluded = es }) → IsGivenFor s q (record { faults = gs; excluded = ds })
same-given s p q fs gs es ds paths sets excluded h = rw (paths, sets, excluded) h

pub found-for : (s : Scenario) (claim : Claim) (found : Found) → IsOfJob claim.job found.finding → IsJobOf s claim → IsFoundFor s found
found-for s claim found of h =
    let job = claim.job in
    let own = found.finding.job in (
      of.scenario ∙ h.0,
      same-given s job.path.items own.path.items job.set own.set job.excluded.items own.excluded.items of.path of.set of.excluded h.1,
    )

-- the job that stands last of jobs of a scenario is of it
pub last-got : (s : Scenario) (jobs : List Claim) (job : Claim) → AreJobsOf s jobs → slice_get jobs (length jobs - 1) ≡ Some job
    → arc_value job.job.scenario ≡ s
last-got s jobs job all got = elim ((slice_get_cases jobs (length jobs - 1)).1) [
  | inl found ↦
      let same : found.0 ≡ job = (let e : Some found.0 ≡ Some job = sym found.2 ∙ got in cc) in
      let there : arc_value found.0.job.scenario ≡ s =
      (subst (IsJobOf s) found.3 (all (length jobs - 1) found.0 found.1)).0 in
      subst (λ (j : Claim). arc_value j.job.scenario ≡ s) same there
  | inr none ↦ let never : None ≡ Some job = sym none.1 ∙ got in absurd cc
]

-- where nothing is left of what was found, that is of it too, and so is what wasn't taken
pub none-found : (o : Option Scenario) (old new : List Found) → AreFindingsIn o old → new ≡ [] → AreFindingsIn o new
none-found o old new h none = (h.0, h.1, subst (All (IsFoundFor h.0)) (sym none) (All-nil (IsFoundFor h.0)))

pub none-taken : (o : Option Scenario) (findings : List Found) (jobs : List Claim) → AreFindingsIn o findings → jobs ≡ [] → AreJobsIn o jobs
none-taken o findings jobs h none = (h.0, h.1, subst (AreJobsOf h.0) (sym none) (All-nil (IsJobOf h.0)))

-- and of a book that searches it
pub some-one : (s r : Scenario) → Some s ≡ Some r → s ≡ r
some-one s r e = cc

pub finding-of : (o : Option Scenario) (book : Book) (found : Found) → o ≡ Some (scenario_of book) → IsFindingIn o found → IsOfBook book found.finding
finding-of o book found searches h =
    let finding = found.finding in
    let r = arc_value finding.job.scenario in
    let own : r ≡ scenario_of book = h.2.0 ∙ some-one h.0 (scenario_of book) (sym h.1 ∙ searches) in (
      subst (λ (s : Scenario). AreSame s r) own (same-itself r),
      subst (λ (s : Scenario). IsGivenFor s finding.job.path.items (task_of_finding finding)) (sym h.2.0) h.2.1,
    )

-- what its job leaves is too,
pub left-in : (o : Option Scenario) (found : Found) (given : Bool) (left : Option Spent) → (IsTrue given → IsFindingIn o found)
    → IfSome left (λ spent. IsTrue given × IsSpentOf (arc_value found.finding.job.scenario) spent) → IfSome left (IsLeftIn o)
left-in o found given None of h = h
left-in o found given (Some spent) of h =
    let own = of h.0 in
    own.1 ∙ ap Some (sym (h.1 ∙ own.2.0))

-- and is what a job of the book is made of
pub left-spent : (o : Option Scenario) (s : Scenario) (left : Option Spent) → o ≡ Some s → IfSome left (IsLeftIn o) → IfSome left (IsSpentOf s)
left-spent o s None searches h = h
left-spent o s (Some spent) searches h = some-one (arc_value spent.scenario) s (sym h ∙ searches)
