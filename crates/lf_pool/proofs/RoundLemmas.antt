-- What a worker has in hand stays of the scenario that is searched, and its lists keep their room.
use Rattle.std.proofs.Common.{ap, length-append, ◌≡◌, ℕ, ◌+◌, ◌-◌, ◌≤◌, Some, false, inl, inr, sym, ◌∙◌, refl, subst, arith, length, List, [], ◌∷◌, ◌++◌}
use Rattle.std.proofs.lemmas.List.Elements.{All-nil, All-head, All-push}
use Rattle.std.specs.Arc.{arc_value}
use Rattle.std.specs.Prelude.{◌⊎◌, Option, Result, Ok, Err, OnOk, is_err}
use Rattle.std.specs.List.{All, slice_get}
use Rattle.std.specs.Option.{option_to_list}
use Rattle.lf_outcome.specs.declared.scenario.Scenario.{Scenario}
use Rattle.lf_work.specs.Jobs.{IsOfJob}
use Rattle.lf_work.specs.Scratches.{IsScratchFor}
use Rattle.lf_work.specs.declared.scratch.Scratch.{Scratch}
use Rattle.lf_pool.specs.Holds.{AreFindingsIn, AreJobsIn, AreJobsOf, IsAtWork, IsFoundFor, IsJobOf}
use Rattle.lf_pool.specs.declared.handful.TheConstants.{HANDFUL}
use Rattle.lf_pool.specs.declared.locked.hand.Claim.{Claim}
use Rattle.lf_pool.specs.declared.locked.hand.Found.{Found}
use Rattle.lf_pool.proofs.ScenarioLemmas.{back, found-for, front, last-got, last-of, off-end, some-one}

-- an empty list has no items
pub none-of : {A : Type 0} (l : List A) → length l ≡ 0 → l ≡ []
none-of [] h = refl
none-of (x ∷ l) h = absurd (omega (arith, h))

pub none-few : {A : Type 0} (l : List A) → l ≡ [] → length l ≤ HANDFUL
none-few l h = subst (λ l. length l ≤ HANDFUL) (sym h) (omega arith)

-- one item more makes a list longer by one
pub one-more : {A : Type 0} (l m : List A) (x : A) → m ≡ l ++ x ∷ [] → length m ≡ length l + 1
one-more l m x e = ap length e ∙ length-append l (x ∷ [])

-- what is so of what is answered is so where it is
pub on-ok : {T Failed P : Type 0} (r : Result T Failed) → is_err r ≡ false → OnOk r P → P
on-ok (Ok t) h p = p
on-ok (Err e) h p = absurd cc

module _ (o : Option Scenario) where
  -- a job is taken off the list,
  pub suited : (old new next : List Claim) (fs : List Found) (x : Scratch) (job : Claim) → IsAtWork o old next fs x → old ≡ new ++ job ∷ []
      → IsScratchFor (arc_value job.job.scenario) x
  suited old new next fs x job h off = subst (λ r. IsScratchFor r x) (sym (last-of h.0 old new job off h.2)) h.5

  -- worked, and what was found of it put onto the other,
  pub worked-one : (old new next : List Claim) (fs gs : List Found) (x y : Scratch) (job : Claim) (found : Found) (s : Scenario) → IsAtWork o old next fs x
      → old ≡ new ++ job ∷ [] → gs ≡ fs ++ found ∷ [] → IsOfJob job.job found.finding → s ≡ arc_value job.job.scenario → IsScratchFor s y
      → IsAtWork o new next gs y
  worked-one old new next fs gs x y job found s h off on of same kept =
      let all : AreJobsOf h.0 (new ++ job ∷ []) = subst (AreJobsOf h.0) off h.2 in
      let own : IsJobOf h.0 job = All-head (IsJobOf h.0) job [] (back (IsJobOf h.0) new (job ∷ []) all) in (
        h.0,
        h.1,
        front (IsJobOf h.0) new (job ∷ []) all,
        h.3,
        subst (All (IsFoundFor h.0)) (sym on) (All-push (IsFoundFor h.0) fs found h.4 (found-for h.0 job found of own)),
        subst (λ r. IsScratchFor r y) (same ∙ own.0) kept,
      )

  -- or put back where memory has run out
  pub put-again : (old new again next : List Claim) (fs : List Found) (x y : Scratch) (job : Claim) → IsAtWork o old next fs x → old ≡ new ++ job ∷ []
      → again ≡ new ++ job ∷ [] → IsScratchFor (arc_value job.job.scenario) y → IsAtWork o again next fs y
  put-again old new again next fs x y job h off put suits = (
    h.0,
    h.1,
    subst (AreJobsOf h.0) (off ∙ sym put) h.2,
    h.3,
    h.4,
    subst (λ r. IsScratchFor r y) (last-of h.0 old new job off h.2) suits,
  )

  -- where none is left to be taken off, nothing changes
  pub none-left : (old new next : List Claim) (fs : List Found) (x : Scratch) (last : Option Claim) → IsAtWork o old next fs x
      → old ≡ new ++ option_to_list last → IsAtWork o new next fs x
  none-left old new next fs x last h off = (h.0, h.1, (off-end (IsJobOf h.0) old new last off h.2).0, h.3, h.4, h.5)

  -- the next handful is taken, and what was found is filed
  still-found : (s : Scenario) (taken : List Claim) (fs gs : List Found) → ((taken ≡ []) × (gs ≡ fs)) ⊎ (gs ≡ []) → All (IsFoundFor s) fs
      → All (IsFoundFor s) gs
  still-found s taken fs gs (inl kept) h = subst (All (IsFoundFor s)) (sym kept.1) h
  still-found s taken fs gs (inr none) h = subst (All (IsFoundFor s)) (sym none) (All-nil (IsFoundFor s))

  pub gone-on : (jobs next taken : List Claim) (fs gs : List Found) (x y : Scratch) → IsAtWork o jobs next fs x → AreJobsIn o taken
      → ((taken ≡ []) × (gs ≡ fs)) ⊎ (gs ≡ []) → y ≡ x → IsAtWork o jobs taken gs y
  gone-on jobs next taken fs gs x y h t done same =
      let own : t.0 ≡ h.0 = some-one t.0 h.0 (sym t.1 ∙ h.1) in (
        h.0,
        h.1,
        h.2,
        subst (λ s. AreJobsOf s taken) own t.2,
        still-found h.0 taken fs gs done h.4,
        subst (IsScratchFor h.0) (sym same) h.5,
      )

  -- what was found is of the scenario
  pub found-at-work : (jobs next : List Claim) (fs : List Found) (x : Scratch) → IsAtWork o jobs next fs x → AreFindingsIn o fs
  found-at-work jobs next fs x h = (h.0, h.1, h.4)

  -- a worker begins with a handful, and goes on with the next
  pub begun : (jobs next : List Claim) (fs : List Found) (x : Scratch) (job : Claim) → AreJobsIn o jobs → next ≡ [] → fs ≡ []
      → slice_get jobs (length jobs - 1) ≡ Some job → IsScratchFor (arc_value job.job.scenario) x → IsAtWork o jobs next fs x
  begun jobs next fs x job t no-jobs none got suits = (
    t.0,
    t.1,
    t.2,
    subst (AreJobsOf t.0) (sym no-jobs) (All-nil (IsJobOf t.0)),
    subst (All (IsFoundFor t.0)) (sym none) (All-nil (IsFoundFor t.0)),
    subst (λ r. IsScratchFor r x) (last-got t.0 jobs job t.2 got) suits,
  )

  pub swapped : (jobs next : List Claim) (fs : List Found) (x : Scratch) → IsAtWork o jobs next fs x → IsAtWork o next jobs fs x
  swapped jobs next fs x h = (h.0, h.1, h.3, h.2, h.4, h.5)

-- the lists have room for what is found of two handfuls
pub room-on : (jobs taken : List Claim) (fs gs : List Found) → ((taken ≡ []) × (gs ≡ fs)) ⊎ (gs ≡ []) → length jobs ≤ HANDFUL
    → length jobs + length fs ≤ HANDFUL + HANDFUL → length jobs + length gs ≤ HANDFUL + HANDFUL
room-on jobs taken fs gs (inl kept) few room = subst (λ l. length jobs + length l ≤ HANDFUL + HANDFUL) (sym kept.1) room
room-on jobs taken fs gs (inr none) few room =
    subst (λ (l : List Found). length jobs + length l ≤ HANDFUL + HANDFUL) (sym none) (omega (arith, few))

pub ahead-on : (jobs taken : List Claim) (fs gs : List Found) → ((taken ≡ []) × (gs ≡ fs)) ⊎ (gs ≡ []) → length jobs ≤ HANDFUL
    → length taken ≤ HANDFUL → (taken ≡ []) ⊎ ((length jobs + length gs ≤ HANDFUL) × (length taken ≤ HANDFUL))
ahead-on jobs taken fs gs (inl kept) few next = inl kept.0
ahead-on jobs taken fs gs (inr none) few next =
    inr (subst (λ (l : List Found). length jobs + length l ≤ HANDFUL) (sym none) (omega (arith, few)), next)

pub still-ahead : (next : List Claim) (before now : ℕ) → (next ≡ []) ⊎ ((before ≤ HANDFUL) × (length next ≤ HANDFUL)) → now ≡ before
    → (next ≡ []) ⊎ ((now ≤ HANDFUL) × (length next ≤ HANDFUL))
still-ahead next before now (inl none) same = inl none
still-ahead next before now (inr few) same = inr (subst (λ n. n ≤ HANDFUL) (sym same) few.0, few.1)
