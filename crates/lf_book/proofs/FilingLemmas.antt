-- What becomes of claims, in the words of a book.
use mathlib.Core.Logic.{∥∥₁_elim, ∥∥₁_map, ∥∥₁_prop}
use Rattle.std.proofs.Common.{◌≡◌, ◌≢◌, ◌∙◌, ℕ, refl, sym, ap, subst, true, false, List, inl, inr}
use Rattle.std.specs.Prelude.{Option, None, Some, MatchOption}
use Rattle.std.proofs.lemmas.Bool.{cases_Bool}
use Rattle.lf_faults.specs.declared.fault.Parts.{Parts}
use Rattle.lf_faults.specs.declared.spec.Bounds.{Bounds}
use Rattle.lf_faults.specs.Faults.{set_is_before}
use Rattle.lf_sim.specs.Runs.{World}
use Rattle.lf_sim.specs.Settings.{world_of}
use Rattle.lf_outcome.specs.declared.formula.Formula.{Formula}
use Rattle.lf_outcome.specs.declared.scenario.Scenario.{Scenario}
use Rattle.lf_outcome.specs.Sameness.{AreSame}
use Rattle.lf_outcome.proofs.Laws.{worlds_are_one}
use Rattle.lf_marks.specs.Steps.{Mark, IsShape, Answered, GaveBack}
use Rattle.lf_marks.specs.Steps as mark
use Rattle.lf_certificate.specs.Closed.{IsClosed, IsFirstMissing}
use Rattle.lf_certificate.specs.Events.{FilesMark, GivesBack, Reclaims, Claims}
use Rattle.lf_certificate.specs.Found.{IsFound}
use Rattle.lf_certificate.specs.States.{State, KeepsTurn}
use Rattle.lf_certificate.specs.Tasks.{Task}
use Rattle.lf_certificate.proofs.Laws.{file_closed, file_first, miss_first, miss_before, miss_after}
use Rattle.lf_certificate.proofs.Laws.{give_back_closed, give_back_first, reclaim_closed, reclaim_first}
use Rattle.lf_book.specs.Books.{IsClosedFor, IsRefusedFor, IsClaimOf}
use Rattle.lf_book.specs.declared.book.Book.{Book}
use Rattle.lf_book.specs.declared.filing.Refusal.{Refusal}
use Rattle.lf_book.specs.declared.filing.Refusal.TheVariants as refusal

-- what is so of what a job or a finding names is so of its parts
pub as_named : (P : ℕ → Scenario → List ℕ → Task → Type 0) (t u : ℕ) (r s : Scenario) (p q : List ℕ) (f g e d : List Parts)
    → t ≡ u → r ≡ s → p ≡ q → f ≡ g → e ≡ d → P t r p (record { faults = f; excluded = e }) → P u s q (record { faults = g; excluded = d })
as_named P t u r s p q f g e d tickets scenarios paths sets excluded h = rw (← tickets, ← scenarios, ← paths, ← sets, ← excluded) h

-- what is refused is no claim
pub refused_is_none : (book : Book) (t : ℕ) (s : Scenario) (path : List ℕ) (task : Task) (r : Refusal) → IsRefusedFor book t s path task r
    → IsClaimOf book t s path task → ⊥
refused_is_none book t s path task refusal.NoClaim h claim = h path claim.claims.claimed
refused_is_none book t s path task refusal.OtherScenario h claim = h.1 claim.same
refused_is_none book t s path task refusal.OtherSet h claim = h.2 claim.claims

-- what was found of a scenario was found of one that is the same
pub found_same : (s r : Scenario) → AreSame s r → (faults excluded : List Parts) (m : Mark)
    → IsFound (world_of r.setting) r.setting.spec r.formula faults excluded m
    → IsFound (world_of s.setting) s.setting.spec s.formula faults excluded m
found_same s r same faults excluded m found = rw (worlds_are_one s r same, same.bounds, same.formula) found

-- the first set that misses stays so, or is one that is filed
module _ {Local Note Fact : Type 0} (w : World Local Note Fact) (b : Bounds) (formula : Formula Fact) (most : ℕ) (old new : State)
    (closed : IsClosed w b formula most old) (path : List ℕ) (ticket : ℕ) (task : Task) where
  missed-first : (least next : Option (List Parts)) → FilesMark path ticket task mark.Misses old new → IsShape new.level new.marks
      → MatchOption least (next ≡ Some task.faults) (λ found. (set_is_before task.faults found ≡ true → next ≡ Some task.faults)
      × (set_is_before task.faults found ≡ false → next ≡ Some found))
      → IsFirstMissing old.marks least → IsFirstMissing new.marks next
  missed-first None next e shape is h =
      subst (IsFirstMissing new.marks) (sym is) (miss_first w b formula most old new closed path ticket task e shape h)
  missed-first (Some found) next e shape is h = elim (cases_Bool (set_is_before task.faults found)) [
    | inl before ↦
        subst (IsFirstMissing new.marks) (sym (is.0 before)) (miss_before w b formula most old new closed path ticket task found e shape h before)
    | inr after ↦
        subst (IsFirstMissing new.marks) (sym (is.1 after)) (miss_after w b formula most old new closed path ticket task found e shape h after)
  ]

  kept-first : (m : Mark) (least next : Option (List Parts)) → FilesMark path ticket task m old new → IsShape new.level new.marks
      → (m ≢ mark.Misses) → (m ≢ mark.Misses → next ≡ least) → IsFirstMissing old.marks least → IsFirstMissing new.marks next
  kept-first m least next e shape reaches same h =
      subst (IsFirstMissing new.marks) (sym (same reaches)) (file_first w b formula most old new closed path ticket task m e shape reaches least h)

  filed-first : (m : Mark) (least next : Option (List Parts)) → FilesMark path ticket task m old new → IsShape new.level new.marks
      → (m ≢ mark.Misses → next ≡ least)
      → (m ≡ mark.Misses → MatchOption least (next ≡ Some task.faults) (λ found. (set_is_before task.faults found ≡ true → next ≡ Some task.faults)
      × (set_is_before task.faults found ≡ false → next ≡ Some found)))
      → IsFirstMissing old.marks least → IsFirstMissing new.marks next
  filed-first mark.Waiting least next e shape same is = kept-first mark.Waiting least next e shape (λ k. absurd cc) same
  filed-first mark.Open least next e shape same is = kept-first mark.Open least next e shape (λ k. absurd cc) same
  filed-first (mark.Claimed t) least next e shape same is = kept-first (mark.Claimed t) least next e shape (λ k. absurd cc) same
  filed-first mark.Misses least next e shape same is = missed-first least next e shape (is refl)
  filed-first mark.Reaches least next e shape same is = kept-first mark.Reaches least next e shape (λ k. absurd cc) same
  filed-first (mark.Branch reach edges) least next e shape same is =
      kept-first (mark.Branch reach edges) least next e shape (λ k. absurd cc) same

-- a finding is filed, and a job is given back, by the ticket that they name
pub files : (path : List ℕ) (t u : ℕ) (task : Task) (m n : Mark) (old new : State) → t ≡ u → m ≡ n → Claims path u task old.marks
    → ((p : List ℕ) → old.marks p ≡ Some (mark.Claimed t) → Answered p t m old.marks new.marks) → KeepsTurn old new
    → FilesMark path u task n old new
files path t u task m n old new tickets is claims answered keeps = record {
  claims = claims;
  marks =
      subst (λ (v : ℕ). Answered path v n old.marks new.marks) tickets
      (subst (λ (k : Mark). Answered path t k old.marks new.marks) is
      (answered path (claims.claimed ∙ ap (λ (v : ℕ). Some (mark.Claimed v)) (sym tickets))));
  keeps = keeps;
}

pub gives-back : (path : List ℕ) (t u : ℕ) (task : Task) (old new : State) → t ≡ u → Claims path u task old.marks
    → ((p : List ℕ) → old.marks p ≡ Some (mark.Claimed t) → GaveBack p t old.marks new.marks) → KeepsTurn old new
    → GivesBack path u task old new
gives-back path t u task old new tickets claims back keeps = record {
  claims = claims;
  marks = subst (λ (v : ℕ). GaveBack path v old.marks new.marks) tickets
      (back path (claims.claimed ∙ ap (λ (v : ℕ). Some (mark.Claimed v)) (sym tickets)));
  keeps = keeps;
}

-- what was found is filed: the book is closed, and has the first set that misses
pub filed-keeps : (s r : Scenario) (old new : State) (path : List ℕ) (ticket : ℕ) (set : List Parts) (task : Task) (m : Mark)
    (least next : Option (List Parts)) → AreSame s r → ∥ IsClosedFor s old ∥₁ → ∥ IsFirstMissing old.marks least ∥₁
    → FilesMark path ticket task m old new → set ≡ task.faults
    → IsFound (world_of r.setting) r.setting.spec r.formula task.faults task.excluded m → IsShape new.level new.marks
    → (m ≢ mark.Misses → next ≡ least)
    → (m ≡ mark.Misses → MatchOption least (next ≡ Some set) (λ found. (set_is_before set found ≡ true → next ≡ Some set)
    × (set_is_before set found ≡ false → next ≡ Some found)))
    → ∥ IsClosedFor s new ∥₁ × ∥ IsFirstMissing new.marks next ∥₁
filed-keeps s r old new path ticket set task m least next alike closed first e same found shape reaches misses =
    let w = world_of s.setting in
    let b = s.setting.spec in
    let here = found_same s r alike task.faults task.excluded m found in
    let one = λ (k : m ≡ mark.Misses). subst (λ (fs : List Parts). MatchOption least (next ≡ Some fs)
    (λ found. (set_is_before fs found ≡ true → next ≡ Some fs) × (set_is_before fs found ≡ false → next ≡ Some found))) same (misses k) in (
      ∥∥₁_map closed (λ h. file_closed w b s.formula s.max_sets old new path ticket task m h e here shape),
      ∥∥₁_elim closed ∥∥₁_prop (λ h. ∥∥₁_map first
          (filed-first w b s.formula s.max_sets old new h path ticket task m least next e shape reaches one)),
    )

-- a claimed set is given back
pub back-keeps : (s : Scenario) (old new : State) (path : List ℕ) (ticket : ℕ) (task : Task) (least : Option (List Parts))
    → ∥ IsClosedFor s old ∥₁ → ∥ IsFirstMissing old.marks least ∥₁ → GivesBack path ticket task old new → IsShape new.level new.marks
    → ∥ IsClosedFor s new ∥₁ × ∥ IsFirstMissing new.marks least ∥₁
back-keeps s old new path ticket task least closed first e shape = (
  ∥∥₁_map closed (λ h. give_back_closed (world_of s.setting) s.setting.spec s.formula s.max_sets old new path ticket task h e shape),
  ∥∥₁_map first (give_back_first path ticket task old new e least),
)

-- all claims are reclaimed
pub reclaim-keeps : (s : Scenario) (old new : State) (least : Option (List Parts)) → ∥ IsClosedFor s old ∥₁
    → ∥ IsFirstMissing old.marks least ∥₁ → Reclaims old new → IsShape new.level new.marks
    → ∥ IsClosedFor s new ∥₁ × ∥ IsFirstMissing new.marks least ∥₁
reclaim-keeps s old new least closed first e shape = (
  ∥∥₁_map closed (λ h. reclaim_closed (world_of s.setting) s.setting.spec s.formula s.max_sets old new h e shape),
  ∥∥₁_map first (reclaim_first old new e least),
)
