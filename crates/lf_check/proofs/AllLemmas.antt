-- What is found in all nodes of a tree, as a verdict.
use Rattle.std.proofs.Common.{◌≡◌, ℕ, suc, zero, ◌+◌, ◌<◌, ◌≤◌, ◌++◌, List, [], ◌∷◌, length, refl, sym, ap, ◌∙◌, subst, arith}
use Rattle.std.specs.Prelude.{slice_get, IfOk, Result, Ok, Option, None, Some, MatchOption}
use Rattle.std.specs.List.{AllZip, range_with_len}
use Rattle.std.proofs.lemmas.List.{length-map}
use Rattle.std.proofs.lemmas.Option.{none-some, same_Some, slice_get_within}
use Rattle.lf_faults.specs.declared.fault.Parts.{Parts}
use Rattle.lf_faults.specs.declared.spec.Bounds.{Bounds}
use Rattle.lf_faults.specs.Allowed.{IsAllowed, IsInLimits}
use Rattle.lf_sim.specs.Runs.{World}
use Rattle.lf_outcome.specs.declared.formula.Formula.{Formula}
use Rattle.lf_tree.specs.declared.tree.Tree.{Tree}
use Rattle.lf_tree.specs.Rows.{seen}
use Rattle.lf_certificate.specs.declared.reason.Reason.{Reason}
use Rattle.lf_certificate.specs.declared.reason.Reason.TheVariants as reason
use Rattle.lf_certificate.specs.Accepted.{IsAccepted, IsAllowedAnswer, last_depth}
use Rattle.lf_certificate.specs.Faults.{IsFirstFault}
use Rattle.lf_check.specs.declared.found.Found.{Found}
use Rattle.lf_check.specs.declared.found.Found.TheVariants as found
use Rattle.lf_check.specs.declared.places.Places.{Places}
use Rattle.lf_check.specs.Rows.{ways_of, ArePlaces, IsFound, IsFoundInAll}
use Rattle.lf_check.proofs.ListLemmas.{fault_found, none_found, other_first}
use Rattle.lf_check.proofs.RowLemmas.{as_many}

-- what holds of each number of a range and its item
pub from_range : {Y : Type 0} (R : ℕ → Y → Type 0) (start n : ℕ) (ys : List Y) → AllZip R (range_with_len start n) ys → (k : ℕ) (y : Y)
    → slice_get ys k ≡ Some y → R (start + k) y
from_range R start n [] all k y is = absurd (none-some y is)
from_range R start zero (z ∷ ys) all k y is = absurd all
from_range R start (suc n) (z ∷ ys) all zero y is =
    let same : start ≡ start + 0 = omega arith in
    subst (λ i. R i y) same (subst (R start) (same_Some z y is) all.0)
from_range R start (suc n) (z ∷ ys) all (suc k) y is =
    let same : (start + 1) + k ≡ start + suc k = omega arith in
    subst (λ i. R i y) same (from_range R (start + 1) n ys all.1 k y is)

pub long_range : {Y : Type 0} (R : ℕ → Y → Type 0) (start n : ℕ) (ys : List Y) → AllZip R (range_with_len start n) ys → n ≡ length ys
long_range R start zero [] all = refl
long_range R start (suc n) [] all = absurd all
long_range R start zero (y ∷ ys) all = absurd all
long_range R start (suc n) (y ∷ ys) all = let more = long_range R (start + 1) n ys all.1 in omega (arith, more)

-- what holds of what is found for a number, where it was found
pub part_read : {A E : Type 0} (P : ℕ → A → Type 0) (n : ℕ) (found : List (Result A E))
    → AllZip (λ i one. IfOk one (P i)) (range_with_len 0 n) found
    → (k : ℕ) (one : Result A E) (it : A) → slice_get found k ≡ Some one → one ≡ Ok it → P k it
part_read P n found all k one it is ok =
    let same : 0 + k ≡ k = omega arith in
    subst (λ i. P i it) same (subst (λ r. IfOk r (P (0 + k))) ok (from_range (λ i r. IfOk r (P i)) 0 n found all k one is))

module _ {State Note Fact : Type 0} (w : World State Note Fact) (b : Bounds) (formula : Formula Fact) (last : ℕ) (tree : Tree) (places : Places)
    (are : ArePlaces places) (same : places.tree.now ≡ tree) (limits : IsInLimits b) (allowed : MatchOption tree.answer (Unit {0}) (IsAllowed b))
    (deep : last ≡ last_depth b tree.answer) (it : Found) (f : IsFoundInAll w b formula last places.tree.now places.sets.items it) where
  of_answer : (answer : Option (List Parts)) → MatchOption answer (Unit {0}) (IsAllowed b) → IsAllowedAnswer b answer
  of_answer None h = tt
  of_answer (Some answer) h = h

  own_answer : IsAllowedAnswer b places.tree.now.answer
  own_answer = subst (λ (t : Tree). IsAllowedAnswer b t.answer) (sym same) (of_answer tree.answer allowed)

  own_depth : last ≡ last_depth b places.tree.now.answer
  own_depth = deep ∙ ap (λ (t : Tree). last_depth b t.answer) (sym same)

  rows_many : length places.rows.items ≡ length (ways_of places.tree.now)
  rows_many = sym (length-map places.rows.items seen) ∙ ap length are.rows ∙ sym (as_many places.tree.now)

  sets_many : length places.sets.items ≡ length (ways_of places.tree.now)
  sets_many = are.count ∙ rows_many

  as_it : (other : Found) → it ≡ other → IsFound w b formula last places.tree.now places.sets.items 0 f.0 other
  as_it other is = subst (IsFound w b formula last places.tree.now places.sets.items 0 f.0) is f.2

  pub fails_within : (at : ℕ) (why : Reason) → it ≡ found.Fails at why → at < length places.rows.items
  fails_within at why is =
      let h = as_it (found.Fails at why) is in
      let within : at < length (ways_of places.tree.now) = slice_get_within (ways_of places.tree.now) at h.3.way h.3.stands.way_is in
      omega (arith, within, rows_many)

  -- what fails first is the tree's first fault, at the end of the way
  pub all-fails : (at : ℕ) (why : Reason) → it ≡ found.Fails at why → (old path : List ℕ) → old ≡ []
      → ((whole : List ℕ) → slice_get (ways_of places.tree.now) at ≡ Some whole → path ≡ old ++ whole) → IsFirstFault w b formula tree why path
  all-fails at why is old path empty led =
      let h = as_it (found.Fails at why) is in
      let way_is : path ≡ h.3.way = led h.3.way h.3.stands.way_is ∙ ap (λ xs. xs ++ h.3.way) empty in
      subst (IsFirstFault w b formula tree why) (sym way_is)
      (subst (λ (t : Tree). IsFirstFault w b formula t why h.3.way) same
      (fault_found w b formula last places.tree.now places.sets.items limits are.sets sets_many own_answer own_depth f.0 at why h.3.way h
      h.3.stands.way_is))

  ways_few : length (ways_of places.tree.now) ≤ f.0
  ways_few = omega (arith, sets_many, f.1)

  -- where nothing fails, the answer may be another than the first of the sets that miss,
  pub all-other : (first : Option (List Parts)) → it ≡ found.Passes first → (first ≡ tree.answer → ⊥) → (path : List ℕ) → path ≡ []
      → IsFirstFault w b formula tree reason.AnswerNotFirst path
  all-other first is other path empty =
      subst (IsFirstFault w b formula tree reason.AnswerNotFirst) (sym empty)
      (subst (λ (t : Tree). IsFirstFault w b formula t reason.AnswerNotFirst []) same
      (other_first w b formula last places.tree.now places.sets.items limits are.sets sets_many own_answer own_depth f.0 ways_few first
      (as_it (found.Passes first) is) (λ e. other (e ∙ ap (λ (t : Tree). t.answer) same))))

  -- or else the tree is accepted
  pub all-accepted : (first : Option (List Parts)) → it ≡ found.Passes first → first ≡ tree.answer → IsAccepted w b formula tree
  all-accepted first is equal =
      subst (λ (t : Tree). IsAccepted w b formula t) same
      (none_found w b formula last places.tree.now places.sets.items limits are.sets sets_many own_answer own_depth f.0 ways_few first
      (as_it (found.Passes first) is) (equal ∙ ap (λ (t : Tree). t.answer) (sym same)))
