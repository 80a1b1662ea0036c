-- The claims of tickets.
use Rattle.std.proofs.Common.{◌≡◌, ◌≢◌, ℕ, suc, ◌+◌, ◌<◌, ◌≤◌, refl, sym, ap, ◌∙◌, subst, arith, cond, Option, Some, None, List, [], ◌∷◌, length, get_or, true}
use Rattle.std.proofs.Common.{inl, inr, is_some}
use Rattle.std.specs.Prelude.{◌&&◌, ◌==◌, MatchOption}
use Rattle.std.specs.List.{All, remove}
use Rattle.std.specs.List.Sorted.{IsSearchInRange, IsBinarySearchResult, IsNonDecreasingBy}
use Rattle.std.specs.Ordering.{nat_cmp, ordering_index}
use Rattle.std.specs.Prelude.{Result, Ok, Err}
use Rattle.std.specs.Result.{result_ok}
use Rattle.std.proofs.lemmas.Bool.{cases_lt, cases_Bool, eqb-true, eq-eqb, and_parts, and_from}
use Rattle.std.proofs.lemmas.Bool.Decides.{nat_tests}
use Rattle.std.proofs.lemmas.Cmp.{ranked}
use Rattle.std.proofs.lemmas.List.{get_or_default}
use Rattle.std.proofs.lemmas.List.Quantifiers.{all_pairs_remove}
use Rattle.std.proofs.lemmas.List.Sorted.{IsNonDecreasingBy-from_default}
use Rattle.std.proofs.lemmas.List.Sums.{sum_by-cons, sum_by-remove, get_or-le-sum_by}
use Rattle.std.specs.Option.{option_map}
use Rattle.lf_marks.specs.Claims.{AreAscending, IsOfTicket}
use Rattle.lf_marks.specs.Steps.{Mark, Marking, GaveBack, freed}
use Rattle.lf_marks.specs.Steps as mark
use Rattle.lf_marks.proofs.CountLemmas.{cases_path}
use Rattle.lf_marks.specs.Walks.{once, times_claim}
use Rattle.lf_marks.specs.declared.claim.Claim.{Claim}

-- what is read past the end of a list of claims
abbrev pub unclaimed : Claim
unclaimed = record { ticket = 0; place = 0 }

-- one claim fewer, of a ticket at a place
pub record IsWithout (old new : List Claim) (t x : ℕ) : Type 0 where
  pub claims : (u y : ℕ) → times_claim u y new + once (t == u && x == y) ≡ times_claim u y old
  pub ascending : AreAscending old → AreAscending new
  pub count : length new + 1 ≡ length old

pub removed-claim : (claims rest : List Claim) (t i : ℕ) (c : Claim) → IsOfTicket claims t i → c ≡ get_or claims i c → rest ≡ remove claims i
    → length rest + 1 ≡ length claims → IsWithout claims rest t c.place
removed-claim claims rest t i c found at is short =
    let ticket : c.ticket ≡ t = ap (λ (d : Claim). d.ticket) at ∙ found.ticket c in record {
      claims = λ u y.
          ap (λ r. times_claim u y r + once (t == u && c.place == y)) is
          ∙ ap (λ k. times_claim u y (remove claims i) + once (k == u && c.place == y)) (sym ticket)
          ∙ ap (λ (d : Claim). times_claim u y (remove claims i) + once (d.ticket == u && d.place == y)) at
          ∙ sum_by-remove (λ (d : Claim). cond (d.ticket == u && d.place == y) 1 0) claims i c found.within;
      ascending = λ up. subst AreAscending (sym is) (all_pairs_remove (λ (d e : Claim). d.ticket < e.ticket) claims i found.within up);
      count = short;
    }

-- each claim is one of its ticket,
pub claim-here : (claims : List Claim) (i : ℕ) → i < length claims → IsOfTicket claims (get_or claims i unclaimed).ticket i
claim-here claims i few = record { within = few; ticket = λ d. ap (λ (c : Claim). c.ticket) (get_or_default claims i d unclaimed few) }

-- and claims a place
pub claim-place : (claims : List Claim) (t i : ℕ) → IsOfTicket claims t i → (x : ℕ) × (0 < times_claim t x claims)
claim-place claims t i found =
    let c = get_or claims i unclaimed in
    let passes : (c.ticket == t && c.place == c.place) ≡ true =
    and_from (c.ticket == t) (c.place == c.place) (eq-eqb c.ticket t (found.ticket unclaimed)) (eq-eqb c.place c.place refl) in
    (c.place, omega (arith, get_or-le-sum_by (λ (d : Claim). once (d.ticket == t && d.place == c.place)) claims i unclaimed found.within, ap once passes))

-- the claim of a place by a ticket
pub record ClaimAt (t x : ℕ) (claims : List Claim) : Type 0 where
  pub index : ℕ
  pub is : IsOfTicket claims t index
  pub place : (d : Claim) → (get_or claims index d).place ≡ x

pub claim-at : (t x : ℕ) (claims : List Claim) → 0 < times_claim t x claims → ClaimAt t x claims
claim-at t x [] h = absurd (omega (arith, h))
claim-at t x (c ∷ cs) h = elim (cases_Bool (c.ticket == t && c.place == x)) [
  | inl passes ↦
      let both = and_parts (c.ticket == t) (c.place == x) passes in record {
        index = 0;
        is = record { within = omega arith; ticket = λ d. eqb-true c.ticket t both.0 };
        place = λ d. eqb-true c.place x both.1;
      }
  | inr fails ↦
      let r = claim-at t x cs (omega (arith, h, sum_by-cons (λ (d : Claim). cond (d.ticket == t && d.place == x) 1 0) c cs, ap once fails)) in record {
        index = suc r.index;
        is = record { within = omega (arith, r.is.within); ticket = λ d. r.is.ticket d };
        place = λ d. r.place d;
      }
]

-- no ticket has two claims
pub claim-one : (claims : List Claim) (t i j : ℕ) → AreAscending claims → IsOfTicket claims t i → IsOfTicket claims t j → i ≡ j
claim-one claims t i j up at to = elim (cases_lt i j) [
  | inl before ↦ let never : ⊥ = omega (arith, up i j unclaimed before to.within, at.ticket unclaimed, to.ticket unclaimed) in absurd never
  | inr from ↦ elim (cases_lt j i) [
    | inl after ↦ let never : ⊥ = omega (arith, up j i unclaimed after at.within, at.ticket unclaimed, to.ticket unclaimed) in absurd never
    | inr here ↦ omega (arith, from, here)
  ]
]

-- what a search by a ticket finds
module _ (claims : List Claim) (up : AreAscending claims) (t : ℕ) where
  tickets_rise : IsNonDecreasingBy (λ (c : Claim). ordering_index (nat_cmp c.ticket t)) claims
  tickets_rise = IsNonDecreasingBy-from_default (λ (c : Claim). ordering_index (nat_cmp c.ticket t)) claims unclaimed (λ i j le few.
      let rise : (get_or claims i unclaimed).ticket ≤ (get_or claims j unclaimed).ticket =
      grind (arith, up i j unclaimed, λ (same : i ≡ j). ap (λ k. (get_or claims k unclaimed).ticket) same) in
      grind (arith, nat_tests))

  pub claim-searched : (r : Result ℕ ℕ) → IsSearchInRange r (length claims) → IsBinarySearchResult (λ (c : Claim). nat_cmp c.ticket t) claims r
      → MatchOption (result_ok r) (All (λ (c : Claim). c.ticket ≢ t) claims) (IsOfTicket claims t)
  claim-searched (Ok i) few is = record { within = few; ticket = λ d. ranked (get_or claims i d).ticket t _ (sym (is d)) }
  claim-searched (Err i) few parted = λ k d within same. elim (cases_lt k i) [
    | inl before ↦
        let less : (get_or claims k d).ticket < t = ranked (get_or claims k d).ticket t _ (sym ((parted tickets_rise).0 k d (omega arith) before)) in
        omega (arith, less, same)
    | inr from ↦
        let more : t < (get_or claims k d).ticket = ranked (get_or claims k d).ticket t _ (sym ((parted tickets_rise).1 k d from within)) in
        omega (arith, more, same)
  ]

-- whether it finds a claim
pub claim-told : (claims : List Claim) (t : ℕ) (o : Option ℕ) → MatchOption o (All (λ (c : Claim). c.ticket ≢ t) claims) (IsOfTicket claims t)
    → (is_some o ≡ true → (i : ℕ) × IsOfTicket claims t i) × ((i : ℕ) → IsOfTicket claims t i → is_some o ≡ true)
claim-told claims t None none = (λ h. absurd cc, λ i found. absurd (none i unclaimed found.within (found.ticket unclaimed)))
claim-told claims t (Some i) found = (λ h. (i, found), λ j other. refl)

-- where all is freed, nothing changes for what is not claimed
pub free-stays : (o : Option Mark) → ((t : ℕ) → o ≢ Some (mark.Claimed t)) → o ≡ option_map freed o
free-stays None h = refl
free-stays (Some mark.Waiting) h = refl
free-stays (Some mark.Open) h = refl
free-stays (Some (mark.Claimed t)) h = absurd (h t refl)
free-stays (Some mark.Misses) h = refl
free-stays (Some mark.Reaches) h = refl
free-stays (Some (mark.Branch reach edges)) h = refl

-- whether one claim was given back doesn't matter where all are
pub freed-same : (p : List ℕ) (t : ℕ) (old new : Marking) → GaveBack p t old new → (q : List ℕ) → option_map freed (new q) ≡ option_map freed (old q)
freed-same p t old new g q = elim (cases_path q p) [
  | inl same ↦ ap (λ r. option_map freed (new r)) same ∙ ap (option_map freed) g.is ∙ ap (option_map freed) (sym g.was)
      ∙ ap (λ r. option_map freed (old r)) (sym same)
  | inr apart ↦ ap (option_map freed) (g.others q apart)
]
