-- What counts say of marks.
use Rattle.std.proofs.Common.{◌≡◌, ◌≢◌, ℕ, ◌+◌, ◌<◌, ◌≤◌, refl, sym, ap, ◌∙◌, subst, arith, List, [], ◌∷◌, length, inl, inr}
use Rattle.std.specs.Prelude.{◌⊎◌, Option, None, Some}
use Rattle.std.specs.List.{Contains}
use mathlib.Core.Logic.{∥∥₁_elim}
use Rattle.std.proofs.lemmas.Bool.{cases_lt}
use Rattle.lf_list.proofs.Laws.{none-in, Contains-first, Contains-more, cases_in, each-in}
use Rattle.lf_marks.specs.Steps.{Mark, Marking, IsUnmarked}
use Rattle.lf_marks.specs.Steps as mark
use Rattle.lf_marks.specs.Counting.{IsApart, AreThose, IsCount, IsClaim, OfKind, AreCounts}

-- a list without one of its paths
record Rest (ps : List (List ℕ)) (p : List ℕ) : Type 0 where
  rest : List (List ℕ)
  kept : (q : List ℕ) → Contains ps q → (q ≡ p) ⊎ Contains rest q
  count : length rest + 1 ≡ length ps

without : (ps : List (List ℕ)) (p : List ℕ) → Contains ps p → Rest ps p
without [] p h = absurd (none-in p h)
without (x ∷ xs) p h = elim (cases_in x xs p h) [
  | inl same ↦ record {
    rest = xs;
    kept = λ q k. elim (cases_in x xs q k) [ inl is ↦ inl (sym is ∙ same) | inr later ↦ inr later ];
    count = omega arith;
  }
  | inr later ↦
      let r = without xs p later in record {
        rest = x ∷ r.rest;
        kept = λ q k. elim (cases_in x xs q k) [
          | inl is ↦ inr (subst (λ z. Contains (x ∷ r.rest) z) is (Contains-first x r.rest))
          | inr k' ↦ elim (r.kept q k') [ inl is ↦ inl is | inr k'' ↦ inr (Contains-more x r.rest q k'') ]
        ];
        count = omega (arith, r.count);
      }
]

-- of paths that come once there are no more than of others among which they are
at_most : (ps qs : List (List ℕ)) → IsApart ps → ((p : List ℕ) → Contains ps p → Contains qs p) → length ps ≤ length qs
at_most [] qs apart among = omega arith
at_most (x ∷ xs) qs apart among =
    let r = without qs x (among x (Contains-first x xs)) in
    let few = at_most xs r.rest apart.1 (λ p h. elim (r.kept p (among p (Contains-more x xs p h))) [
      | inl same ↦ absurd (each-in (λ q. x ≢ q) xs apart.0 p h (sym same))
      | inr k ↦ k
    ]) in
    omega (arith, few, r.count)

-- of two counts of one property neither is larger
too_many : (P : List ℕ → Type 0) (n m : ℕ) → (ps : List (List ℕ)) × AreThose P ps × (length ps ≡ n)
    → (ps : List (List ℕ)) × AreThose P ps × (length ps ≡ m) → m < n → ⊥
too_many P n m l k many = omega (arith, many, at_most l.0 k.0 l.1.apart (λ p h. k.1.all p (l.1.only p h)), l.2, k.2)

pub count-most : (P : List ℕ → Type 0) (n m : ℕ) → IsCount P n → IsCount P m → n ≤ m
count-most P n m c d = elim (cases_lt m n) [
  | inl many ↦ absurd (∥∥₁_elim c (λ x y. absurd x) (λ l. ∥∥₁_elim d (λ x y. absurd x) (λ k. too_many P n m l k many)))
  | inr few ↦ few
]

-- where some sets are counted, not all are something else
some_listed : (P : List ℕ → Type 0) (n : ℕ) (ps : List (List ℕ)) → AreThose P ps → length ps ≡ n → 0 < n → ((p : List ℕ) → P p → ⊥) → ⊥
some_listed P n [] those long some never = omega (arith, long, some)
some_listed P n (p ∷ ps) those long some never = never p (those.only p (Contains-first p ps))

some_counted : (P : List ℕ → Type 0) (n : ℕ) → 0 < n → IsCount P n → ((p : List ℕ) → P p → ⊥) → ⊥
some_counted P n some c never = ∥∥₁_elim c (λ x y. absurd x) (λ l. some_listed P n l.0 l.1 l.2 some never)

-- where open sets are counted, one is open
pub some-ready : (at : Marking) (r c a w : ℕ) → 0 < r → AreCounts at r c a w → IsUnmarked at mark.Open → ⊥
some-ready at r c a w some k none = some_counted (λ q. at q ≡ Some mark.Open) r some k.ready none

-- where claims are counted, a ticket claims a set
unclaimed_by : (m : Mark) → ((t : ℕ) → m ≡ mark.Claimed t → ⊥) → IsClaim m → ⊥
unclaimed_by mark.Waiting none h = h
unclaimed_by mark.Open none h = h
unclaimed_by (mark.Claimed t) none h = none t refl
unclaimed_by mark.Misses none h = h
unclaimed_by mark.Reaches none h = h
unclaimed_by (mark.Branch reach edges) none h = h

no_claim : (o : Option Mark) → ((t : ℕ) → o ≡ Some (mark.Claimed t) → ⊥) → OfKind IsClaim o → ⊥
no_claim None none h = h
no_claim (Some m) none h = unclaimed_by m (λ t e. none t (ap (λ (x : Mark). Some x) e)) h

pub some-claimed : (at : Marking) (r c a w : ℕ) → 0 < c → AreCounts at r c a w → ((t : ℕ) → IsUnmarked at (mark.Claimed t)) → ⊥
some-claimed at r c a w some k none = some_counted (λ q. OfKind IsClaim (at q)) c some k.claimed (λ p h. no_claim (at p) (λ t. none t p) h)
