-- No set stands twice.
use Rattle.std.proofs.Common.{◌≡◌, ◌≢◌, ℕ, zero, suc, ◌<◌, refl, sym, ap, ◌∙◌, subst, arith, true, List, [], ◌∷◌, ◌++◌, length, take}
use Rattle.std.proofs.Common.{append_assoc, inl, inr, IsSome}
use Rattle.std.specs.Prelude.{◌⊎◌, slice_get, Some}
use Rattle.std.specs.List.{Contains}
use Rattle.std.proofs.lemmas.Bool.{cases_lt, cases_eq}
use Rattle.std.proofs.lemmas.List.Elements.{Contains-append_left, Contains-append_right}
use Rattle.std.proofs.lemmas.Option.{slice_get_within}
use Rattle.lf_list.proofs.Laws.{Contains-first, Contains-more}
use Rattle.lf_faults.specs.declared.fault.Parts.{Parts}
use Rattle.lf_faults.specs.declared.spec.Bounds.{Bounds}
use Rattle.lf_faults.specs.Faults.{is_before, IsAscending}
use Rattle.lf_faults.proofs.Laws.{not_itself, first-before, in-inserted, still-in, cases_inserted}
use Rattle.lf_sim.specs.Runs.{World}
use Rattle.lf_outcome.specs.declared.formula.Formula.{Formula}
use Rattle.lf_marks.specs.Steps.{kid_of}
use Rattle.lf_certificate.specs.Closed.{IsClosed}
use Rattle.lf_certificate.specs.States.{State}
use Rattle.lf_certificate.specs.Tasks.{Task, edges_in, task_at}
use Rattle.lf_certificate.proofs.ClosedLemmas.{IsBorn, born, along, edge-required, sized, task-there}
use Rattle.lf_certificate.proofs.TaskLemmas.{some-one, none_below, item-in, front-stands}

-- an item at a place comes before those at later places
in_take : (xs : List Parts) (i j : ℕ) (x : Parts) → i < j → slice_get xs i ≡ Some x → Contains (take j xs) x
in_take xs i zero x low is = absurd (none_below i low)
in_take [] i (suc j) x low is = absurd (none_below i (slice_get_within [] i x is))
in_take (y ∷ ys) zero (suc j) x low is = subst (Contains (y ∷ take j ys)) (some-one y x is) (Contains-first y (take j ys))
in_take (y ∷ ys) (suc i) (suc j) x low is = Contains-more y (take j ys) x (in_take ys i j x (omega (arith, low)) is)

before_at : (xs : List Parts) → IsAscending xs → (i j : ℕ) (x y : Parts) → i < j → slice_get xs i ≡ Some x → slice_get xs j ≡ Some y
    → is_before x y ≡ true
before_at xs a i zero x y low is there = absurd (none_below i low)
before_at [] a i (suc j) x y low is there = absurd (none_below i (slice_get_within [] i x is))
before_at (z ∷ zs) a zero (suc j) x y low is there =
    subst (λ v. is_before v y ≡ true) (some-one z x is) (first-before z zs a y (item-in zs j y there))
before_at (z ∷ zs) a (suc i) (suc j) x y low is there = before_at zs a.1 i j x y (omega (arith, low)) is there

-- two paths part where they go to different kids
record IsParted (p q : List ℕ) : Type 0 where
  front : List ℕ
  here : ℕ
  there : ℕ
  rest : List ℕ
  other : List ℕ
  first : p ≡ front ++ here ∷ rest
  second : q ≡ front ++ there ∷ other
  apart : here ≢ there

no_length : {n : ℕ} → 0 ≡ suc n → ⊥
no_length e = omega (arith, e)

-- two paths of one length are one, or part
parting : (p q : List ℕ) → length p ≡ length q → (p ≡ q) ⊎ IsParted p q
parting [] [] e = inl refl
parting [] (j ∷ q) e = absurd (no_length e)
parting (i ∷ p) [] e = absurd (no_length (sym e))
parting (i ∷ p) (j ∷ q) e = elim (cases_eq i j) [
  | inr apart ↦ inr (record { front = []; here = i; there = j; rest = p; other = q; first = refl; second = refl; apart = apart })
  | inl same ↦ elim (parting p q (omega (arith, e))) [
    | inl rest ↦ inl cc
    | inr x ↦ inr (record {
      front = i ∷ x.front;
      here = x.here;
      there = x.there;
      rest = x.rest;
      other = x.other;
      first = ap (λ (r : List ℕ). i ∷ r) x.first;
      second = ap (λ k. k ∷ q) (sym same) ∙ ap (λ (r : List ℕ). i ∷ r) x.second;
      apart = x.apart;
    })
  ]
]

module _ {Local Note Fact : Type 0} (w : World Local Note Fact) (b : Bounds) (formula : Formula Fact) (most : ℕ) (s : State)
    (closed : IsClosed w b formula most s) where
  -- what a set holds, each beneath it holds
  holds_beneath : (f : Parts) (k : List ℕ) (t : Task) → task_at s.marks k ≡ Some t → Contains t.faults f
      → (rest : List ℕ) (u : Task) → IsSome (s.marks (k ++ rest)) → task_at s.marks (k ++ rest) ≡ Some u → Contains u.faults f
  holds_beneath f k t leads has = along w b formula most s closed (λ p u. Contains u.faults f) k
      (λ u led. subst (λ (v : Task). Contains v.faults f) (some-one t u (sym leads ∙ led)) has)
      (λ p i above u x up. subst (λ fs. Contains fs f) (sym x.kid.faults) (still-in x.kid.edge above.faults f up))

  -- what is excluded at a set that doesn't hold it, none beneath it holds
  avoids_beneath : (f : Parts) (k : List ℕ) (t : Task) → task_at s.marks k ≡ Some t → Contains t.excluded f → (Contains t.faults f → ⊥)
      → (rest : List ℕ) (u : Task) → IsSome (s.marks (k ++ rest)) → task_at s.marks (k ++ rest) ≡ Some u
      → Contains u.excluded f × (Contains u.faults f → ⊥)
  avoids_beneath f k t leads out none = along w b formula most s closed (λ p u. Contains u.excluded f × (Contains u.faults f → ⊥)) k
      (λ u led.
      let same : t ≡ u = some-one t u (sym leads ∙ led) in
      (subst (λ (v : Task). Contains v.excluded f) same out, subst (λ (v : Task). Contains v.faults f → ⊥) same none))
      (λ p i above u x up. (
        subst (λ fs. Contains fs f) (sym x.kid.excluded) (Contains-append_left above.excluded (take i x.edges) f up.0),
        λ c. elim (cases_inserted x.kid.edge above.faults f (subst (λ fs. Contains fs f) x.kid.faults c)) [
          | inl same ↦ (edge-required w b formula most s closed p i above u x).included (subst (Contains above.excluded) (sym same) up.0)
          | inr was ↦ up.1 was
        ],
      ))

  -- beneath a later kid no set holds the edge to an earlier one
  module _ (front : List ℕ) (i j : ℕ) (low : i < j) (above above2 t u : Task) (x : IsBorn w b formula most s closed front i above t)
      (y : IsBorn w b formula most s closed front j above2 u) where
    edges_one : x.edges ≡ y.edges
    edges_one = ap edges_in (sym x.branch) ∙ ap edges_in y.branch

    above_one : above ≡ above2
    above_one = some-one above above2 (sym x.leads ∙ y.leads)

    edge_is : slice_get y.edges i ≡ Some x.kid.edge
    edge_is = ap (λ es. slice_get es i) (sym edges_one) ∙ x.kid.is

    later_excludes : Contains u.excluded x.kid.edge
    later_excludes = subst (λ fs. Contains fs x.kid.edge) (sym y.kid.excluded)
        (Contains-append_right above2.excluded (take j y.edges) x.kid.edge (in_take y.edges i j x.kid.edge low edge_is))

    later_lacks : Contains u.faults x.kid.edge → ⊥
    later_lacks c = elim (cases_inserted y.kid.edge above2.faults x.kid.edge (subst (λ fs. Contains fs x.kid.edge) y.kid.faults c)) [
      | inl same ↦
          not_itself x.kid.edge (subst (λ f. is_before x.kid.edge f ≡ true) same
          (before_at y.edges y.found.required.ascending i j x.kid.edge y.kid.edge low edge_is y.kid.is))
      | inr was ↦
          (edge-required w b formula most s closed front i above t x).allowed.0 (subst (λ (v : Task). Contains v.faults x.kid.edge) (sym above_one) was)
    ]

  apart_at : (front : List ℕ) (i j : ℕ) (rest other : List ℕ) (t u : Task) → i < j
      → IsSome (s.marks (front ++ i ∷ rest)) → IsSome (s.marks (front ++ j ∷ other))
      → task_at s.marks (front ++ i ∷ rest) ≡ Some t → task_at s.marks (front ++ j ∷ other) ≡ Some u → t.faults ≡ u.faults → ⊥
  apart_at front i j rest other t u low t_stands u_stands t_leads u_leads same =
      let first : front ++ i ∷ rest ≡ kid_of front i ++ rest = sym (append_assoc front (i ∷ []) rest) in
      let second : front ++ j ∷ other ≡ kid_of front j ++ other = sym (append_assoc front (j ∷ []) other) in
      let first_stands = subst (λ q. IsSome (s.marks q)) first t_stands in
      let second_stands = subst (λ q. IsSome (s.marks q)) second u_stands in
      let kid_stands = front-stands s.level s.marks closed.shape (kid_of front i) rest first_stands in
      let kid2_stands = front-stands s.level s.marks closed.shape (kid_of front j) other second_stands in
      let kid = task-there w b formula most s closed (kid_of front i) kid_stands in
      let kid2 = task-there w b formula most s closed (kid_of front j) kid2_stands in
      let x = born w b formula most s closed front i kid.0 kid_stands kid.1 in
      let y = born w b formula most s closed front j kid2.0 kid2_stands kid2.1 in
      let edge = x.1.kid.edge in
      let has : Contains t.faults edge =
      holds_beneath edge (kid_of front i) kid.0 kid.1 (subst (λ fs. Contains fs edge) (sym x.1.kid.faults) (in-inserted edge x.0.faults)) rest t
      first_stands (subst (λ q. task_at s.marks q ≡ Some t) first t_leads) in
      let avoids =
      avoids_beneath edge (kid_of front j) kid2.0 kid2.1 (later_excludes front i j low x.0 y.0 kid.0 kid2.0 x.1 y.1)
      (later_lacks front i j low x.0 y.0 kid.0 kid2.0 x.1 y.1) other u second_stands (subst (λ q. task_at s.marks q ≡ Some u) second u_leads) in
      avoids.1 (subst (λ fs. Contains fs edge) same has)

  -- two paths to sets with the same faults are one
  pub stands-once : (p q : List ℕ) (t u : Task) → IsSome (s.marks p) → IsSome (s.marks q) → task_at s.marks p ≡ Some t → task_at s.marks q ≡ Some u
      → t.faults ≡ u.faults → p ≡ q
  stands-once p q t u p_stands q_stands p_leads q_leads same =
      let t_size = (sized w b formula most s closed p t p_stands p_leads).0 in
      let u_size = (sized w b formula most s closed q u q_stands q_leads).0 in
      elim (parting p q (omega (arith, t_size, u_size, ap (λ (fs : List Parts). length fs) same))) [
        | inl one ↦ one
        | inr x ↦
            let ps = subst (λ r. IsSome (s.marks r)) x.first p_stands in
            let qs = subst (λ r. IsSome (s.marks r)) x.second q_stands in
            let pl = subst (λ r. task_at s.marks r ≡ Some t) x.first p_leads in
            let ql = subst (λ r. task_at s.marks r ≡ Some u) x.second q_leads in
            elim (cases_lt x.here x.there) [
              | inl low ↦ absurd (apart_at x.front x.here x.there x.rest x.other t u low ps qs pl ql same)
              | inr high ↦ absurd (apart_at x.front x.there x.here x.other x.rest u t (omega (arith, high, x.apart)) qs ps ql pl (sym same))
            ]
      ]
