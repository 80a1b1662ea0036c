-- Counting in ascending lists of faults.
use Rattle.std.proofs.Common.{◌≡◌, ℕ, zero, suc, ◌+◌, ◌<◌, ◌≤◌, Bool, true, false, cond, nat_eq, List}
use Rattle.std.proofs.Common.{[], ◌∷◌, length, refl, sym, ap, ◌∙◌, subst, arith, inl, inr, eq-eqb}
use Rattle.std.specs.Prelude.{◌⊎◌}
use Rattle.std.specs.List.{Contains, AllByRecursion, count_by}
use Rattle.std.proofs.lemmas.Bool.{cases_Bool, cases_eq, cases_lt, cond_both, ne_eqb}
use Rattle.lf_faults.specs.declared.fault.Parts.{Parts}
use Rattle.lf_faults.specs.Faults.{is_before, IsAscending, inserted}
use Rattle.lf_list.proofs.Laws.{none-in, Contains-first, Contains-more, cases_in}
use Rattle.lf_faults.proofs.Members.{one-is, none-is, count-cons, count-is, count-isnt}
use Rattle.lf_faults.proofs.Orders.{cases_faults, not_itself, not_both, first-before}

-- an inserted fault is counted, and is a member
pub count-inserted : (p : Parts → Bool) (f : Parts) (fs : List Parts) → count_by p (inserted f fs) ≡ cond (p f) 1 0 + count_by p fs
count-inserted p f [] = count-cons p f []
count-inserted p f (g ∷ gs) =
    cond_both (is_before g f) (g ∷ inserted f gs) (f ∷ g ∷ gs) (λ xs. count_by p xs ≡ cond (p f) 1 0 + count_by p (g ∷ gs))
    (λ _. omega (arith, count-cons p g (inserted f gs), count-inserted p f gs, count-cons p g gs))
    (λ _. count-cons p f (g ∷ gs))

pub length-inserted : (f : Parts) (fs : List Parts) → length (inserted f fs) ≡ length fs + 1
length-inserted f [] = refl
length-inserted f (g ∷ gs) =
    cond_both (is_before g f) (g ∷ inserted f gs) (f ∷ g ∷ gs) (λ xs. length xs ≡ length (g ∷ gs) + 1) (λ _. omega (arith, length-inserted f gs))
    (λ _. omega arith)

pub in-inserted : (f : Parts) (fs : List Parts) → Contains (inserted f fs) f
in-inserted f [] = Contains-first f []
in-inserted f (g ∷ gs) =
    cond_both (is_before g f) (g ∷ inserted f gs) (f ∷ g ∷ gs) (λ xs. Contains xs f) (λ _. Contains-more g (inserted f gs) f (in-inserted f gs))
    (λ _. Contains-first f (g ∷ gs))

pub still-in : (f : Parts) (fs : List Parts) (x : Parts) → Contains fs x → Contains (inserted f fs) x
still-in f [] x h = absurd (none-in x h)
still-in f (g ∷ gs) x h =
    cond_both (is_before g f) (g ∷ inserted f gs) (f ∷ g ∷ gs) (λ xs. Contains xs x)
    (λ _. elim (cases_in g gs x h) [
      | inl same ↦ subst (λ y. Contains (g ∷ inserted f gs) y) same (Contains-first g (inserted f gs))
      | inr later ↦ Contains-more g (inserted f gs) x (still-in f gs x later)
    ])
    (λ _. Contains-more f (g ∷ gs) x h)

-- whether a fault is a member
pub member : (fs : List Parts) (f : Parts) → Contains fs f ⊎ (Contains fs f → ⊥)
member [] f = inr (none-in f)
member (g ∷ gs) f = elim (member gs f) [
  | inl later ↦ inl (Contains-more g gs f later)
  | inr none ↦ elim (cases_faults g f) [
    | inl before ↦
        inr (λ h. elim (cases_in g gs f h) [ inl same ↦ not_itself g (subst (λ x. is_before g x ≡ true) (sym same) before) | inr later ↦ none later ])
    | inr rest ↦ elim rest [
      | inl same ↦ inl (subst (λ x. Contains (g ∷ gs) x) same (Contains-first g gs))
      | inr after ↦
          inr (λ h. elim (cases_in g gs f h) [ inl same ↦ not_itself g (subst (λ x. is_before x g ≡ true) (sym same) after) | inr later ↦ none later ])
    ]
  ]
]

-- where each fault of the one list that passes is in the other, the other has as many that pass
at_most_none : (p : Parts → Bool) (fs : List Parts) → ((f : Parts) → Contains fs f → p f ≡ true → Contains [] f) → count_by p fs ≤ 0
at_most_none p [] h = omega arith
at_most_none p (f ∷ fs) h = elim (cases_Bool (p f)) [
  | inl is ↦ absurd (none-in f (h f (Contains-first f fs) is))
  | inr isnt ↦ omega (arith, count-isnt p f fs isnt, at_most_none p fs (λ x k. h x (Contains-more f fs x k)))
]

at_most_step : (p : Parts → Bool) (g : Parts) (gs : List Parts)
    → ((fs : List Parts) → IsAscending fs → IsAscending gs → ((f : Parts) → Contains fs f → p f ≡ true → Contains gs f) → count_by p fs ≤ count_by p gs)
    → (fs : List Parts) → IsAscending fs → IsAscending (g ∷ gs) → ((f : Parts) → Contains fs f → p f ≡ true → Contains (g ∷ gs) f)
    → count_by p fs ≤ count_by p (g ∷ gs)
at_most_step p g gs rest [] a b h = omega arith
at_most_step p g gs rest (f ∷ fs) a b h = elim (cases_Bool (p f)) [
  | inr isnt ↦ omega (arith, count-isnt p f fs isnt, at_most_step p g gs rest fs a.1 b (λ x k. h x (Contains-more f fs x k)))
  | inl is ↦ elim (cases_in g gs f (h f (Contains-first f fs) is)) [
    | inl same ↦
        let fewer : count_by p fs ≤ count_by p gs = rest fs a.1 b.1 (λ x k q. elim (cases_in g gs x (h x (Contains-more f fs x k) q)) [
          | inl is_g ↦ absurd (not_itself f (subst (λ y. is_before f y ≡ true) (sym is_g ∙ same) (first-before f fs a x k)))
          | inr later ↦ later
        ]) in
        let one : p g ≡ true = ap p same ∙ is in
        omega (arith, fewer, count-is p f fs is, count-is p g gs one)
    | inr later ↦
        let after : is_before g f ≡ true = first-before g gs b f later in
        let fewer : count_by p (f ∷ fs) ≤ count_by p gs = rest (f ∷ fs) a b.1 (λ x k q. elim (cases_in g gs x (h x k q)) [
          | inr there ↦ there
          | inl is_g ↦ absurd (elim (cases_in f fs x k) [
            | inl is_f ↦ not_itself g (subst (λ y. is_before g y ≡ true) (is_f ∙ sym is_g) after)
            | inr more ↦ not_both f g (subst (λ y. is_before f y ≡ true) (sym is_g) (first-before f fs a x more)) after
          ])
        ]) in
        omega (arith, fewer, count-cons p g gs)
  ]
]

pub at_most : (p : Parts → Bool) (gs fs : List Parts) → IsAscending fs → IsAscending gs → ((f : Parts) → Contains fs f → p f ≡ true → Contains gs f)
    → count_by p fs ≤ count_by p gs
at_most p [] fs a b h = at_most_none p fs h
at_most p (g ∷ gs) fs a b h = at_most_step p g gs (at_most p gs) fs a b h

-- a fault that passes and isn't in the other list, or there is none
fresh_or : (p : Parts → Bool) (gs fs : List Parts)
    → ((f : Parts) × Contains fs f × (p f ≡ true) × (Contains gs f → ⊥)) ⊎ ((f : Parts) → Contains fs f → p f ≡ true → Contains gs f)
fresh_or p gs [] = inr (λ f h _. absurd (none-in f h))
fresh_or p gs (f ∷ fs) = elim (fresh_or p gs fs) [
  | inl found ↦ inl (found.0, Contains-more f fs found.0 found.1, found.2, found.3)
  | inr all ↦ elim (member gs f) [
    | inl there ↦ inr (λ x h q. elim (cases_in f fs x h) [ inl same ↦ subst (Contains gs) same there | inr later ↦ all x later q ])
    | inr none ↦ elim (cases_Bool (p f)) [
      | inl is ↦ inl (f, Contains-first f fs, is, none)
      | inr isnt ↦ inr (λ x h q. elim (cases_in f fs x h) [
        | inl same ↦ let but : p f ≡ true = ap p same ∙ q in cc
        | inr later ↦ all x later q
      ])
    ]
  ]
]

pub fresh : (p : Parts → Bool) (gs fs : List Parts) → IsAscending fs → IsAscending gs → count_by p gs < count_by p fs
    → (f : Parts) × Contains fs f × (p f ≡ true) × (Contains gs f → ⊥)
fresh p gs fs a b h = elim (fresh_or p gs fs) [
  | inl found ↦ found
  | inr all ↦ absurd (omega (arith, h, at_most p gs fs a b all))
]

-- a sum over the numbers below n
abbrev pub total : (ℕ → ℕ) → ℕ → ℕ
total f zero = 0
total f (suc n) = total f n + f n

pub total-add : (f g : ℕ → ℕ) (n : ℕ) → total (λ k. f k + g k) n ≡ total f n + total g n
total-add f g zero = refl
total-add f g (suc n) = omega (arith, total-add f g n)

pub total-same : (f g : ℕ → ℕ) (n : ℕ) → ((k : ℕ) → f k ≡ g k) → total f n ≡ total g n
total-same f g zero h = refl
total-same f g (suc n) h = omega (arith, total-same f g n h, h n)

pub total-zero : (n : ℕ) → total (λ k. 0) n ≡ 0
total-zero zero = refl
total-zero (suc n) = omega (arith, total-zero n)

total-past : (m n : ℕ) → n ≤ m → total (λ k. cond (nat_eq k m) 1 0) n ≡ 0
total-past m zero h = refl
total-past m (suc n) h =
    let other : nat_eq n m ≡ false = ne_eqb n m (λ e. absurd (omega (arith, e, h))) in
    let here : cond {A = ℕ} (nat_eq n m) 1 0 ≡ 0 = none-is (nat_eq n m) other in
    omega (arith, total-past m n (omega (arith, h)), here)

pub total-one : (m n : ℕ) → m < n → total (λ k. cond (nat_eq k m) 1 0) n ≡ 1
total-one m zero h = absurd (omega arith)
total-one m (suc n) h = elim (cases_eq n m) [
  | inl same ↦
      let here : cond {A = ℕ} (nat_eq n m) 1 0 ≡ 1 = one-is (nat_eq n m) (eq-eqb n m same) in
      omega (arith, total-past m n (omega (arith, same)), here)
  | inr other ↦
      let here : cond {A = ℕ} (nat_eq n m) 1 0 ≡ 0 = none-is (nat_eq n m) (ne_eqb n m other) in
      let early : m < n = elim (cases_lt m n) [ inl early ↦ early | inr late ↦ absurd (other (omega (arith, h, late))) ] in
      omega (arith, total-one m n early, here)
]

pub total_less : (f g : ℕ → ℕ) (n : ℕ) → total f n < total g n → (k : ℕ) × (k < n) × (f k < g k)
total_less f g zero h = absurd (omega (arith, h))
total_less f g (suc n) h = elim (cases_lt (f n) (g n)) [
  | inl less ↦ (n, omega arith, less)
  | inr more ↦
      let found = total_less f g n (omega (arith, h, more)) in
      (found.0, omega (arith, found.1), found.2)
]

-- a count by node: the kind's faults are those of its nodes
pub count-total : (P : Parts → Type 0) (p : Parts → Bool) (p_of : ℕ → Parts → Bool) (n : ℕ)
    → ((f : Parts) → P f → cond (p f) 1 0 ≡ total (λ k. cond (p_of k f) 1 0) n)
    → (fs : List Parts) → AllByRecursion P fs → count_by p fs ≡ total (λ k. count_by (p_of k) fs) n
count-total P p p_of n one [] a = sym (total-zero n)
count-total P p p_of n one (f ∷ fs) a =
    let first : cond (p f) 1 0 ≡ total (λ k. cond (p_of k f) 1 0) n = one f a.0 in
    let rest : count_by p fs ≡ total (λ k. count_by (p_of k) fs) n = count-total P p p_of n one fs a.1 in
    let both : total (λ k. count_by (p_of k) (f ∷ fs)) n ≡ total (λ k. cond (p_of k f) 1 0 + count_by (p_of k) fs) n =
    total-same _ _ n (λ k. count-cons (p_of k) f fs) in
    count-cons p f fs
    ∙ (ap (λ x. x + count_by p fs) first
    ∙ (ap (λ x. total (λ k. cond (p_of k f) 1 0) n + x) rest ∙ (sym (total-add (λ k. cond (p_of k f) 1 0) (λ k. count_by (p_of k) fs) n) ∙ sym both)))
