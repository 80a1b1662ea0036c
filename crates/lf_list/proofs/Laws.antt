-- Facts of lists that more than one crate needs and that std hasn't: members, what holds of each element, and what can be decided.
use Rattle.std.proofs.Common.{◌≡◌, ℕ, zero, suc, ◌<◌, ◌≤◌, Bool, true, false, List, [], ◌∷◌, length, get_or, refl, sym, subst, arith, inl, inr}
use Rattle.std.specs.Prelude.{◌⊎◌}
use Rattle.std.specs.List.{AllByRecursion, Contains}
use Rattle.std.proofs.lemmas.Bool.{cases_eq, cases_lt, both_ways}

-- an empty list has no element
pub none-in : {X : Type 0} (x : X) → Contains [] x → ⊥
none-in x h = absurd (omega (arith, h.1))

-- a list has its first element
pub Contains-first : {X : Type 0} (x : X) (xs : List X) → Contains (x ∷ xs) x
Contains-first x xs = (0, omega arith, refl)

-- and those that follow
pub Contains-more : {X : Type 0} (y : X) (xs : List X) (x : X) → Contains xs x → Contains (y ∷ xs) x
Contains-more y xs x h = (suc h.0, omega (arith, h.1), h.2)

cases_place : {X : Type 0} (y : X) (xs : List X) (x : X) (k : ℕ) → k < length (y ∷ xs) → get_or (y ∷ xs) k x ≡ x → (y ≡ x) ⊎ Contains xs x
cases_place y xs x zero h e = inl e
cases_place y xs x (suc k) h e = inr (k, omega (arith, h), e)

-- and no other
pub cases_in : {X : Type 0} (y : X) (xs : List X) (x : X) → Contains (y ∷ xs) x → (y ≡ x) ⊎ Contains xs x
cases_in y xs x h = cases_place y xs x h.0 h.1 h.2

-- what holds of each element holds of a member
pub each-in : {X : Type 0} (P : X → Type 0) (xs : List X) → AllByRecursion P xs → (x : X) → Contains xs x → P x
each-in P [] a x h = absurd (none-in x h)
each-in P (y ∷ ys) a x h = elim (cases_in y ys x h) [
  | inl same ↦ subst P same a.0
  | inr later ↦ each-in P ys a.1 x later
]

-- and what holds of each member holds of each element
pub each-from : {X : Type 0} (P : X → Type 0) (xs : List X) → ((x : X) → Contains xs x → P x) → AllByRecursion P xs
each-from P [] h = tt
each-from P (y ∷ ys) h = (h y (Contains-first y ys), each-from P ys (λ x k. h x (Contains-more y ys x k)))

-- A statement is decided by a proof of it, or of its contrary
abbrev pub Decided : Type 0 → Type 0
Decided P = P ⊎ (P → ⊥)

-- two statements
pub decide_both : (P Q : Type 0) → Decided P → Decided Q → Decided (P × Q)
decide_both P Q (inl p) (inl q) = inl (p, q)
decide_both P Q (inl p) (inr never) = inr (λ h. never h.1)
decide_both P Q (inr never) q = inr (λ h. never h.0)

-- the contrary
pub decide_not : (P : Type 0) → Decided P → Decided (P → ⊥)
decide_not P (inl p) = inr (λ never. never p)
decide_not P (inr never) = inl never

-- the same, said otherwise
pub decide_iff : (P Q : Type 0) → (P → Q) → (Q → P) → Decided P → Decided Q
decide_iff P Q to from (inl p) = inl (to p)
decide_iff P Q to from (inr never) = inr (λ q. never (from q))

-- what a test finds
pub decide_is : (x y : Bool) → Decided (x ≡ y)
decide_is true true = inl refl
decide_is true false = inr (λ e. both_ways false refl (sym e))
decide_is false true = inr (λ e. both_ways false refl e)
decide_is false false = inl refl

-- numbers
pub decide_le : (m n : ℕ) → Decided (m ≤ n)
decide_le m n = elim (cases_lt n m) [ inl more ↦ inr (λ few. omega (arith, more, few)) | inr few ↦ inl few ]

pub decide_apart : (m n : ℕ) → Decided (m ≡ n → ⊥)
decide_apart m n = elim (cases_eq m n) [ inl same ↦ inr (λ other. other same) | inr other ↦ inl other ]

-- each element of a list
pub decide_each : {X : Type 0} (P : X → Type 0) → ((x : X) → Decided (P x)) → (xs : List X) → Decided (AllByRecursion P xs)
decide_each P d [] = inl tt
decide_each P d (x ∷ xs) = decide_both (P x) (AllByRecursion P xs) (d x) (decide_each P d xs)

-- each number below a number
pub decide_each_below : (P : ℕ → Type 0) → ((k : ℕ) → Decided (P k)) → (n : ℕ) → Decided ((k : ℕ) → k < n → P k)
decide_each_below P d zero = inl (λ k h. absurd (omega (arith, h)))
decide_each_below P d (suc n) = elim (decide_each_below P d n) [
  | inr never ↦ inr (λ h. never (λ k few. h k (omega (arith, few))))
  | inl early ↦ elim (d n) [
    | inr never ↦ inr (λ h. never (h n (omega arith)))
    | inl last ↦ inl (λ k few. below_suc P n early last k few)
  ]
]
  where
    below_suc : (P : ℕ → Type 0) (n : ℕ) → ((k : ℕ) → k < n → P k) → P n → (k : ℕ) → k < suc n → P k
    below_suc P n early last k few = elim (cases_eq k n) [
      | inl same ↦ subst P (sym same) last
      | inr other ↦ early k (omega (arith, few, other))
    ]

-- some number below a number
pub decide_some_below : (P : ℕ → Type 0) → ((k : ℕ) → Decided (P k)) → (n : ℕ) → Decided ((k : ℕ) × (k < n) × P k)
decide_some_below P d zero = inr (λ h. omega (arith, h.1))
decide_some_below P d (suc n) = elim (d n) [
  | inl here ↦ inl (n, omega arith, here)
  | inr not_here ↦ elim (decide_some_below P d n) [
    | inl found ↦ inl (found.0, omega (arith, found.1), found.2)
    | inr none ↦ inr (λ h. elim (cases_eq h.0 n) [
      | inl same ↦ not_here (subst P same h.2)
      | inr other ↦ none (h.0, omega (arith, h.1, other), h.2)
    ])
  ]
]
