-- What is in lists, and the points of nodes and steps.
use Rattle.std.proofs.Common.{◌≡◌, ◌⊎◌, ℕ, zero, suc, ◌+◌, ◌<◌, ◌≤◌, Bool, true, false, not, ◌||◌, List, [], ◌∷◌, ◌++◌, refl, sym, ap, subst, ◌∙◌, map, inl}
use Rattle.std.proofs.Common.{inr, arith, zero-add}
use Rattle.std.specs.Prelude.{Option, None, Some}
use Rattle.std.specs.List.{Contains, filter, flat_map, list_all, range_with_len}
use Rattle.std.specs.Option.{option_to_list}
use Rattle.std.proofs.lemmas.Bool.{cases_lt, false≢true}
use Rattle.std.proofs.lemmas.List.{append-nil}
use Rattle.std.proofs.lemmas.List.Concat.{flat_map-append}
use Rattle.std.proofs.lemmas.List.Elements.{All-contains, All-contains_itself, Contains-append_cases, Contains-append_left, Contains-append_right}
use Rattle.std.proofs.lemmas.List.Elements.{filter-append}
use Rattle.std.proofs.lemmas.List.FromFn.{map-range_with_len_more}
use Rattle.std.proofs.lemmas.List.Sums.{AllPass-from_list_all, list_all-from_AllPass}
use Rattle.lf_outcome.specs.declared.point.Point.{Point}
use Rattle.lf_outcome.specs.Truth.{points_at, points_to}

-- one test tells what another does
pub iff : (a b : Bool) → (a ≡ true → b ≡ true) → (b ≡ true → a ≡ true) → a ≡ b
iff true b to from = sym (to refl)
iff false true to from = from refl
iff false false to from = refl

-- a test that would make a false one true is false
pub not_so : (a b : Bool) → (a ≡ true → b ≡ true) → b ≡ false → a ≡ false
not_so true b to e = sym (to refl) ∙ e
not_so false b to e = refl

-- a test that all elements pass, at each of them
pub passes : {X : Type 0} (p : X → Bool) (xs : List X) (x : X) → list_all p xs ≡ true → Contains xs x → p x ≡ true
passes p xs x h there = All-contains (λ y. p y ≡ true) xs x (AllPass-from_list_all p xs h) there

pub all_pass : {X : Type 0} (p : X → Bool) (xs : List X) → ((x : X) → Contains xs x → p x ≡ true) → list_all p xs ≡ true
all_pass p xs h = list_all-from_AllPass p xs (λ k d below. h _ (All-contains_itself xs k d below))

-- what is in lists
pub none-there : {X : Type 0} (x : X) → Contains [] x → ⊥
none-there x c = absurd (omega (arith, c.1))

pub only : {X : Type 0} (x y : X) → Contains (y ∷ []) x → x ≡ y
only x y (zero, below, at) = sym at
only x y (suc k, below, at) = absurd (omega (arith, below))

pub first-there : {X : Type 0} (x : X) (xs : List X) → Contains (x ∷ xs) x
first-there x xs = (0, omega arith, refl)

pub later-there : {X : Type 0} (x y : X) (xs : List X) → Contains xs y → Contains (x ∷ xs) y
later-there x y xs c = Contains-append_right (x ∷ []) xs y c

pub from-cons : {X : Type 0} (x y : X) (xs : List X) → Contains (x ∷ xs) y → (y ≡ x) ⊎ Contains xs y
from-cons x y xs c = elim (Contains-append_cases (x ∷ []) xs y c) [
  | inl here ↦ inl (only y x here)
  | inr later ↦ inr later
]

pub in-flat : {X A : Type 0} (f : X → List A) (xs : List X) (a : A) → Contains (flat_map f xs) a → (x : X) × Contains xs x × Contains (f x) a
in-flat f [] a c = absurd (none-there a c)
in-flat f (x ∷ xs) a c = elim (Contains-append_cases (f x) (flat_map f xs) a c) [
  | inl here ↦ (x, first-there x xs, here)
  | inr later ↦
      let found = in-flat f xs a later in
      (found.0, later-there x found.0 xs found.1, found.2)
]

pub flat-in : {X A : Type 0} (f : X → List A) (xs : List X) (x : X) (a : A) → Contains xs x → Contains (f x) a → Contains (flat_map f xs) a
flat-in f [] x a there c = absurd (none-there x there)
flat-in f (y ∷ ys) x a there c = elim (from-cons y x ys there) [
  | inl same ↦ Contains-append_left (f y) (flat_map f ys) a (subst (λ z. Contains (f z) a) same c)
  | inr later ↦ Contains-append_right (f y) (flat_map f ys) a (flat-in f ys x a later c)
]

in-map : {X A : Type 0} (f : X → A) (xs : List X) (a : A) → Contains (map f xs) a → (x : X) × Contains xs x × (f x ≡ a)
in-map f [] a c = absurd (none-there a c)
in-map f (x ∷ xs) a c = elim (from-cons (f x) a (map f xs) c) [
  | inl same ↦ (x, first-there x xs, sym same)
  | inr later ↦
      let found = in-map f xs a later in
      (found.0, later-there x found.0 xs found.1, found.2)
]

map-in : {X A : Type 0} (f : X → A) (xs : List X) (x : X) → Contains xs x → Contains (map f xs) (f x)
map-in f [] x c = absurd (none-there x c)
map-in f (y ∷ ys) x c = elim (from-cons y x ys c) [
  | inl same ↦ subst (λ z. Contains (map f (y ∷ ys)) (f z)) (sym same) (first-there (f y) (map f ys))
  | inr later ↦ later-there (f y) (f x) (map f ys) (map-in f ys x later)
]

in-range : (a n k : ℕ) → Contains (range_with_len a n) k → (a ≤ k) × (k < a + n)
in-range a zero k c = absurd (none-there k c)
in-range a (suc n) k c = elim (from-cons a k (range_with_len (a + 1) n) c) [
  | inl same ↦ (omega (arith, same), omega (arith, same))
  | inr later ↦
      let found = in-range (a + 1) n k later in
      (omega (arith, found.0), omega (arith, found.1))
]

range-in : (a n k : ℕ) → a ≤ k → k < a + n → Contains (range_with_len a n) k
range-in a zero k low high = absurd (omega (arith, low, high))
range-in a (suc n) k low high = elim (cases_lt a k) [
  | inl later ↦ later-there a k (range_with_len (a + 1) n) (range-in (a + 1) n k (omega (arith, later)) (omega (arith, high)))
  | inr first ↦
      let same : a ≡ k = omega (arith, low, first) in
      subst (Contains (range_with_len a (suc n))) same (first-there a (range_with_len (a + 1) n))
]

pub in-option : {X : Type 0} (o : Option X) (x : X) → Contains (option_to_list o) x → o ≡ Some x
in-option None x c = absurd (none-there x c)
in-option (Some y) x c = ap Some (sym (only x y c))

-- two ways out of a disjunction
pub by_test : (a b : Bool) → (a ≡ true → b ≡ true) → (not a || b) ≡ true
by_test true b h = h refl
by_test false b h = refl

pub awake-counts : (a b : Bool) → (not a || b) ≡ true → a ≡ true → b ≡ true
awake-counts true b h up = h
awake-counts false b h up = absurd (false≢true up)

-- the points of so many nodes at a step, and at the steps 1 to the last
abbrev pub point : ℕ → ℕ → Point
point t n = record { node = n; step = t }

pub in-points_at : (nodes t : ℕ) (p : Point) → Contains (points_at nodes t) p → (p.node < nodes) × (p.step ≡ t)
in-points_at nodes t p c =
    let found = in-map (point t) (range_with_len 0 nodes) p c in
    let within = (in-range 0 nodes found.0 found.1).1 in
    let node : found.0 ≡ p.node = ap (λ (q : Point). q.node) found.2 in
    (omega (arith, within, node), sym (ap (λ (q : Point). q.step) found.2))

pub points_at-in : (nodes t n : ℕ) → n < nodes → Contains (points_at nodes t) (record { node = n; step = t })
points_at-in nodes t n within =
    map-in (point t) (range_with_len 0 nodes) n (range-in 0 nodes n (omega arith) (omega (arith, within)))

pub in-points : (nodes last : ℕ) (p : Point) → Contains (points_to nodes last) p → (p.node < nodes) × (1 ≤ p.step) × (p.step ≤ last)
in-points nodes last p c =
    let found = in-flat (points_at nodes) (range_with_len 1 last) p c in
    let there = in-points_at nodes found.0 p found.2 in
    let step = in-range 1 last found.0 found.1 in
    (there.0, omega (arith, there.1, step.0), omega (arith, there.1, step.1))

pub points-in : (nodes last n t : ℕ) → n < nodes → 1 ≤ t → t ≤ last → Contains (points_to nodes last) (record { node = n; step = t })
points-in nodes last n t within low high =
    flat-in (points_at nodes) (range_with_len 1 last) t (record { node = n; step = t }) (range-in 1 last t low (omega (arith, high)))
    (points_at-in nodes t n within)

-- one node or step more
pub points_at-more : (n t : ℕ) → points_at (n + 1) t ≡ points_at n t ++ record { node = n; step = t } ∷ []
points_at-more n t = map-range_with_len_more (λ n. record { node = n; step = t }) 0 n n (zero-add n)

map-same : (xs : List ℕ) → map (λ k. k) xs ≡ xs
map-same [] = refl
map-same (x ∷ xs) = ap (λ ks. x ∷ ks) (map-same xs)

range-more : (a n : ℕ) → range_with_len a (n + 1) ≡ range_with_len a n ++ (a + n) ∷ []
range-more a n = sym (map-same (range_with_len a (n + 1))) ∙ map-range_with_len_more (λ k. k) a n (a + n) refl
    ∙ ap (λ ks. ks ++ (a + n) ∷ []) (map-same (range_with_len a n))

pub points_to-more : (nodes t : ℕ) → points_to nodes (t + 1) ≡ points_to nodes t ++ points_at nodes (t + 1)
points_to-more nodes t =
    ap (flat_map (points_at nodes)) (range-more 1 t)
    ∙ flat_map-append (points_at nodes) (range_with_len 1 t) ((1 + t) ∷ [])
    ∙ ap (λ ps. points_to nodes t ++ ps) (append-nil (points_at nodes (1 + t)))
    ∙ ap (λ u. points_to nodes t ++ points_at nodes u) (omega arith)

-- points that a test leaves out
module _ (test : Point → Bool) where
  left-out : (p : Point) → test p ≡ false → filter test (p ∷ []) ≡ []
  left-out p e = rw e refl

  pub fewer-nodes : (few t k : ℕ) → ((n : ℕ) → few ≤ n → test (point t n) ≡ false) → filter test (points_at (few + k) t) ≡ filter test (points_at few t)
  fewer-nodes few t zero h = ap (λ n. filter test (points_at n t)) (omega arith)
  fewer-nodes few t (suc k) h =
      let next : few + suc k ≡ (few + k) + 1 = omega arith in
      ap (λ n. filter test (points_at n t)) next
      ∙ ap (filter test) (points_at-more (few + k) t) ∙ filter-append test (points_at (few + k) t) (point t (few + k) ∷ [])
      ∙ ap (λ ps. filter test (points_at (few + k) t) ++ ps) (left-out (point t (few + k)) (h (few + k) (omega arith)))
      ∙ append-nil (filter test (points_at (few + k) t)) ∙ fewer-nodes few t k h

  no-nodes : (nodes t : ℕ) → ((n : ℕ) → test (point t n) ≡ false) → filter test (points_at nodes t) ≡ []
  no-nodes nodes t h = ap (λ n. filter test (points_at n t)) (sym (zero-add nodes)) ∙ fewer-nodes 0 t nodes (λ n low. h n)

  pub one-step : (nodes t : ℕ) → filter test (points_to nodes (t + 1)) ≡ filter test (points_to nodes t) ++ filter test (points_at nodes (t + 1))
  one-step nodes t = ap (filter test) (points_to-more nodes t) ∙ filter-append test (points_to nodes t) (points_at nodes (t + 1))

  pub fewer-steps : (nodes end k : ℕ) → ((n t : ℕ) → end < t → test (point t n) ≡ false)
      → filter test (points_to nodes (end + k)) ≡ filter test (points_to nodes end)
  fewer-steps nodes end zero h = ap (λ t. filter test (points_to nodes t)) (omega arith)
  fewer-steps nodes end (suc k) h =
      let next : end + suc k ≡ (end + k) + 1 = omega arith in
      ap (λ t. filter test (points_to nodes t)) next ∙ one-step nodes (end + k)
      ∙ ap (λ ps. filter test (points_to nodes (end + k)) ++ ps) (no-nodes nodes ((end + k) + 1) (λ n. h n ((end + k) + 1) (omega arith)))
      ∙ append-nil (filter test (points_to nodes (end + k))) ∙ fewer-steps nodes end k h

  pub each-step : (few nodes end : ℕ) → ((t : ℕ) → filter test (points_at few t) ≡ filter test (points_at nodes t))
      → filter test (points_to few end) ≡ filter test (points_to nodes end)
  each-step few nodes zero h = refl
  each-step few nodes (suc t) h =
      let next : suc t ≡ t + 1 = omega arith in
      ap (λ u. filter test (points_to few u)) next ∙ one-step few t
      ∙ ap (λ ps. ps ++ filter test (points_at few (t + 1))) (each-step few nodes t h)
      ∙ ap (λ ps. filter test (points_to nodes t) ++ ps) (h (t + 1))
      ∙ sym (one-step nodes t) ∙ ap (λ u. filter test (points_to nodes u)) (sym next)
