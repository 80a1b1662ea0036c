-- A change at the place of a rule is that of the rule with so many before it.
use Rattle.std.proofs.Common.{◌≡◌, ℕ, zero, suc, ◌+◌, ◌-◌, ◌<◌, ◌≤◌, List, [], ◌∷◌, length, take}
use Rattle.std.proofs.Common.{refl, sym, ap, ◌∙◌, arith, subst, slice_index_or}
use Rattle.std.specs.Prelude.{Option, None, Some, slice_get, slice_set, nat_lt}
use Rattle.std.specs.List.{sum_by}
use Rattle.std.specs.Option.{option_map, option_and_then}
use Rattle.std.proofs.lemmas.Bool.{cond-true, cond-false, lt-ltb, le-ltb}
use Rattle.std.proofs.lemmas.List.Sums.{sum-map, sum_by-cons, sum_by_more, sum_by_more_le}
use Rattle.std.proofs.lemmas.Option.{none-some, same_Some}
use Rattle.lf_rules.specs.declared.rule.Rule.{Rule}
use Rattle.lf_rules.specs.declared.rule.Chain.{Chain}
use Rattle.lf_rules.specs.declared.definition.Definition.{Definition}
use Rattle.lf_rules.specs.Forms.{rules_in}
use Rattle.lf_mutations.specs.declared.mutation.Mutation.{Mutation}
use Rattle.lf_mutations.specs.declared.places.Place.{Place}
use Rattle.lf_mutations.specs.Mutations.{changed, in_rules, in_chains, in_numbered, number_of, mutated}
use Rattle.lf_mutations.specs.Places.{IsPlace, in_rules_at, at_place}

-- ---- maps of options

pub map-map : {A B C : Type 0} (g : B → C) (f : A → B) (o : Option A) → option_map g (option_map f o) ≡ option_map (λ x. g (f x)) o
map-map g f None = refl
map-map g f (Some x) = refl

pub map-and_then : {A B C : Type 0} (g : B → C) (f : A → Option B) (o : Option A)
    → option_map g (option_and_then f o) ≡ option_and_then (λ x. option_map g (f x)) o
map-and_then g f None = refl
map-and_then g f (Some x) = refl

and_then-each : {A B : Type 0} (f g : A → Option B) (o : Option A) → ((x : A) → f x ≡ g x) → option_and_then f o ≡ option_and_then g o
and_then-each f g None same = refl
and_then-each f g (Some x) same = same x

-- ---- rules

-- the rules of a chain and of those after it
pub rules-cons : (x : Chain) (xs : List Chain) → rules_in (x ∷ xs) ≡ length x.rules + rules_in xs
rules-cons x xs =
    let of = λ (y : Chain). length y.rules in
    sum-map of (x ∷ xs) ∙ sum_by-cons of x xs ∙ ap (λ n. length x.rules + n) (sym (sum-map of xs))

-- the rules before a chain, with its own, are those before the next, and some of all
pub rules-next : (xs : List Chain) (i : ℕ) (x : Chain) → i < length xs → x ≡ slice_index_or xs i x
    → rules_in (take (i + 1) xs) ≡ rules_in (take i xs) + length x.rules
rules-next xs i x low is =
    let of = λ (y : Chain). length y.rules in
    sum-map of (take (i + 1) xs) ∙ sum_by_more of xs i x low ∙ ap (λ n. sum_by of (take i xs) + n) (ap of (sym is))
    ∙ ap (λ n. n + length x.rules) (sym (sum-map of (take i xs)))

pub rules-fit : (xs : List Chain) (i : ℕ) (x : Chain) → i < length xs → x ≡ slice_index_or xs i x → rules_in (take i xs) + length x.rules ≤ rules_in xs
rules-fit xs i x low is =
    let of = λ (y : Chain). length y.rules in
    let some : sum_by of (take i xs) + of (slice_index_or xs i x) ≤ sum_by of xs = sum_by_more_le of xs i x low in
    let here : of x ≡ of (slice_index_or xs i x) = ap of is in
    let before : rules_in (take i xs) ≡ sum_by of (take i xs) = sum-map of (take i xs) in
    let all : rules_in xs ≡ sum_by of xs = sum-map of xs in
    omega arith

-- the number of the rule behind those of a chain more
pub chain-next : (xs : List Chain) (i : ℕ) (x : Chain) (rules : List Rule) (n next : ℕ) → i < length xs → x ≡ slice_index_or xs i x → rules ≡ x.rules
    → n ≡ 1 + rules_in (take i xs) → next ≡ n + length rules → next ≡ 1 + rules_in (take (i + 1) xs)
chain-next xs i x rules n next low is are from to =
    let more : rules_in (take (i + 1) xs) ≡ rules_in (take i xs) + length x.rules = rules-next xs i x low is in
    let same : length rules ≡ length x.rules = ap length are in
    omega (arith, from, to, more, same)

pub in_rules-at : (m : Mutation) (k : ℕ) (xs : List Rule) → in_rules m k xs ≡ in_rules_at m k xs
in_rules-at m k [] = refl
in_rules-at m zero (x ∷ xs) = refl
in_rules-at m (suc k) (x ∷ xs) =
    ap (option_map (λ ys. x ∷ ys)) (in_rules-at m k xs)
    ∙ map-and_then (λ ys. x ∷ ys) (λ z. option_map (λ y. slice_set xs k y) (changed m z)) (slice_get xs k)
    ∙ and_then-each (λ z. option_map (λ ys. x ∷ ys) (option_map (λ y. slice_set xs k y) (changed m z)))
    (λ z. option_map (λ y. x ∷ slice_set xs k y) (changed m z)) (slice_get xs k)
    (λ z. map-map (λ ys. x ∷ ys) (λ y. slice_set xs k y) (changed m z))

-- ---- chains

-- the change in a chain with an index, of its rule with an index
abbrev at_indices : Mutation → ℕ → ℕ → List Chain → Option (List Chain)
at_indices m i j xs = option_and_then (λ x. option_map (λ rules. slice_set xs i (record x { rules = rules })) (in_rules_at m j x.rules)) (slice_get xs i)

pub in_chains-here : (m : Mutation) (k : ℕ) (x : Chain) (xs : List Chain) → k < length x.rules
    → in_chains m k (x ∷ xs) ≡ option_map (λ rules. record x { rules = rules } ∷ xs) (in_rules m k x.rules)
in_chains-here m k x xs low =
    cond-true (nat_lt k (length x.rules)) (option_map (λ rules. record x { rules = rules } ∷ xs) (in_rules m k x.rules))
    (option_map (λ ys. x ∷ ys) (in_chains m (k - length x.rules) xs)) (lt-ltb k (length x.rules) low)

pub in_chains-later : (m : Mutation) (k : ℕ) (x : Chain) (xs : List Chain) → length x.rules ≤ k
    → in_chains m k (x ∷ xs) ≡ option_map (λ ys. x ∷ ys) (in_chains m (k - length x.rules) xs)
in_chains-later m k x xs high =
    cond-false (nat_lt k (length x.rules)) (option_map (λ rules. record x { rules = rules } ∷ xs) (in_rules m k x.rules))
    (option_map (λ ys. x ∷ ys) (in_chains m (k - length x.rules) xs)) (le-ltb k (length x.rules) high)

in_chains-indices : (m : Mutation) (k i j : ℕ) (c : Chain) (xs : List Chain) → slice_get xs i ≡ Some c → j < length c.rules
    → rules_in (take i xs) + j ≡ k → in_chains m k xs ≡ at_indices m i j xs
in_chains-indices m k i j c [] there low count = absurd (none-some c there)
in_chains-indices m k zero j c (x ∷ xs) there low count =
    let same : x ≡ c = same_Some x c there in
    let few : j < length x.rules = subst (λ (y : Chain). j < length y.rules) (sym same) low in
    let sum : 0 + j ≡ k = count in
    let is : j ≡ k = omega (arith, sum) in
    in_chains-here m k x xs (subst (λ n. n < length x.rules) is few)
    ∙ ap (λ n. option_map (λ rules. record x { rules = rules } ∷ xs) (in_rules m n x.rules)) (sym is)
    ∙ ap (option_map (λ rules. record x { rules = rules } ∷ xs)) (in_rules-at m j x.rules)
in_chains-indices m k (suc i) j c (x ∷ xs) there low count =
    let before : rules_in (x ∷ take i xs) ≡ length x.rules + rules_in (take i xs) = rules-cons x (take i xs) in
    let rest : rules_in (take i xs) + j ≡ k - length x.rules = omega (arith, before, count) in
    in_chains-later m k x xs (omega (arith, before, count))
    ∙ ap (option_map (λ ys. x ∷ ys)) (in_chains-indices m (k - length x.rules) i j c xs there low rest)
    ∙ map-and_then (λ ys. x ∷ ys) (λ z. option_map (λ rules. slice_set xs i (record z { rules = rules })) (in_rules_at m j z.rules)) (slice_get xs i)
    ∙ and_then-each (λ z. option_map (λ ys. x ∷ ys) (option_map (λ rules. slice_set xs i (record z { rules = rules })) (in_rules_at m j z.rules)))
    (λ z. option_map (λ rules. x ∷ slice_set xs i (record z { rules = rules })) (in_rules_at m j z.rules)) (slice_get xs i)
    (λ z. map-map (λ ys. x ∷ ys) (λ rules. slice_set xs i (record z { rules = rules })) (in_rules_at m j z.rules))

pub in_chains-place : (m : Mutation) (k : ℕ) (at : Place) (xs : List Chain) → IsPlace xs k at → in_chains m k xs ≡ at_place m at xs
in_chains-place m k at xs place = in_chains-indices m k at.chain at.rule place.is_in.chain xs place.is_in.there place.is_in.within place.count

-- no rule has more before it than there are
pub in_chains-none : (m : Mutation) (k : ℕ) (xs : List Chain) → rules_in xs ≤ k → in_chains m k xs ≡ None
in_chains-none m k [] few = refl
in_chains-none m k (x ∷ xs) few =
    let all : rules_in (x ∷ xs) ≡ length x.rules + rules_in xs = rules-cons x xs in
    in_chains-later m k x xs (omega (arith, all, few)) ∙ ap (option_map (λ ys. x ∷ ys)) (in_chains-none m (k - length x.rules) xs (omega (arith, all, few)))

-- ---- definitions

mutated-numbered : (d : Definition) (m : Mutation) (k : ℕ) → number_of m ≡ k + 1
    → mutated d m ≡ option_map (λ chains. record d { chains = chains }) (in_chains m k d.chains)
mutated-numbered d m k is =
    let same : number_of m ≡ suc k = omega (arith, is) in
    ap (λ n. option_map (λ chains. record d { chains = chains }) (in_numbered m n d.chains)) same

-- there is no rule with the number
pub mutated-none : (d : Definition) (m : Mutation) (k : ℕ) (xs : List Chain) → number_of m ≡ k + 1 → xs ≡ d.chains → rules_in xs ≤ k → mutated d m ≡ None
mutated-none d m k xs number are few =
    let all : rules_in d.chains ≤ k = subst (λ (zs : List Chain). rules_in zs ≤ k) are few in
    mutated-numbered d m k number ∙ ap (option_map (λ (zs : List Chain). record d { chains = zs })) (in_chains-none m k d.chains all)

-- there is one, and what comes of its chains is known
pub mutated-place : (d : Definition) (m : Mutation) (k : ℕ) (xs : List Chain) (at : Place) (made : Option (List Chain))
    → number_of m ≡ k + 1 → xs ≡ d.chains → IsPlace xs k at → made ≡ at_place m at d.chains
    → option_map (λ (zs : List Chain). record d { chains = zs }) made ≡ mutated d m
mutated-place d m k xs at made number are place is =
    let here : IsPlace d.chains k at = subst (λ (zs : List Chain). IsPlace zs k at) are place in
    ap (option_map (λ (zs : List Chain). record d { chains = zs })) (is ∙ sym (in_chains-place m k at d.chains here)) ∙ sym (mutated-numbered d m k number)
