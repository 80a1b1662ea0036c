-- The list of all changes has each that can be made, once.
use Rattle.std.proofs.Common.{◌≡◌, ℕ, zero, suc, ◌+◌, ◌-◌, ◌<◌, ◌≤◌, Bool, true, false, List, [], ◌∷◌, ◌++◌, length, drop, slice_index_or}
use Rattle.std.proofs.Common.{refl, sym, ap, ◌∙◌, arith, subst, inl, inr, append_assoc}
use Rattle.std.specs.Prelude.{Some, IsSome, slice_get}
use Rattle.std.specs.List.{Contains}
use Rattle.std.proofs.lemmas.Bool.{cases_eq}
use Rattle.std.proofs.lemmas.List.{drop_more}
use Rattle.std.proofs.lemmas.List.Elements.{Contains-append_left, Contains-append_right, Contains-append_cases}
use Rattle.std.proofs.lemmas.Option.{none-some, same_Some, slice_get_within, get_or_from_slice_get}
use Rattle.lf_list.proofs.Laws.{none-in, Contains-first, Contains-more, cases_in}
use Rattle.lf_rules.specs.declared.rule.Assignment.{Assignment}
use Rattle.lf_rules.specs.declared.rule.Send.{Send}
use Rattle.lf_rules.specs.declared.rule.Rule.{Rule}
use Rattle.lf_rules.specs.declared.rule.Chain.{Chain}
use Rattle.lf_rules.specs.declared.definition.Definition.{Definition}
use Rattle.lf_mutations.specs.declared.mutation.Mutation.{Mutation}
use Rattle.lf_mutations.specs.declared.mutation.Mutation.TheVariants as those
use Rattle.lf_mutations.specs.Mutations.{number_of, mutated, each_place, left_out, mutations_of, mutations_from, mutations, rules_of}
use Rattle.lf_mutations.specs.Changes.{HasIt}
use Rattle.lf_mutations.proofs.ChangesLemmas.{there-from, there-made}

-- ---- the list of more rules

pub mutations_from-append : (deep : Bool) (k : ℕ) (xs ys : List Rule)
    → mutations_from deep k (xs ++ ys) ≡ mutations_from deep k xs ++ mutations_from deep (k + length xs) ys
mutations_from-append deep k [] ys =
    let same : k ≡ k + 0 = omega arith in
    ap (λ n. mutations_from deep n ys) same
mutations_from-append deep k (x ∷ xs) ys =
    let same : k + 1 + length xs ≡ k + suc (length xs) = omega arith in
    ap (λ t. mutations_of deep k x ++ t) (mutations_from-append deep (k + 1) xs ys)
    ∙ ap (λ n. mutations_of deep k x ++ (mutations_from deep (k + 1) xs ++ mutations_from deep n ys)) same
    ∙ sym (append_assoc (mutations_of deep k x) (mutations_from deep (k + 1) xs) (mutations_from deep (k + suc (length xs)) ys))

-- a chain more of those that are left
pub chain-added : (deep : Bool) (n : ℕ) (old new : List Mutation) (xs : List Chain) (i : ℕ) (x : Chain) (rules : List Rule)
    → i < length xs → x ≡ slice_index_or xs i x → rules ≡ x.rules → new ≡ old ++ mutations_from deep n rules
    → new ++ mutations_from deep (n + length rules) (rules_of (drop (i + 1) xs)) ≡ old ++ mutations_from deep n (rules_of (drop i xs))
chain-added deep n old new xs i x rules low is are added =
    let rest = rules_of (drop (i + 1) xs) in
    let more : rules_of (drop i xs) ≡ x.rules ++ rest =
    ap rules_of (drop_more xs i x low) ∙ ap (λ (y : Chain). y.rules ++ rest) (sym is) in
    ap (λ t. t ++ mutations_from deep (n + length rules) rest) added
    ∙ append_assoc old (mutations_from deep n rules) (mutations_from deep (n + length rules) rest)
    ∙ ap (λ t. old ++ t) (sym (mutations_from-append deep n rules rest))
    ∙ ap (λ (zs : List Rule). old ++ mutations_from deep n (zs ++ rest)) are
    ∙ ap (λ (zs : List Rule). old ++ mutations_from deep n zs) (sym more)

-- the changes of a rule, added one after another
pub rule-added : (deep : Bool) (n : ℕ) (x : Rule) (sets : List Assignment) (sends : List Send) (a b c e f : List Mutation)
    → deep ≡ true → sets ≡ x.sets → sends ≡ x.sends → b ≡ a ++ those.Never n ∷ [] → c ≡ b ++ those.Always n ∷ []
    → e ≡ c ++ each_place (those.Unset n) 1 sets → f ≡ e ++ each_place (those.Unsent n) 1 sends → f ≡ a ++ mutations_of deep n x
rule-added deep n x sets sends a b c e f is are_sets are_sends one two three four =
    let unset = each_place (those.Unset n) 1 x.sets in
    let unsent = each_place (those.Unsent n) 1 x.sends in
    four ∙ ap (λ t. t ++ each_place (those.Unsent n) 1 sends) three
    ∙ ap (λ (zs : List Assignment). (c ++ each_place (those.Unset n) 1 zs) ++ each_place (those.Unsent n) 1 sends) are_sets
    ∙ ap (λ (zs : List Send). (c ++ unset) ++ each_place (those.Unsent n) 1 zs) are_sends
    ∙ ap (λ (t : List Mutation). (t ++ unset) ++ unsent) (two ∙ ap (λ (t : List Mutation). t ++ those.Always n ∷ []) one)
    ∙ joined a (those.Never n) (those.Always n) unset unsent
    ∙ ap (λ t. a ++ (those.Never n ∷ those.Always n ∷ left_out t n x)) (sym is)
  where
    joined : (a : List Mutation) (y z : Mutation) (s t : List Mutation)
        → (((a ++ y ∷ []) ++ z ∷ []) ++ s) ++ t ≡ a ++ (y ∷ z ∷ (s ++ t))
    joined a y z s t = simp append_assoc

-- ---- no item twice

abbrev Apart : {X : Type 0} → List X → Type 0
Apart [] = Unit {0}
Apart (x ∷ xs) = (Contains xs x → ⊥) × Apart xs

apart-append : {X : Type 0} (xs ys : List X) → Apart xs → Apart ys → ((x : X) → Contains xs x → Contains ys x → ⊥) → Apart (xs ++ ys)
apart-append [] ys one two never = two
apart-append (x ∷ xs) ys one two never = (
  (λ h. elim (Contains-append_cases xs ys x h) [ inl early ↦ one.0 early | inr late ↦ never x (Contains-first x xs) late ]),
  apart-append xs ys one.1 two (λ z early late. never z (Contains-more x xs z early) late),
)

contains-at : {X : Type 0} (xs : List X) (i : ℕ) (x : X) → slice_get xs i ≡ Some x → Contains xs x
contains-at xs i x there = (i, slice_get_within xs i x there, get_or_from_slice_get xs i x x there)

apart-once : {X : Type 0} (xs : List X) (i j : ℕ) (x : X) → Apart xs → slice_get xs i ≡ Some x → slice_get xs j ≡ Some x → i ≡ j
apart-once [] i j x apart one two = absurd (none-some x one)
apart-once (y ∷ ys) zero zero x apart one two = refl
apart-once (y ∷ ys) zero (suc j) x apart one two = absurd (apart.0 (subst (λ z. Contains ys z) (sym (same_Some y x one)) (contains-at ys j x two)))
apart-once (y ∷ ys) (suc i) zero x apart one two = absurd (apart.0 (subst (λ z. Contains ys z) (sym (same_Some y x two)) (contains-at ys i x one)))
apart-once (y ∷ ys) (suc i) (suc j) x apart one two = ap suc (apart-once ys i j x apart.1 one two)

-- ---- places

module _ {X : Type 0} (leave : ℕ → Mutation) where
  pub record IsLeft (p : ℕ) (xs : List X) (m : Mutation) : Type 0 where
    pub place : ℕ
    pub is : leave place ≡ m
    pub first : p ≤ place
    pub last : place < p + length xs

  left-in : (p : ℕ) (xs : List X) (m : Mutation) → Contains (each_place leave p xs) m → IsLeft p xs m
  left-in p [] m h = absurd (none-in m h)
  left-in p (x ∷ xs) m h = elim (cases_in (leave p) (each_place leave (p + 1) xs) m h) [
    | inl same ↦ record { place = p; is = same; first = omega arith; last = omega arith }
    | inr later ↦ more x (left-in (p + 1) xs m later)
  ]
    where
      more : (x : X) → IsLeft (p + 1) xs m → IsLeft p (x ∷ xs) m
      more x it =
          let first = it.first in
          let last = it.last in
          record { place = it.place; is = it.is; first = omega (arith, first); last = omega (arith, last) }

  in-left : (p q : ℕ) (xs : List X) → p ≤ q → q < p + length xs → Contains (each_place leave p xs) (leave q)
  in-left p q [] first last = absurd (omega (arith, first, last))
  in-left p q (x ∷ xs) first last = elim (cases_eq p q) [
    | inl same ↦ subst (λ n. Contains (leave p ∷ each_place leave (p + 1) xs) (leave n)) same (Contains-first (leave p) (each_place leave (p + 1) xs))
    | inr other ↦
        Contains-more (leave p) (each_place leave (p + 1) xs) (leave q)
        (in-left (p + 1) q xs (omega (arith, first, other)) (omega (arith, last)))
  ]

  left-apart : ((a b : ℕ) → leave a ≡ leave b → a ≡ b) → (p : ℕ) (xs : List X) → Apart (each_place leave p xs)
  left-apart own p [] = tt
  left-apart own p (x ∷ xs) = (never, left-apart own (p + 1) xs)
    where
      never : Contains (each_place leave (p + 1) xs) (leave p) → ⊥
      never h =
          let it = left-in (p + 1) xs (leave p) h in
          let same : it.place ≡ p = own it.place p it.is in
          let first = it.first in
          omega (arith, same, first)

-- ---- one rule

-- which change it is, and where
abbrev kind_of : Mutation → ℕ
kind_of (those.Never n) = 0
kind_of (those.Always n) = 1
kind_of (those.Unset n place) = 2
kind_of (those.Unsent n place) = 3

abbrev place_of : Mutation → ℕ
place_of (those.Never n) = 0
place_of (those.Always n) = 0
place_of (those.Unset n place) = place
place_of (those.Unsent n place) = place

unset-own : (rule a b : ℕ) → those.Unset rule a ≡ those.Unset rule b → a ≡ b
unset-own rule a b same = ap place_of same

unsent-own : (rule a b : ℕ) → those.Unsent rule a ≡ those.Unsent rule b → a ≡ b
unsent-own rule a b same = ap place_of same

-- what is left out is of a later kind
pub record IsLeftOut (rule : ℕ) (x : Rule) (m : Mutation) : Type 0 where
  pub number : number_of m ≡ rule
  pub has : HasIt m x
  pub kind : 2 ≤ kind_of m

sets-left : (rule : ℕ) (x : Rule) (m : Mutation) → IsLeft (those.Unset rule) 1 x.sets m → IsLeftOut rule x m
sets-left rule x m it =
    let first = it.first in
    let last = it.last in
    subst (IsLeftOut rule x) it.is
    (record { number = refl; has = record { first = first; last = omega (arith, last) }; kind = omega arith })

sends-left : (rule : ℕ) (x : Rule) (m : Mutation) → IsLeft (those.Unsent rule) 1 x.sends m → IsLeftOut rule x m
sends-left rule x m it =
    let first = it.first in
    let last = it.last in
    subst (IsLeftOut rule x) it.is
    (record { number = refl; has = record { first = first; last = omega (arith, last) }; kind = omega arith })

left_out-in : (deep : Bool) (rule : ℕ) (x : Rule) (m : Mutation) → Contains (left_out deep rule x) m → IsLeftOut rule x m
left_out-in false rule x m h = absurd (none-in m h)
left_out-in true rule x m h =
    elim (Contains-append_cases (each_place (those.Unset rule) 1 x.sets) (each_place (those.Unsent rule) 1 x.sends) m h) [
      | inl early ↦ sets-left rule x m (left-in (those.Unset rule) 1 x.sets m early)
      | inr late ↦ sends-left rule x m (left-in (those.Unsent rule) 1 x.sends m late)
    ]

left_out-apart : (deep : Bool) (rule : ℕ) (x : Rule) → Apart (left_out deep rule x)
left_out-apart false rule x = tt
left_out-apart true rule x =
    apart-append (each_place (those.Unset rule) 1 x.sets) (each_place (those.Unsent rule) 1 x.sends)
    (left-apart (those.Unset rule) (unset-own rule) 1 x.sets) (left-apart (those.Unsent rule) (unsent-own rule) 1 x.sends) never
  where
    never : (m : Mutation) → Contains (each_place (those.Unset rule) 1 x.sets) m → Contains (each_place (those.Unsent rule) 1 x.sends) m → ⊥
    never m early late =
        let one : kind_of m ≡ 2 = sym (ap kind_of (left-in (those.Unset rule) 1 x.sets m early).is) in
        let two : kind_of m ≡ 3 = sym (ap kind_of (left-in (those.Unsent rule) 1 x.sends m late).is) in
        omega (arith, one, two)

-- a change that is listed for a rule
pub record IsOf (rule : ℕ) (x : Rule) (m : Mutation) : Type 0 where
  pub number : number_of m ≡ rule
  pub has : HasIt m x

mutations_of-in : (deep : Bool) (rule : ℕ) (x : Rule) (m : Mutation) → Contains (mutations_of deep rule x) m → IsOf rule x m
mutations_of-in deep rule x m h = elim (cases_in (those.Never rule) (those.Always rule ∷ left_out deep rule x) m h) [
  | inl same ↦ subst (IsOf rule x) same (record { number = refl; has = tt })
  | inr later ↦ elim (cases_in (those.Always rule) (left_out deep rule x) m later) [
    | inl same ↦ subst (IsOf rule x) same (record { number = refl; has = tt })
    | inr left ↦ (let it = left_out-in deep rule x m left in record { number = it.number; has = it.has })
  ]
]

mutations_of-apart : (deep : Bool) (rule : ℕ) (x : Rule) → Apart (mutations_of deep rule x)
mutations_of-apart deep rule x = (never, (always, left_out-apart deep rule x))
  where
    low : (m : Mutation) → kind_of m ≤ 1 → Contains (left_out deep rule x) m → ⊥
    low m few h =
        let it = left_out-in deep rule x m h in
        let kind = it.kind in
        omega (arith, kind, few)

    always : Contains (left_out deep rule x) (those.Always rule) → ⊥
    always h = low (those.Always rule) (omega arith) h

    never : Contains (those.Always rule ∷ left_out deep rule x) (those.Never rule) → ⊥
    never h = elim (cases_in (those.Always rule) (left_out deep rule x) (those.Never rule) h) [
      | inl same ↦ (let kinds : 1 ≡ 0 = ap kind_of same in omega (arith, kinds))
      | inr later ↦ low (those.Never rule) (omega arith) later
    ]

-- each that can be made of a rule with a number is listed for it
here-in : (x : Rule) (m : Mutation) → HasIt m x → Contains (mutations_of true (number_of m) x) m
here-in x (those.Never n) has = Contains-first (those.Never n) (those.Always n ∷ left_out true n x)
here-in x (those.Always n) has =
    Contains-more (those.Never n) (those.Always n ∷ left_out true n x) (those.Always n) (Contains-first (those.Always n) (left_out true n x))
here-in x (those.Unset n place) has =
    let first = has.first in
    let last = has.last in
    Contains-more (those.Never n) (those.Always n ∷ left_out true n x) (those.Unset n place)
    (Contains-more (those.Always n) (left_out true n x) (those.Unset n place)
    (Contains-append_left (each_place (those.Unset n) 1 x.sets) (each_place (those.Unsent n) 1 x.sends) (those.Unset n place)
    (in-left (those.Unset n) 1 place x.sets first (omega (arith, last)))))
here-in x (those.Unsent n place) has =
    let first = has.first in
    let last = has.last in
    Contains-more (those.Never n) (those.Always n ∷ left_out true n x) (those.Unsent n place)
    (Contains-more (those.Always n) (left_out true n x) (those.Unsent n place)
    (Contains-append_right (each_place (those.Unset n) 1 x.sets) (each_place (those.Unsent n) 1 x.sends) (those.Unsent n place)
    (in-left (those.Unsent n) 1 place x.sends first (omega (arith, last)))))

-- ---- all rules

pub record IsListed (k : ℕ) (xs : List Rule) (m : Mutation) : Type 0 where
  pub index : ℕ
  pub number : number_of m ≡ k + index
  pub rule : Rule
  pub there : slice_get xs index ≡ Some rule
  pub has : HasIt m rule

from-in : (deep : Bool) (k : ℕ) (xs : List Rule) (m : Mutation) → Contains (mutations_from deep k xs) m → IsListed k xs m
from-in deep k [] m h = absurd (none-in m h)
from-in deep k (x ∷ xs) m h = elim (Contains-append_cases (mutations_of deep k x) (mutations_from deep (k + 1) xs) m h) [
  | inl early ↦ first x (mutations_of-in deep k x m early)
  | inr late ↦ more x (from-in deep (k + 1) xs m late)
]
  where
    first : (y : Rule) → IsOf k y m → IsListed k (y ∷ xs) m
    first y it =
        let number = it.number in
        record { index = 0; number = omega (arith, number); rule = y; there = refl; has = it.has }

    more : (y : Rule) → IsListed (k + 1) xs m → IsListed k (y ∷ xs) m
    more y it =
        let number = it.number in
        record { index = suc it.index; number = omega (arith, number); rule = it.rule; there = it.there; has = it.has }

in-from : (k : ℕ) (xs : List Rule) (m : Mutation) (i : ℕ) (x : Rule) → number_of m ≡ k + i → slice_get xs i ≡ Some x → HasIt m x
    → Contains (mutations_from true k xs) m
in-from k [] m i x number there has = absurd (none-some x there)
in-from k (y ∷ ys) m zero x number there has =
    let same : number_of m ≡ k = omega (arith, number) in
    Contains-append_left (mutations_of true k y) (mutations_from true (k + 1) ys) m
    (subst (λ n. Contains (mutations_of true n y) m) same (here-in y m (subst (HasIt m) (sym (same_Some y x there)) has)))
in-from k (y ∷ ys) m (suc i) x number there has =
    Contains-append_right (mutations_of true k y) (mutations_from true (k + 1) ys) m (in-from (k + 1) ys m i x (omega (arith, number)) there has)

from-apart : (deep : Bool) (k : ℕ) (xs : List Rule) → Apart (mutations_from deep k xs)
from-apart deep k [] = tt
from-apart deep k (x ∷ xs) =
    apart-append (mutations_of deep k x) (mutations_from deep (k + 1) xs) (mutations_of-apart deep k x) (from-apart deep (k + 1) xs) never
  where
    never : (m : Mutation) → Contains (mutations_of deep k x) m → Contains (mutations_from deep (k + 1) xs) m → ⊥
    never m early late =
        let here : number_of m ≡ k = (mutations_of-in deep k x m early).number in
        let it = from-in deep (k + 1) xs m late in
        let later = it.number in
        omega (arith, here, later)

-- ---- definitions

pub listed-made : (d : Definition) (deep : Bool) (m : Mutation) → Contains (mutations d deep) m → IsSome (mutated d m)
listed-made d deep m h =
    let it = from-in deep 1 (rules_of d.chains) m h in
    let number = it.number in
    let place : number_of m - 1 ≡ it.index = omega (arith, number) in
    there-made d m
    (record { rule = it.rule; first = omega (arith, number); there = ap (slice_get (rules_of d.chains)) place ∙ it.there; has = it.has })

pub made-listed : (d : Definition) (m : Mutation) → IsSome (mutated d m) → Contains (mutations d true) m
made-listed d m some =
    let it = there-from d m some in
    let first = it.first in
    in-from 1 (rules_of d.chains) m (number_of m - 1) it.rule (omega (arith, first)) it.there it.has

pub listed-once : (d : Definition) (deep : Bool) (i j : ℕ) (m : Mutation)
    → slice_get (mutations d deep) i ≡ Some m → slice_get (mutations d deep) j ≡ Some m → i ≡ j
listed-once d deep i j m one two = apart-once (mutations d deep) i j m (from-apart deep 1 (rules_of d.chains)) one two
