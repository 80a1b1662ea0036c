-- What a change leaves: one rule is another, and all else is the same. And where it can be made.
use Rattle.std.proofs.Common.{◌≡◌, ℕ, zero, suc, ◌+◌, ◌-◌, ◌<◌, ◌≤◌, true, false, List, [], ◌∷◌, ◌++◌, length, take}
use Rattle.std.proofs.Common.{refl, sym, ap, ◌∙◌, arith, subst, inl, inr}
use Rattle.std.specs.Prelude.{Option, None, Some, IsSome, nat_le, slice_get, slice_set}
use Rattle.std.specs.List.{AllZip, remove}
use Rattle.std.specs.Option.{option_map, option_and_then}
use Rattle.std.proofs.lemmas.Bool.{cases_lt, cond-true, leb-true, le-leb, and_parts, and_from, false≢true}
use Rattle.std.proofs.lemmas.List.{length-set, set-append_left, set-append_right}
use Rattle.std.proofs.lemmas.Option.{none-some, same_Some, cond_some}
use Rattle.lf_rules.specs.Terms as terms
use Rattle.lf_rules.specs.declared.expr.Leaf.TheVariants as leaves
use Rattle.lf_rules.specs.declared.rule.Assignment.{Assignment}
use Rattle.lf_rules.specs.declared.rule.Send.{Send}
use Rattle.lf_rules.specs.declared.rule.Rule.{Rule}
use Rattle.lf_rules.specs.declared.rule.Chain.{Chain}
use Rattle.lf_rules.specs.declared.definition.Definition.{Definition}
use Rattle.lf_rules.specs.Forms.{is_from, rules_in}
use Rattle.lf_mutations.specs.declared.mutation.Mutation.{Mutation}
use Rattle.lf_mutations.specs.declared.mutation.Mutation.TheVariants as those
use Rattle.lf_mutations.specs.Mutations.{number_of, without, changed, in_rules, in_chains, in_numbered, mutated, rules_of}
use Rattle.lf_mutations.specs.Changes.{HasPlace, HasIt, IsChanged, IsThere, IsSameChain, IsMutant}
use Rattle.lf_mutations.proofs.PlacesLemmas.{rules-cons, in_rules-at, in_chains-here, in_chains-later}

-- ---- options

pub map-some : {A B : Type 0} (f : A → B) (o : Option A) (y : B) → option_map f o ≡ Some y → (x : A) × (o ≡ Some x) × (f x ≡ y)
map-some f None y h = absurd (none-some y h)
map-some f (Some x) y h = (x, refl, same_Some (f x) y h)

then-some : {A B : Type 0} (f : A → Option B) (o : Option A) (y : B) → option_and_then f o ≡ Some y → (x : A) × (o ≡ Some x) × (f x ≡ Some y)
then-some f None y h = absurd (none-some y h)
then-some f (Some x) y h = (x, refl, h)

some-is : {A : Type 0} (o : Option A) → IsSome o → (x : A) × (o ≡ Some x)
some-is None h = absurd (false≢true h)
some-is (Some x) h = (x, refl)

is-some : {A : Type 0} (o : Option A) (x : A) → o ≡ Some x → IsSome o
is-some o x h = subst (λ p. IsSome p) (sym h) refl

-- ---- items of two lists

pub slice_get-low : {X : Type 0} (xs ys : List X) (k : ℕ) → k < length xs → slice_get (xs ++ ys) k ≡ slice_get xs k
slice_get-low [] ys k low = absurd (omega (arith, low))
slice_get-low (x ∷ xs) ys zero low = refl
slice_get-low (x ∷ xs) ys (suc k) low = slice_get-low xs ys k (omega (arith, low))

pub slice_get-high : {X : Type 0} (xs ys : List X) (k : ℕ) → length xs ≤ k → slice_get (xs ++ ys) k ≡ slice_get ys (k - length xs)
slice_get-high [] ys k high =
    let same : k ≡ k - 0 = omega arith in
    ap (slice_get ys) same
slice_get-high (x ∷ xs) ys zero high = absurd (omega (arith, high))
slice_get-high (x ∷ xs) ys (suc k) high =
    let same : k - length xs ≡ suc k - suc (length xs) = omega arith in
    slice_get-high xs ys k (omega (arith, high)) ∙ ap (slice_get ys) same

-- ---- one rule

without-some : {X : Type 0} (place : ℕ) (xs ys : List X) → without place xs ≡ Some ys → HasPlace place xs × (ys ≡ remove xs (place - 1))
without-some place xs ys made =
    let parts = cond_some (is_from 1 (length xs) place) (remove xs (place - 1)) ys made in
    let range = and_parts (nat_le 1 place) (nat_le place (length xs)) parts.0 in
    (record { first = leb-true 1 place range.0; last = leb-true place (length xs) range.1 }, sym parts.1)

without-has : {X : Type 0} (place : ℕ) (xs : List X) → HasPlace place xs → without place xs ≡ Some (remove xs (place - 1))
without-has place xs has =
    cond-true (is_from 1 (length xs) place) (Some (remove xs (place - 1))) None
    (and_from (nat_le 1 place) (nat_le place (length xs)) (le-leb 1 place has.first) (le-leb place (length xs) has.last))

pub changed-some : (m : Mutation) (x y : Rule) → changed m x ≡ Some y → HasIt m x × IsChanged m x y
changed-some (those.Never n) x y made = (tt, sym (same_Some (record x { guard = terms.Leaf (leaves.Truth false) }) y made))
changed-some (those.Always n) x y made = (tt, sym (same_Some (record x { guard = terms.Leaf (leaves.Truth true) }) y made))
changed-some (those.Unset n place) x y made =
    let it = map-some (λ (sets : List Assignment). record x { sets = sets }) (without place x.sets) y made in
    let left = without-some place x.sets it.0 it.1 in
    (left.0, sym it.2 ∙ ap (λ (sets : List Assignment). record x { sets = sets }) left.1)
changed-some (those.Unsent n place) x y made =
    let it = map-some (λ (sends : List Send). record x { sends = sends }) (without place x.sends) y made in
    let left = without-some place x.sends it.0 it.1 in
    (left.0, sym it.2 ∙ ap (λ (sends : List Send). record x { sends = sends }) left.1)

changed-has : (m : Mutation) (x : Rule) → HasIt m x → (y : Rule) × (changed m x ≡ Some y)
changed-has (those.Never n) x has = (record x { guard = terms.Leaf (leaves.Truth false) }, refl)
changed-has (those.Always n) x has = (record x { guard = terms.Leaf (leaves.Truth true) }, refl)
changed-has (those.Unset n place) x has =
    (record x { sets = remove x.sets (place - 1) }, ap (option_map (λ (sets : List Assignment). record x { sets = sets })) (without-has place x.sets has))
changed-has (those.Unsent n place) x has =
    (record x { sends = remove x.sends (place - 1) }, ap (option_map (λ (sends : List Send). record x { sends = sends })) (without-has place x.sends has))

-- ---- rules

-- of some rules one is changed
pub record Changes (m : Mutation) (k : ℕ) (xs ys : List Rule) : Type 0 where
  pub old : Rule
  pub new : Rule
  pub there : slice_get xs k ≡ Some old
  pub is : changed m old ≡ Some new
  pub rules : ys ≡ slice_set xs k new

pub in_rules-changes : (m : Mutation) (k : ℕ) (xs ys : List Rule) → in_rules m k xs ≡ Some ys → Changes m k xs ys
in_rules-changes m k xs ys made =
    let found = then-some (λ x. option_map (λ y. slice_set xs k y) (changed m x)) (slice_get xs k) ys (sym (in_rules-at m k xs) ∙ made) in
    let it = map-some (λ (y : Rule). slice_set xs k y) (changed m found.0) ys found.2 in
    record { old = found.0; new = it.0; there = found.1; is = it.1; rules = sym it.2 }

in_rules-there : (m : Mutation) (k : ℕ) (xs : List Rule) (x y : Rule) → slice_get xs k ≡ Some x → changed m x ≡ Some y
    → in_rules m k xs ≡ Some (slice_set xs k y)
in_rules-there m k xs x y there is =
    in_rules-at m k xs
    ∙ ap (option_and_then (λ z. option_map (λ w. slice_set xs k w) (changed m z))) there
    ∙ ap (option_map (λ w. slice_set xs k w)) is

-- ---- chains

pub record ChangesChains (m : Mutation) (k : ℕ) (xs ys : List Chain) : Type 0 where
  pub rules : Changes m k (rules_of xs) (rules_of ys)
  pub chains : AllZip IsSameChain xs ys

same_chains : (xs : List Chain) → AllZip IsSameChain xs xs
same_chains [] = tt
same_chains (x ∷ xs) = (record { who = refl; on = refl; count = refl }, same_chains xs)

changes-here : (m : Mutation) (k : ℕ) (x : Chain) (xs : List Chain) (rules : List Rule) → k < length x.rules → Changes m k x.rules rules
    → ChangesChains m k (x ∷ xs) (record x { rules = rules } ∷ xs)
changes-here m k x xs rules low it =
    record {
      rules = record {
        old = it.old;
        new = it.new;
        there = slice_get-low x.rules (rules_of xs) k low ∙ it.there;
        is = it.is;
        rules = ap (λ (zs : List Rule). zs ++ rules_of xs) it.rules ∙ sym (set-append_left x.rules (rules_of xs) k it.new low);
      };
      chains = (record { who = refl; on = refl; count = ap length it.rules ∙ length-set x.rules k it.new }, same_chains xs);
    }

changes-later : (m : Mutation) (k : ℕ) (x : Chain) (xs ys : List Chain) → length x.rules ≤ k → ChangesChains m (k - length x.rules) xs ys
    → ChangesChains m k (x ∷ xs) (x ∷ ys)
changes-later m k x xs ys high it =
    record {
      rules = record {
        old = it.rules.old;
        new = it.rules.new;
        there = slice_get-high x.rules (rules_of xs) k high ∙ it.rules.there;
        is = it.rules.is;
        rules = ap (λ (zs : List Rule). x.rules ++ zs) it.rules.rules
            ∙ sym (set-append_right x.rules (rules_of xs) (length x.rules) k it.rules.new refl high);
      };
      chains = (record { who = refl; on = refl; count = refl }, it.chains);
    }

pub in_chains-changes : (m : Mutation) (k : ℕ) (xs ys : List Chain) → in_chains m k xs ≡ Some ys → ChangesChains m k xs ys
in_chains-changes m k [] ys made = absurd (none-some ys made)
in_chains-changes m k (x ∷ xs) ys made = elim (cases_lt k (length x.rules)) [
  | inl low ↦
      let it = map-some (λ (rules : List Rule). record x { rules = rules } ∷ xs) (in_rules m k x.rules) ys (sym (in_chains-here m k x xs low) ∙ made) in
      subst (λ zs. ChangesChains m k (x ∷ xs) zs) it.2 (changes-here m k x xs it.0 low (in_rules-changes m k x.rules it.0 it.1))
  | inr high ↦
      let it = map-some (λ (zs : List Chain). x ∷ zs) (in_chains m (k - length x.rules) xs) ys (sym (in_chains-later m k x xs high) ∙ made) in
      subst (λ zs. ChangesChains m k (x ∷ xs) zs) it.2
      (changes-later m k x xs it.0 high (in_chains-changes m (k - length x.rules) xs it.0 it.1))
]

in_chains-there : (m : Mutation) (k : ℕ) (xs : List Chain) (x y : Rule) → slice_get (rules_of xs) k ≡ Some x → changed m x ≡ Some y
    → (ys : List Chain) × (in_chains m k xs ≡ Some ys)
in_chains-there m k [] x y there is = absurd (none-some x there)
in_chains-there m k (c ∷ cs) x y there is = elim (cases_lt k (length c.rules)) [
  | inl low ↦
      let found : slice_get c.rules k ≡ Some x = sym (slice_get-low c.rules (rules_of cs) k low) ∙ there in
      let made : in_rules m k c.rules ≡ Some (slice_set c.rules k y) = in_rules-there m k c.rules x y found is in (
        record c { rules = slice_set c.rules k y } ∷ cs,
        in_chains-here m k c cs low ∙ ap (option_map (λ (rules : List Rule). record c { rules = rules } ∷ cs)) made,
      )
  | inr high ↦
      let found : slice_get (rules_of cs) (k - length c.rules) ≡ Some x = sym (slice_get-high c.rules (rules_of cs) k high) ∙ there in
      let it = in_chains-there m (k - length c.rules) cs x y found is in
      (c ∷ it.0, in_chains-later m k c cs high ∙ ap (option_map (λ (zs : List Chain). c ∷ zs)) it.1)
]

-- a rule comes behind those of the chains before its own, and those before it there
pub slice_get-rules_of : (xs : List Chain) (i j : ℕ) (c : Chain) → slice_get xs i ≡ Some c → j < length c.rules
    → slice_get (rules_of xs) (rules_in (take i xs) + j) ≡ slice_get c.rules j
slice_get-rules_of [] i j c there low = absurd (none-some c there)
slice_get-rules_of (x ∷ xs) zero j c there low =
    let same : x ≡ c = same_Some x c there in
    let few : j < length x.rules = subst (λ (y : Chain). j < length y.rules) (sym same) low in
    let first : 0 + j ≡ j = omega arith in
    ap (slice_get (x.rules ++ rules_of xs)) first ∙ slice_get-low x.rules (rules_of xs) j few ∙ ap (λ (y : Chain). slice_get y.rules j) same
slice_get-rules_of (x ∷ xs) (suc i) j c there low =
    let before : rules_in (x ∷ take i xs) ≡ length x.rules + rules_in (take i xs) = rules-cons x (take i xs) in
    let rest : rules_in (x ∷ take i xs) + j - length x.rules ≡ rules_in (take i xs) + j = omega (arith, before) in
    slice_get-high x.rules (rules_of xs) (rules_in (x ∷ take i xs) + j) (omega (arith, before))
    ∙ ap (slice_get (rules_of xs)) rest ∙ slice_get-rules_of xs i j c there low

-- ---- definitions

-- a change is that of the chains, in the rule with its number
pub record Made (d : Definition) (m : Mutation) (e : Definition) : Type 0 where
  pub before : ℕ
  pub number : number_of m ≡ suc before
  pub chains : List Chain
  pub made : in_chains m before d.chains ≡ Some chains
  pub is : record d { chains = chains } ≡ e

numbered-made : (d : Definition) (m : Mutation) (e : Definition) (n : ℕ) (chains : List Chain) → number_of m ≡ n → in_numbered m n d.chains ≡ Some chains
    → record d { chains = chains } ≡ e → Made d m e
numbered-made d m e zero chains number made is = absurd (none-some chains made)
numbered-made d m e (suc k) chains number made is = record { before = k; number = number; chains = chains; made = made; is = is }

pub mutated-made : (d : Definition) (m : Mutation) (e : Definition) → mutated d m ≡ Some e → Made d m e
mutated-made d m e made =
    let it = map-some (λ (chains : List Chain). record d { chains = chains }) (in_numbered m (number_of m) d.chains) e made in
    numbered-made d m e (number_of m) it.0 refl it.1 it.2

mutant : (d : Definition) (m : Mutation) (k : ℕ) (chains : List Chain) → number_of m ≡ suc k → ChangesChains m k d.chains chains
    → IsMutant d m (record d { chains = chains })
mutant d m k chains number it =
    let rule = changed-some m it.rules.old it.rules.new it.rules.is in
    let place : number_of m - 1 ≡ k = omega (arith, number) in
    record {
      is_there = record {
        rule = it.rules.old;
        first = omega (arith, number);
        there = ap (slice_get (rules_of d.chains)) place ∙ it.rules.there;
        has = rule.0;
      };
      rule = it.rules.new;
      changed = rule.1;
      rules = it.rules.rules ∙ ap (λ n. slice_set (rules_of d.chains) n it.rules.new) (sym place);
      chains = it.chains;
      variables = refl;
      notes = refl;
      given = refl;
      lets = refl;
      facts = refl;
      trace = refl;
    }

pub mutated-mutant : (d e : Definition) (m : Mutation) → mutated d m ≡ Some e → IsMutant d m e
mutated-mutant d e m made =
    let it = mutated-made d m e made in
    subst (λ x. IsMutant d m x) it.is (mutant d m it.before it.chains it.number (in_chains-changes m it.before d.chains it.chains it.made))

pub there-from : (d : Definition) (m : Mutation) → IsSome (mutated d m) → IsThere d m
there-from d m some =
    let it = some-is (mutated d m) some in
    (mutated-mutant d it.0 m it.1).is_there

pub there-made : (d : Definition) (m : Mutation) → IsThere d m → IsSome (mutated d m)
there-made d m it =
    let rule = changed-has m it.rule it.has in
    let chains = in_chains-there m (number_of m - 1) d.chains it.rule rule.0 it.there rule.1 in
    let number : number_of m ≡ suc (number_of m - 1) = omega (arith, it.first) in
    let first = it.first in
    is-some (mutated d m) (record d { chains = chains.0 })
    (ap (λ n. option_map (λ (zs : List Chain). record d { chains = zs }) (in_numbered m n d.chains)) number
    ∙ ap (option_map (λ (zs : List Chain). record d { chains = zs })) chains.1)
