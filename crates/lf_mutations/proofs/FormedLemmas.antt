-- A change of what is well formed is well formed.
use Rattle.std.proofs.Common.{◌≡◌, ℕ, zero, suc, ◌+◌, ◌-◌, ◌<◌, ◌≤◌, Bool, true, ◌&&◌, List, [], ◌∷◌, length, take, drop}
use Rattle.std.proofs.Common.{refl, sym, ap, ◌∙◌, arith, subst, inl, inr, slice_index_or}
use Rattle.std.specs.Prelude.{Some, nat_le, slice_get, slice_set}
use Rattle.std.specs.List.{All, AllZip, list_all, remove}
use Rattle.std.proofs.lemmas.Bool.{cases_lt, leb-true, le-leb, and_parts, and_from}
use Rattle.std.proofs.lemmas.List.{length-set}
use Rattle.std.proofs.lemmas.List.Edits.{length-remove}
use Rattle.std.proofs.lemmas.List.Folds.{list_all-append}
use Rattle.std.proofs.lemmas.List.Elements.{All-nil, All-cons}
use Rattle.std.proofs.lemmas.Option.{none-some, same_Some, slice_get-get_or}
use Rattle.lf_rules.specs.declared.sort.Scope.{Scope}
use Rattle.lf_rules.specs.declared.sort.Scope.TheVariants as scopes
use Rattle.lf_rules.specs.declared.sort.Within.TheVariants as withins
use Rattle.lf_rules.specs.declared.sort.Sort.TheVariants as sorts
use Rattle.lf_rules.specs.declared.rule.Event.{Event}
use Rattle.lf_rules.specs.declared.rule.Event.TheVariants as events
use Rattle.lf_rules.specs.declared.rule.Rule.{Rule}
use Rattle.lf_rules.specs.declared.rule.Chain.{Chain}
use Rattle.lf_rules.specs.declared.definition.Definition.{Definition}
use Rattle.lf_rules.specs.Sorts.{is_a}
use Rattle.lf_rules.specs.Tables.{cells_in}
use Rattle.lf_rules.specs.Forms.{is_from, is_assignment, is_send, is_rule_in, is_event, scope_of, sends_of, is_chain, rules_in}
use Rattle.lf_rules.specs.Forms.{are_variables, is_form, is_constant, is_let, is_fact, is_shown, is_in_limits, is_well_formed}
use Rattle.lf_mutations.specs.declared.mutation.Mutation.{Mutation}
use Rattle.lf_mutations.specs.declared.mutation.Mutation.TheVariants as those
use Rattle.lf_mutations.specs.Mutations.{changed, in_rules, in_chains, mutated}
use Rattle.lf_mutations.specs.Places.{IsShort}
use Rattle.lf_mutations.specs.Changes.{HasPlace, HasIt, IsChanged, IsSameChain}
use Rattle.lf_mutations.proofs.PlacesLemmas.{rules-cons, rules-fit, in_chains-here, in_chains-later}
use Rattle.lf_mutations.proofs.ChangesLemmas.{map-some, changed-some, Changes, in_rules-changes, in_chains-changes, mutated-made}

-- ---- a test of each item

module _ {X : Type 0} (p : X → Bool) where
  all-take : (k : ℕ) (xs : List X) → list_all p xs ≡ true → list_all p (take k xs) ≡ true
  all-take zero xs all = refl
  all-take (suc k) [] all = refl
  all-take (suc k) (x ∷ xs) all =
      let parts = and_parts (p x) (list_all p xs) all in
      and_from (p x) (list_all p (take k xs)) parts.0 (all-take k xs parts.1)

  all-drop : (k : ℕ) (xs : List X) → list_all p xs ≡ true → list_all p (drop k xs) ≡ true
  all-drop zero xs all = all
  all-drop (suc k) [] all = refl
  all-drop (suc k) (x ∷ xs) all = all-drop k xs (and_parts (p x) (list_all p xs) all).1

  all-remove : (k : ℕ) (xs : List X) → list_all p xs ≡ true → list_all p (remove xs k) ≡ true
  all-remove k xs all =
      list_all-append p (take k xs) (drop (suc k) xs)
      ∙ and_from (list_all p (take k xs)) (list_all p (drop (suc k) xs)) (all-take k xs all) (all-drop (suc k) xs all)

  all-set : (k : ℕ) (xs : List X) (y : X) → list_all p xs ≡ true → p y ≡ true → list_all p (slice_set xs k y) ≡ true
  all-set k [] y all fine = refl
  all-set zero (x ∷ xs) y all fine = and_from (p y) (list_all p xs) fine (and_parts (p x) (list_all p xs) all).1
  all-set (suc k) (x ∷ xs) y all fine =
      let parts = and_parts (p x) (list_all p xs) all in
      and_from (p x) (list_all p (slice_set xs k y)) parts.0 (all-set k xs y parts.1 fine)

  all-get : (k : ℕ) (xs : List X) (y : X) → list_all p xs ≡ true → slice_get xs k ≡ Some y → p y ≡ true
  all-get k [] y all there = absurd (none-some y there)
  all-get zero (x ∷ xs) y all there = subst (λ z. p z ≡ true) (same_Some x y there) (and_parts (p x) (list_all p xs) all).0
  all-get (suc k) (x ∷ xs) y all there = all-get k xs y (and_parts (p x) (list_all p xs) all).1 there

-- a list without an item is no longer
shorter : {X : Type 0} (place most : ℕ) (xs : List X) → HasPlace place xs → nat_le (length xs) most ≡ true → nat_le (length (remove xs (place - 1))) most ≡ true
shorter place most xs has few =
    let first = has.first in
    let last = has.last in
    let less : length (remove xs (place - 1)) + 1 ≡ length xs = length-remove xs (place - 1) (omega (arith, first, last)) in
    let small : length xs ≤ most = leb-true (length xs) most few in
    le-leb (length (remove xs (place - 1))) most (omega (arith, less, small))

-- ---- a rule

module _ (d : Definition) (scope : Scope) (most : ℕ) where
  record Parts (x : Rule) : Type 0 where
    pub guard : is_a d scope withins.Nothing sorts.Truth x.guard ≡ true
    pub few_sets : nat_le (length x.sets) 16 ≡ true
    pub sets : list_all (is_assignment d scope) x.sets ≡ true
    pub few_sends : nat_le (length x.sends) most ≡ true
    pub sends : list_all (is_send d scope) x.sends ≡ true

  parts-of : (x : Rule) → is_rule_in d scope most x ≡ true → Parts x
  parts-of x all =
      let g = is_a d scope withins.Nothing sorts.Truth x.guard in
      let a = nat_le (length x.sets) 16 in
      let b = list_all (is_assignment d scope) x.sets in
      let c = nat_le (length x.sends) most in
      let e = list_all (is_send d scope) x.sends in
      let one = and_parts g (a && (b && (c && e))) all in
      let two = and_parts a (b && (c && e)) one.1 in
      let three = and_parts b (c && e) two.1 in
      let four = and_parts c e three.1 in
      record { guard = one.0; few_sets = two.0; sets = three.0; few_sends = four.0; sends = four.1 }

  from_parts : (x : Rule) → Parts x → is_rule_in d scope most x ≡ true
  from_parts x it =
      let g = is_a d scope withins.Nothing sorts.Truth x.guard in
      let a = nat_le (length x.sets) 16 in
      let b = list_all (is_assignment d scope) x.sets in
      let c = nat_le (length x.sends) most in
      let e = list_all (is_send d scope) x.sends in
      and_from g (a && (b && (c && e))) it.guard
      (and_from a (b && (c && e)) it.few_sets (and_from b (c && e) it.sets (and_from c e it.few_sends it.sends)))

  changed-parts : (m : Mutation) (x y : Rule) → Parts x → HasIt m x → IsChanged m x y → Parts y
  changed-parts (those.Never n) x y it has is =
      subst Parts (sym is) (record { guard = refl; few_sets = it.few_sets; sets = it.sets; few_sends = it.few_sends; sends = it.sends })
  changed-parts (those.Always n) x y it has is =
      subst Parts (sym is) (record { guard = refl; few_sets = it.few_sets; sets = it.sets; few_sends = it.few_sends; sends = it.sends })
  changed-parts (those.Unset n place) x y it has is =
      subst Parts (sym is)
      (record {
        guard = it.guard;
        few_sets = shorter place 16 x.sets has it.few_sets;
        sets = all-remove (is_assignment d scope) (place - 1) x.sets it.sets;
        few_sends = it.few_sends;
        sends = it.sends;
      })
  changed-parts (those.Unsent n place) x y it has is =
      subst Parts (sym is)
      (record {
        guard = it.guard;
        few_sets = it.few_sets;
        sets = it.sets;
        few_sends = shorter place most x.sends has it.few_sends;
        sends = all-remove (is_send d scope) (place - 1) x.sends it.sends;
      })

  rule-formed : (m : Mutation) (x y : Rule) → is_rule_in d scope most x ≡ true → changed m x ≡ Some y → is_rule_in d scope most y ≡ true
  rule-formed m x y formed is =
      let plain = changed-some m x y is in
      from_parts y (changed-parts m x y (parts-of x formed) plain.0 plain.1)

-- ---- chains

chain-formed : (d : Definition) (m : Mutation) (k : ℕ) (x : Chain) (rules : List Rule) → is_chain d x ≡ true → Changes m k x.rules rules
    → is_chain d (record x { rules = rules }) ≡ true
chain-formed d m k x rules formed it =
    let test = is_rule_in d (scope_of x.on) (sends_of x.on) in
    let who = is_a d scopes.Who withins.Nothing sorts.Nodes x.who in
    let event = is_event d x.on in
    let one = and_parts who (event && (nat_le 1 (length x.rules) && list_all test x.rules)) formed in
    let two = and_parts event (nat_le 1 (length x.rules) && list_all test x.rules) one.1 in
    let three = and_parts (nat_le 1 (length x.rules)) (list_all test x.rules) two.1 in
    let old : test it.old ≡ true = all-get test k x.rules it.old three.1 it.there in
    let new : test it.new ≡ true = rule-formed d (scope_of x.on) (sends_of x.on) m it.old it.new old it.is in
    let same : length rules ≡ length x.rules = ap length it.rules ∙ length-set x.rules k it.new in
    let some : nat_le 1 (length rules) ≡ true = ap (λ n. nat_le 1 n) same ∙ three.0 in
    let all : list_all test rules ≡ true = ap (list_all test) it.rules ∙ all-set test k x.rules it.new three.1 new in
    and_from who (event && (nat_le 1 (length rules) && list_all test rules)) one.0
    (and_from event (nat_le 1 (length rules) && list_all test rules) two.0 (and_from (nat_le 1 (length rules)) (list_all test rules) some all))

chains-formed : (d : Definition) (m : Mutation) (k : ℕ) (xs ys : List Chain) → list_all (is_chain d) xs ≡ true → in_chains m k xs ≡ Some ys
    → list_all (is_chain d) ys ≡ true
chains-formed d m k [] ys formed made = absurd (none-some ys made)
chains-formed d m k (x ∷ xs) ys formed made =
    let parts = and_parts (is_chain d x) (list_all (is_chain d) xs) formed in
    elim (cases_lt k (length x.rules)) [
      | inl low ↦
          let it = map-some (λ (rules : List Rule). record x { rules = rules } ∷ xs) (in_rules m k x.rules) ys (sym (in_chains-here m k x xs low) ∙ made) in
          subst (λ zs. list_all (is_chain d) zs ≡ true) it.2
          (and_from (is_chain d (record x { rules = it.0 })) (list_all (is_chain d) xs)
          (chain-formed d m k x it.0 parts.0 (in_rules-changes m k x.rules it.0 it.1)) parts.1)
      | inr high ↦
          let it = map-some (λ (zs : List Chain). x ∷ zs) (in_chains m (k - length x.rules) xs) ys (sym (in_chains-later m k x xs high) ∙ made) in
          subst (λ zs. list_all (is_chain d) zs ≡ true) it.2
          (and_from (is_chain d x) (list_all (is_chain d) it.0) parts.0 (chains-formed d m (k - length x.rules) xs it.0 parts.1 it.1))
    ]

-- there are as many rules
same_count : (xs ys : List Chain) → AllZip IsSameChain xs ys → rules_in ys ≡ rules_in xs
same_count [] [] same = refl
same_count [] (y ∷ ys) same = absurd same
same_count (x ∷ xs) [] same = absurd same
same_count (x ∷ xs) (y ∷ ys) same =
    let here = same.0.count in
    let rest = same_count xs ys same.1 in
    let all : rules_in (x ∷ xs) ≡ length x.rules + rules_in xs = rules-cons x xs in
    let others : rules_in (y ∷ ys) ≡ length y.rules + rules_in ys = rules-cons y ys in
    omega (arith, here, rest, all, others)

-- ---- definitions

-- of eight tests the first and the seventh are others
replaced : (a b c e f g h i s t : Bool) → (a && (b && (c && (e && (f && (g && (h && i))))))) ≡ true → s ≡ a → t ≡ true
    → (s && (b && (c && (e && (f && (g && (t && i))))))) ≡ true
replaced a b c e f g h i s t all same fine =
    let p1 = and_parts a (b && (c && (e && (f && (g && (h && i)))))) all in
    let p2 = and_parts b (c && (e && (f && (g && (h && i))))) p1.1 in
    let p3 = and_parts c (e && (f && (g && (h && i)))) p2.1 in
    let p4 = and_parts e (f && (g && (h && i))) p3.1 in
    let p5 = and_parts f (g && (h && i)) p4.1 in
    let p6 = and_parts g (h && i) p5.1 in
    let p7 = and_parts h i p6.1 in
    and_from s (b && (c && (e && (f && (g && (t && i)))))) (same ∙ p1.0)
    (and_from b (c && (e && (f && (g && (t && i))))) p2.0
    (and_from c (e && (f && (g && (t && i)))) p3.0
    (and_from e (f && (g && (t && i))) p4.0 (and_from f (g && (t && i)) p5.0 (and_from g (t && i) p6.0 (and_from t i fine p7.1))))))

seventh : (a b c e f g h i : Bool) → (a && (b && (c && (e && (f && (g && (h && i))))))) ≡ true → h ≡ true
seventh a b c e f g h i all =
    let p1 = and_parts a (b && (c && (e && (f && (g && (h && i)))))) all in
    let p2 = and_parts b (c && (e && (f && (g && (h && i))))) p1.1 in
    let p3 = and_parts c (e && (f && (g && (h && i)))) p2.1 in
    let p4 = and_parts e (f && (g && (h && i))) p3.1 in
    let p5 = and_parts f (g && (h && i)) p4.1 in
    let p6 = and_parts g (h && i) p5.1 in
    (and_parts h i p6.1).0

chains-of : (d : Definition) → is_well_formed d ≡ true → list_all (is_chain d) d.chains ≡ true
chains-of d formed =
    seventh (is_in_limits d) (are_variables d 0 d.variables) (list_all (is_form d) d.notes) (list_all (is_constant d) d.given)
    (list_all (is_let d) d.lets) (list_all (is_fact d) d.facts) (list_all (is_chain d) d.chains) (list_all (is_shown d) d.trace) formed

-- ---- what is well formed has few of all

pub few_rules : (d : Definition) → is_well_formed d ≡ true → rules_in d.chains ≤ 128
few_rules d formed =
    leb-true (rules_in d.chains) 128
    (seventh (is_from 1 32 (length d.variables)) (nat_le (cells_in d) 64) (nat_le (length d.notes) 16) (nat_le (length d.given) 16)
    (nat_le (length d.lets) 16) (nat_le (length d.facts) 32) (nat_le (rules_in d.chains) 128) (is_from 1 32 (length d.trace))
    (first-of d formed))
  where
    first-of : (d : Definition) → is_well_formed d ≡ true → is_in_limits d ≡ true
    first-of d formed =
        (and_parts (is_in_limits d)
        (are_variables d 0 d.variables && (list_all (is_form d) d.notes && (list_all (is_constant d) d.given && (list_all (is_let d) d.lets
        && (list_all (is_fact d) d.facts && (list_all (is_chain d) d.chains && list_all (is_shown d) d.trace)))))) formed).0

few_sends : (on : Event) → sends_of on ≤ 8
few_sends events.Start = omega arith
few_sends events.Wake = omega arith
few_sends events.Begin = omega arith
few_sends (events.Note form) = omega arith
few_sends events.End = omega arith

short-rules : (d : Definition) (on : Event) (xs : List Rule) → list_all (is_rule_in d (scope_of on) (sends_of on)) xs ≡ true → All IsShort xs
short-rules d on [] all = All-nil IsShort
short-rules d on (x ∷ xs) all =
    let test = is_rule_in d (scope_of on) (sends_of on) in
    let parts = and_parts (test x) (list_all test xs) all in
    let it = parts-of d (scope_of on) (sends_of on) x parts.0 in
    let sends : length x.sends ≤ sends_of on = leb-true (length x.sends) (sends_of on) it.few_sends in
    let most : sends_of on ≤ 8 = few_sends on in
    All-cons IsShort x xs (record { sets = leb-true (length x.sets) 16 it.few_sets; sends = omega (arith, sends, most) }) (short-rules d on xs parts.1)

pub short-chains : (d : Definition) (i : ℕ) (x : Chain) → is_well_formed d ≡ true → i < length d.chains → x ≡ slice_index_or d.chains i x
    → All IsShort x.rules
short-chains d i x formed low is =
    let chain : is_chain d x ≡ true =
    all-get (is_chain d) i d.chains x (chains-of d formed) (slice_get-get_or d.chains i x low ∙ ap Some (sym is)) in
    let test = is_rule_in d (scope_of x.on) (sends_of x.on) in
    let one = and_parts (is_a d scopes.Who withins.Nothing sorts.Nodes x.who) (is_event d x.on && (nat_le 1 (length x.rules) && list_all test x.rules)) chain in
    let two = and_parts (is_event d x.on) (nat_le 1 (length x.rules) && list_all test x.rules) one.1 in
    short-rules d x.on x.rules (and_parts (nat_le 1 (length x.rules)) (list_all test x.rules) two.1).1

limits-same : (d : Definition) (ys : List Chain) → rules_in ys ≡ rules_in d.chains → is_in_limits (record d { chains = ys }) ≡ is_in_limits d
limits-same d ys same =
    ap (λ n. is_from 1 32 (length d.variables)
    && (nat_le (cells_in d) 64 && (nat_le (length d.notes) 16 && (nat_le (length d.given) 16 && (nat_le (length d.lets) 16
    && (nat_le (length d.facts) 32 && (nat_le n 128 && is_from 1 32 (length d.trace)))))))) same

pub formed-chains : (d : Definition) (m : Mutation) (k : ℕ) (ys : List Chain) → is_well_formed d ≡ true → in_chains m k d.chains ≡ Some ys
    → is_well_formed (record d { chains = ys }) ≡ true
formed-chains d m k ys formed made =
    let same : rules_in ys ≡ rules_in d.chains = same_count d.chains ys (in_chains-changes m k d.chains ys made).chains in
    let chains : list_all (is_chain d) ys ≡ true = chains-formed d m k d.chains ys (chains-of d formed) made in
    replaced (is_in_limits d) (are_variables d 0 d.variables) (list_all (is_form d) d.notes) (list_all (is_constant d) d.given)
    (list_all (is_let d) d.lets) (list_all (is_fact d) d.facts) (list_all (is_chain d) d.chains) (list_all (is_shown d) d.trace)
    (is_in_limits (record d { chains = ys })) (list_all (is_chain d) ys) formed (limits-same d ys same) chains

pub mutated-formed : (d e : Definition) (m : Mutation) → is_well_formed d ≡ true → mutated d m ≡ Some e → is_well_formed e ≡ true
mutated-formed d e m formed made =
    let it = mutated-made d m e made in
    subst (λ x. is_well_formed x ≡ true) it.is (formed-chains d m it.before it.chains formed it.made)

-- the rules of a chain have small numbers, and few places
pub chain-few : (d : Definition) (xs : List Chain) (i : ℕ) (x : Chain) (rules : List Rule) (n : ℕ) → is_well_formed d ≡ true → xs ≡ d.chains
    → i < length xs → x ≡ slice_index_or xs i x → rules ≡ x.rules → n ≡ 1 + rules_in (take i xs) → n + length rules ≤ 129
chain-few d xs i x rules n formed same low is are from =
    let few : rules_in xs ≤ 128 = subst (λ (zs : List Chain). rules_in zs ≤ 128) (sym same) (few_rules d formed) in
    let fit : rules_in (take i xs) + length x.rules ≤ rules_in xs = rules-fit xs i x low is in
    let count : length rules ≡ length x.rules = ap length are in
    omega (arith, few, fit, count, from)

pub chain-short : (d : Definition) (xs : List Chain) (i : ℕ) (x : Chain) (rules : List Rule) → is_well_formed d ≡ true → xs ≡ d.chains
    → i < length xs → x ≡ slice_index_or xs i x → rules ≡ x.rules → All IsShort rules
chain-short d xs i x rules formed same low is are =
    subst (λ (zs : List Rule). All IsShort zs) (sym are)
    (short-chains d i x formed (subst (λ (zs : List Chain). i < length zs) same low) (subst (λ (zs : List Chain). x ≡ slice_index_or zs i x) same is))
