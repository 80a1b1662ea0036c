-- The rules of a file are what its items say, in order.
use Rattle.std.proofs.Common.{◌≡◌, ℕ, zero, suc, ◌+◌, ◌≤◌, ◌&&◌, Bool, true, false, cond, List, [], ◌∷◌, ◌++◌, length, map, codes}
use Rattle.std.proofs.Common.{Option, Some, None, Result, Ok, Err, refl, sym, ap, subst, ◌∙◌, arith, append-nil, append_assoc}
use Rattle.std.proofs.lemmas.Bool.{and_parts, eqb-true}
use Rattle.std.proofs.lemmas.List.{map-append}
use Rattle.std.proofs.lemmas.List.Sums.{sum-map, sum_by-cons}
use Rattle.std.specs.Str.{bytes_eq}
use Rattle.toml.specs.Data.{Data, string, integer, float, boolean, datetime, array, table, Items, no_items, item, Members, get_member}
use Rattle.lf_rules.specs.Forms.{rules_in}
use Rattle.lf_rules.specs.Terms.{Term}
use Rattle.lf_rules.specs.Terms as terms
use Rattle.lf_rules.specs.declared.expr.Leaf.TheVariants as leaves
use Rattle.lf_rules.specs.declared.rule.Chain.{Chain}
use Rattle.lf_rules.specs.declared.rule.Event.{Event}
use Rattle.lf_rules.specs.declared.rule.Event.TheVariants as events
use Rattle.lf_rules.specs.declared.rule.Rule.{Rule}
use Rattle.lf_taken.specs.Readings.{all_rules}
use Rattle.lf_protocol_file.specs.declared.error.ProtocolError.TheVariants as refusals
use Rattle.lf_protocol_file.specs.declared.fault.Fault.TheVariants as faults
use Rattle.lf_protocol_file.specs.declared.path.Path.TheVariants as paths
use Rattle.lf_protocol_file.specs.declared.section.Listing.{Listing}
use Rattle.lf_protocol_file.specs.declared.section.Listing.TheVariants as listings
use Rattle.lf_protocol_file.specs.declared.section.Naming.TheVariants as namings
use Rattle.lf_protocol_file.specs.declared.section.Part.TheVariants as parts
use Rattle.lf_protocol_file.specs.declared.section.Section.TheVariants as sections
use Rattle.lf_protocol_file.specs.Readings.{Reading, ◌>>=◌, located, wanted, checked}
use Rattle.lf_protocol_file.specs.Texts.{count_items, tokens_in}
use Rattle.lf_texts.specs.Names.{is_name}
use Rattle.lf_promises.specs.Promises.{promise_of}
use Rattle.lf_rules.specs.declared.sort.Scope.TheVariants as scopes
use Rattle.lf_protocol_file.specs.declared.draft.Begun.{Begun}
use Rattle.lf_protocol_file.specs.declared.draft.Draft.{Draft}
use Rattle.lf_protocol_file.specs.declared.draft.Who.{Who}
use Rattle.lf_protocol_file.specs.Drafts.{place_in}
use Rattle.lf_protocol_file.specs.Named as named
use Rattle.lf_protocol_file.specs.Named.{and_outcome, with_outcome, variable_named, shown_once, and_shown, with_shown}
use Rattle.lf_protocol_file.specs.declared.declared.Declared.{Declared}
use Rattle.lf_protocol_file.specs.Chains.{same_event, same_text, goes_on, chain_of, with_chain, with_last_chain, continued}
use Rattle.lf_protocol_file.specs.Entries.{with_naming, with_item, with_items, is_fit_list, with_list, listing_at, with_listing}
use Rattle.lf_protocol_file.specs.Files.{known_sections, name_in, declared_in, shown_by, with_trace, declared_by, file_in}
use Rattle.lf_protocol_file.specs.Numbers.{Spoken, spoken_of, spoken_in, with_spoken, spoken_from, Placed, placed_in, all_placed, nodes_of, placed_from}
use Rattle.lf_protocol_file.specs.Numbers.{AreNumbered}
use Rattle.lf_protocol_file.specs.RuleParts.{known_parts, who_in, heard_in, condition_in, changes_in, letters_in, rule_of, rule_in}
use Rattle.lf_protocol_file.proofs.Readings.{step-inv, located-inv, through}
use Rattle.lf_protocol_file.proofs.RuleStages.{HasRules, MayBegin, IsBegunIn, begun_rules, condition-fits}
use Rattle.lf_protocol_file.proofs.SectionLemmas.{naming-keeps, listing-keeps}
use Rattle.lf_protocol_file.proofs.WholeFiles.{declared}

-- ---- one step after another

assoc : {A B C E : Type 0} (r : Result A E) (f : A → Result B E) (g : B → Result C E) → ((r >>= f) >>= g) ≡ (r >>= λ x. f x >>= g)
assoc (Ok x) f g = refl
assoc (Err e) f g = refl

onward : {A B E : Type 0} (r : Result A E) {f g : A → Result B E} → ((x : A) → f x ≡ g x) → (r >>= f) ≡ (r >>= g)
onward (Ok x) h = h x
onward (Err e) h = refl

-- ---- the chains with the one that has begun

abbrev chains_with : Option Begun → List Chain → List Chain
chains_with None chains = chains
chains_with (Some b) chains = chains ++ chain_of b ∷ []

last-chains : (d : Draft) (o : Option Begun) → d.begun ≡ o → (with_last_chain d).definition.chains ≡ chains_with o d.definition.chains
last-chains d None is = ap (λ o. (with_chain o d).definition.chains) is
last-chains d (Some b) is = ap (λ o. (with_chain o d).definition.chains) is

placed-append : (xs ys : List Chain) → all_placed (xs ++ ys) ≡ all_placed xs ++ all_placed ys
placed-append [] ys = refl
placed-append (x ∷ xs) ys =
    ap (λ rest. map (placed_in x) x.rules ++ rest) (placed-append xs ys) ∙ sym (append_assoc (map (placed_in x) x.rules) (all_placed xs) (all_placed ys))

placed-one : (x : Chain) → all_placed (x ∷ []) ≡ map (placed_in x) x.rules
placed-one x = append-nil (map (placed_in x) x.rules)

placed-last : (xs : List Chain) (x : Chain) → all_placed (xs ++ x ∷ []) ≡ all_placed xs ++ map (placed_in x) x.rules
placed-last xs x = placed-append xs (x ∷ []) ∙ ap (λ ys. all_placed xs ++ ys) (placed-one x)

-- the rules alone
rules-placed : (xs : List Chain) → all_rules xs ≡ map (λ (p : Placed). p.rule) (all_placed xs)
rules-placed [] = refl
rules-placed (x ∷ xs) =
    ap (λ ys. x.rules ++ ys) (rules-placed xs)
    ∙ ap (λ ys. ys ++ map (λ (p : Placed). p.rule) (all_placed xs)) (sym (one x x.rules))
    ∙ sym (map-append (λ (p : Placed). p.rule) (map (placed_in x) x.rules) (all_placed xs))
  where
    one : (x : Chain) (rules : List Rule) → map (λ (p : Placed). p.rule) (map (placed_in x) rules) ≡ rules
    one x [] = refl
    one x (r ∷ rs) = ap (λ ys. r ∷ ys) (one x rs)

rules-spoken : (above : Term) (xs : List Spoken) → map (λ (p : Placed). p.rule) (placed_from above xs) ≡ map (λ (s : Spoken). s.rule) xs
rules-spoken above [] = refl
rules-spoken above (s ∷ more) = ap (λ ys. s.rule ∷ ys) (rules-spoken (nodes_of above s) more)

-- ---- one rule

same-event : (a b : Event) → same_event a b ≡ true → a ≡ b
same-event events.Start events.Start h = refl
same-event events.Wake events.Wake h = refl
same-event events.Begin events.Begin h = refl
same-event events.End events.End h = refl
same-event (events.Note a) (events.Note b) h = ap events.Note (eqb-true a b h)
same-event one other h = absurd cc

-- under which nodes the rule above stands
abbrev IsAbove : Term → Option Begun → Type 0
IsAbove above None = Unit {0}
IsAbove above (Some b) = b.who.nodes ≡ above

module _ (s : Spoken) (above : Term) where
  abbrev own : Placed
  own = record { nodes = nodes_of above s; on = s.on; rule = s.rule }

  record HasOne (d e : Draft) : Type 0 where
    pub chains : all_placed (chains_with e.begun e.definition.chains) ≡ all_placed (chains_with d.begun d.definition.chains) ++ own ∷ []
    pub under : IsAbove (nodes_of above s) e.begun

  goes-on : (d : Draft) (b : Begun) → d.begun ≡ Some b → s.is_else ≡ true → b.who.nodes ≡ above → goes_on (Some b) s.who s.on ≡ true
      → HasOne d (continued true (Some b) s.who s.on s.rule d)
  goes-on d b is so stands goes =
      let event : b.on ≡ s.on = same-event b.on s.on (and_parts (same_event b.on s.on) (same_text b.who.tokens s.who.tokens) goes).0 in
      let nodes : nodes_of above s ≡ above = ap (λ b. cond b above s.who.nodes) so in
      let single : map (placed_in (chain_of b)) (s.rule ∷ []) ≡ own ∷ [] =
      ap (λ n. record { nodes = n; on = b.on; rule = s.rule } ∷ []) (stands ∙ sym nodes)
      ∙ ap (λ on. record { nodes = nodes_of above s; on = on; rule = s.rule } ∷ []) event in
      record {
        chains =
            placed-last d.definition.chains (record (chain_of b) { rules = b.rules ++ s.rule ∷ [] })
            ∙ ap (λ ys. all_placed d.definition.chains ++ ys) (map-append (placed_in (chain_of b)) b.rules (s.rule ∷ []))
            ∙ sym (append_assoc (all_placed d.definition.chains) (map (placed_in (chain_of b)) b.rules) (map (placed_in (chain_of b)) (s.rule ∷ [])))
            ∙ ap (λ ys. ys ++ map (placed_in (chain_of b)) (s.rule ∷ [])) (sym (placed-last d.definition.chains (chain_of b)))
            ∙ ap (λ o. all_placed (chains_with o d.definition.chains) ++ map (placed_in (chain_of b)) (s.rule ∷ [])) (sym is)
            ∙ ap (λ ys. all_placed (chains_with d.begun d.definition.chains) ++ ys) single;
        under = stands ∙ sym nodes;
      }

  begins-one : (d : Draft) (o : Option Begun) → d.begun ≡ o → s.is_else ≡ false → HasOne d (continued false o s.who s.on s.rule d)
  begins-one d o is so =
      let nodes : nodes_of above s ≡ s.who.nodes = ap (λ b. cond b above s.who.nodes) so in
      let single : map (placed_in (chain_of (record { who = s.who; on = s.on; rules = s.rule ∷ [] }))) (s.rule ∷ []) ≡ own ∷ [] =
      ap (λ n. record { nodes = n; on = s.on; rule = s.rule } ∷ []) (sym nodes) in
      by_begun o is single (sym nodes)
    where
      by_begun : (o : Option Begun) → d.begun ≡ o
          → map (placed_in (chain_of (record { who = s.who; on = s.on; rules = s.rule ∷ [] }))) (s.rule ∷ []) ≡ own ∷ []
          → s.who.nodes ≡ nodes_of above s → HasOne d (continued false o s.who s.on s.rule d)
      by_begun None is single stands = record {
        chains =
            placed-last d.definition.chains (chain_of (record { who = s.who; on = s.on; rules = s.rule ∷ [] }))
            ∙ ap (λ ys. all_placed d.definition.chains ++ ys) single
            ∙ ap (λ o. all_placed (chains_with o d.definition.chains) ++ own ∷ []) (sym is);
        under = stands;
      }
      by_begun (Some b) is single stands = record {
        chains =
            placed-last (d.definition.chains ++ chain_of b ∷ []) (chain_of (record { who = s.who; on = s.on; rules = s.rule ∷ [] }))
            ∙ ap (λ ys. all_placed (d.definition.chains ++ chain_of b ∷ []) ++ ys) single
            ∙ ap (λ o. all_placed (chains_with o d.definition.chains) ++ own ∷ []) (sym is);
        under = stands;
      }

  spoken-one : (d : Draft) (o : Option Begun) (so : Bool) → d.begun ≡ o → s.is_else ≡ so → IsAbove above o → (so ≡ true → goes_on o s.who s.on ≡ true)
      → HasOne d (continued so o s.who s.on s.rule d)
  spoken-one d (Some b) true is so stands goes = goes-on d b is so stands (goes refl)
  spoken-one d None true is so stands goes = let never : false ≡ true = goes refl in absurd cc
  spoken-one d o false is so stands goes = begins-one d o is so

-- what an item says is the rule that is read of it
spoken-rule : (d : Draft) (number : ℕ) (ms : Members) → (spoken_of d number ms >>= λ s. Ok (with_spoken s d)) ≡ rule_of d number ms
unfolding spoken_of rule_of
spoken-rule d number ms =
    assoc (known_parts number ms) _ _ ∙ onward (known_parts number ms) (λ known.
    assoc (located (paths.Part number parts.Who) (who_in d ms)) _ _ ∙ onward (located (paths.Part number parts.Who) (who_in d ms)) (λ who.
    assoc (located (paths.Part number parts.On) (heard_in d ms)) _ _ ∙ onward (located (paths.Part number parts.On) (heard_in d ms)) (λ heard.
    assoc (located (paths.Part number parts.When) (condition_in d who heard ms)) _ _ ∙ onward
    (located (paths.Part number parts.When) (condition_in d who heard ms)) (λ when.
    assoc (located (paths.Part number parts.Set) (changes_in d heard ms)) _ _ ∙ onward (located (paths.Part number parts.Set) (changes_in d heard ms)) (λ sets.
    assoc (located (paths.Part number parts.Send) (letters_in d heard ms)) _ _)))))

-- with `else` it goes on with the rule above
spoken-else : (d : Draft) (number : ℕ) (ms : Members) (s : Spoken) → spoken_of d number ms ≡ Ok s → s.is_else ≡ true → goes_on d.begun s.who s.on ≡ true
unfolding spoken_of
spoken-else d number ms s h so =
    let known = step-inv (known_parts number ms) _ h in
    let who = step-inv (located (paths.Part number parts.Who) (who_in d ms)) _ known.2 in
    let heard = step-inv (located (paths.Part number parts.On) (heard_in d ms)) _ who.2 in
    let when = step-inv (located (paths.Part number parts.When) (condition_in d who.0 heard.0 ms)) _ heard.2 in
    let sets = step-inv (located (paths.Part number parts.Set) (changes_in d heard.0 ms)) _ when.2 in
    let sends = step-inv (located (paths.Part number parts.Send) (letters_in d heard.0 ms)) _ sets.2 in
    let fits = condition-fits d who.0 heard.0 ms when.0 (located-inv (paths.Part number parts.When) (condition_in d who.0 heard.0 ms) when.0 when.1) in
    let made : Spoken =
    record { who = who.0; on = heard.0.on; is_else = when.0.is_else; rule = record { guard = when.0.guard; sets = sets.0; sends = sends.0 } } in
    let same : made ≡ s = cc in
    subst (λ (z : Spoken). z.is_else ≡ true → goes_on d.begun z.who z.on ≡ true) same fits.else_under so

record IsSpoken (d : Draft) (number : ℕ) (x : Data) (e : Draft) : Type 0 where
  pub spoken : Spoken
  pub said : spoken_in d number x ≡ Ok spoken
  pub made : with_spoken spoken d ≡ e
  pub under : spoken.is_else ≡ true → goes_on d.begun spoken.who spoken.on ≡ true

item-spoken : (d : Draft) (number : ℕ) (x : Data) (e : Draft) → rule_in d number x ≡ Ok e → IsSpoken d number x e
item-spoken d number (table ms) e h =
    let s = step-inv (spoken_of d number ms) (λ s. Ok (with_spoken s d)) (spoken-rule d number ms ∙ h) in
    let made : with_spoken s.0 d ≡ e = cc in
    record { spoken = s.0; said = s.1; made = made; under = spoken-else d number ms s.0 s.1 }
item-spoken d number (string text) e h = absurd cc
item-spoken d number (integer z) e h = absurd cc
item-spoken d number (float x) e h = absurd cc
item-spoken d number (boolean b) e h = absurd cc
item-spoken d number (datetime x) e h = absurd cc
item-spoken d number (array xs) e h = absurd cc

-- ---- all rules

record AreSpoken (above : Term) (d : Draft) (i : ℕ) (xs : Items) (e : Draft) : Type 0 where
  pub spoken : List Spoken
  pub said : spoken_from d i xs ≡ Ok spoken
  pub count : length spoken ≡ count_items xs
  pub placed : all_placed (chains_with e.begun e.definition.chains) ≡ all_placed (chains_with d.begun d.definition.chains) ++ placed_from above spoken

items-spoken : (above : Term) (d : Draft) (i : ℕ) (xs : Items) (e : Draft) → IsAbove above d.begun → with_items listings.Rules d i xs ≡ Ok e
    → AreSpoken above d i xs e
items-spoken above d i no_items e stands h =
    let same : d ≡ e = cc in
    record {
      spoken = [];
      said = refl;
      count = refl;
      placed = ap (λ (z : Draft). all_placed (chains_with z.begun z.definition.chains)) (sym same)
          ∙ sym (append-nil (all_placed (chains_with d.begun d.definition.chains)));
    }
items-spoken above d i (item x xs) e stands h =
    let more = step-inv (rule_in d (i + 1) x) (λ more. with_items listings.Rules more (i + 1) xs) h in
    let one = item-spoken d (i + 1) x more.0 more.1 in
    let s = one.spoken in
    let read : with_items listings.Rules (with_spoken s d) (i + 1) xs ≡ Ok e =
    subst (λ z. with_items listings.Rules z (i + 1) xs ≡ Ok e) (sym one.made) more.2 in
    let put = spoken-one s above d d.begun s.is_else refl refl stands one.under in
    let rest = items-spoken (nodes_of above s) (with_spoken s d) (i + 1) xs e put.under read in
    let own : Placed = record { nodes = nodes_of above s; on = s.on; rule = s.rule } in
    record {
      spoken = s ∷ rest.spoken;
      said =
          ap (λ r. r >>= λ s. spoken_from (with_spoken s d) (i + 1) xs >>= λ more. Ok (s ∷ more)) one.said
          ∙ ap (λ r. r >>= λ more. Ok (s ∷ more)) rest.said;
      count = ap suc rest.count;
      placed =
          rest.placed
          ∙ ap (λ ys. ys ++ placed_from (nodes_of above s) rest.spoken) put.chains
          ∙ append_assoc (all_placed (chains_with d.begun d.definition.chains)) (own ∷ []) (placed_from (nodes_of above s) rest.spoken);
    }

-- ---- what is read behind the rules keeps them

chains-outcome : (chains : List Chain) (n : ℕ) (d : Draft) (key : List ℕ) (x : Data) (e : Draft) → d.definition.chains ≡ chains → with_outcome d key x ≡ Ok e
    → e.definition.chains ≡ chains
unfolding with_outcome
chains-outcome chains n d key x e p h =
    let at = place_in d [] scopes.Who in
    let fit = step-inv (checked (is_name key)) _ h in
    let ts = step-inv (tokens_in x) _ fit.2 in
    let promise = step-inv (wanted (promise_of at ts.0)) _ ts.2 in
    let made : and_outcome (record { name = key; promise = promise.0 }) d ≡ e = cc in
    subst (λ (z : Draft). z.definition.chains ≡ chains) made p

chains-shown : (chains : List Chain) (n : ℕ) (d : Draft) (x : Data) (e : Draft) → d.definition.chains ≡ chains → with_shown d x ≡ Ok e
    → e.definition.chains ≡ chains
chains-shown chains n d (string name) e p h = by_number (variable_named 0 name d.definition.variables) h
  where
    once : (so : Bool) (i : ℕ) → cond so (Err faults.Unfit) (Ok (and_shown i d)) ≡ Ok e → e.definition.chains ≡ chains
    once true i at = absurd cc
    once false i at = let made : and_shown i d ≡ e = cc in subst (λ (z : Draft). z.definition.chains ≡ chains) made p

    by_number : (o : Option ℕ) → shown_once d o ≡ Ok e → e.definition.chains ≡ chains
    by_number None at = absurd cc
    by_number (Some i) at = once (named.is_shown d.definition.trace i) i at
chains-shown chains n d (integer z) e p h = absurd cc
chains-shown chains n d (float x) e p h = absurd cc
chains-shown chains n d (boolean b) e p h = absurd cc
chains-shown chains n d (datetime x) e p h = absurd cc
chains-shown chains n d (array xs) e p h = absurd cc
chains-shown chains n d (table ms) e p h = absurd cc

chains-by : (trace : List ℕ) (d : Draft) → (shown_by trace d).definition.chains ≡ d.definition.chains
chains-by [] d = refl
chains-by (i ∷ is) d = refl

chains-traced : (d e : Draft) (ms : Members) → with_trace d ms ≡ Ok e → e.definition.chains ≡ d.definition.chains
unfolding with_trace
chains-traced d e ms h =
    let more = step-inv (with_listing listings.Trace d ms) (λ more. Ok (shown_by more.definition.trace more)) h in
    let made : shown_by more.0.definition.trace more.0 ≡ e = cc in
    let read = listing-keeps (λ n (z : Draft). z.definition.chains ≡ d.definition.chains) listings.Trace
    (λ n number a x b q is. chains-shown d.definition.chains n a x b q (located-inv (paths.Item listings.Trace number) (with_shown a x) b is))
    d ms more.0 refl more.1 in
    ap (λ (z : Draft). z.definition.chains) (sym made) ∙ chains-by more.0.definition.trace more.0 ∙ read.holds

chains-promised : (d e : Draft) (ms : Members) → with_naming namings.Outcomes d ms ≡ Ok e → e.definition.chains ≡ d.definition.chains
chains-promised d e ms h =
    (naming-keeps (λ n (z : Draft). z.definition.chains ≡ d.definition.chains) namings.Outcomes (chains-outcome d.definition.chains) d ms e refl h).holds

-- ---- before the rules there are none

rules-cons : (x : Chain) (xs : List Chain) → rules_in (x ∷ xs) ≡ length x.rules + rules_in xs
rules-cons x xs =
    let of = λ (y : Chain). length y.rules in
    sum-map of (x ∷ xs) ∙ sum_by-cons of x xs ∙ ap (λ n. length x.rules + n) (sym (sum-map of xs))

nothing-in : (xs : List Chain) → rules_in xs ≡ 0 → all_placed xs ≡ []
nothing-in [] h = refl
nothing-in (x ∷ xs) h =
    no_rules x.rules (omega (arith, h, rules-cons x xs)) (nothing-in xs (omega (arith, h, rules-cons x xs)))
  where
    no_rules : (rules : List Rule) → length rules ≡ 0 → all_placed xs ≡ [] → map (placed_in x) rules ++ all_placed xs ≡ []
    no_rules [] none rest = rest
    no_rules (r ∷ rs) none rest = absurd (omega (arith, none))

none-begun : (d : Draft) (o : Option Begun) → MayBegin d.definition o → begun_rules o ≡ 0 → o ≡ None
none-begun d None may none = refl
none-begun d (Some b) may none = absurd (omega (arith, may.some, none))

record IsBare (d : Draft) : Type 0 where
  pub begun : d.begun ≡ None
  pub placed : all_placed (chains_with d.begun d.definition.chains) ≡ []

bare : (d : Draft) → HasRules 0 d → IsBare d
bare d p =
    let begun = none-begun d d.begun p.begun (omega (arith, p.rules)) in
    record {
      begun = begun;
      placed = ap (λ o. all_placed (chains_with o d.definition.chains)) begun ∙ nothing-in d.definition.chains (omega (arith, p.rules));
    }

-- ---- the whole

record AreListed (before : Draft) (ms : Members) (e : Draft) : Type 0 where
  pub items : Items
  pub list : get_member (codes "rules") ms ≡ Some (array items)
  pub spoken : AreSpoken (terms.Leaf leaves.All) before 0 items e

listed : (before : Draft) (ms : Members) (e : Draft) → before.begun ≡ None → with_listing listings.Rules before ms ≡ Ok e → AreListed before ms e
unfolding with_listing
listed before ms e unbegun h = by_data (get_member (codes "rules") ms) refl h
  where
    above : (o : Option Begun) → o ≡ None → IsAbove (terms.Leaf leaves.All) o
    above None none = tt
    above (Some b) none = absurd cc

    by_data : (o : Option Data) → get_member (codes "rules") ms ≡ o → listing_at listings.Rules before o ≡ Ok e → AreListed before ms e
    by_data None is at = absurd cc
    by_data (Some (array xs)) is at =
        let fit = through (refusals.PastLimit (paths.Section (sections.Listing listings.Rules))) (is_fit_list listings.Rules xs)
        (with_items listings.Rules before 0 xs) e at in
        record {
          items = xs;
          list = is;
          spoken = items-spoken (terms.Leaf leaves.All) before 0 xs e (above before.begun unbegun) fit.1;
        }
    by_data (Some (string text)) is at = absurd cc
    by_data (Some (integer z)) is at = absurd cc
    by_data (Some (float x)) is at = absurd cc
    by_data (Some (boolean b)) is at = absurd cc
    by_data (Some (datetime x)) is at = absurd cc
    by_data (Some (table xs)) is at = absurd cc

numbered : (ms : Members) (name : List ℕ) (one two three four : Draft) → declared_in ms ≡ Ok one → with_listing listings.Rules one ms ≡ Ok two
    → with_naming namings.Outcomes (with_last_chain two) ms ≡ Ok three → with_trace three ms ≡ Ok four → AreNumbered ms (declared_by name four)
numbered ms name one two three four first second third fourth =
    let clean = bare one (declared ms one first) in
    let found = listed one ms two clean.begun second in
    let s = found.spoken in
    let chains : four.definition.chains ≡ chains_with two.begun two.definition.chains =
    chains-traced three four ms fourth ∙ chains-promised (with_last_chain two) three ms third ∙ last-chains two two.begun refl in
    let placed : all_placed four.definition.chains ≡ placed_from (terms.Leaf leaves.All) s.spoken =
    ap all_placed chains ∙ s.placed ∙ ap (λ ys. ys ++ placed_from (terms.Leaf leaves.All) s.spoken) clean.placed in
    record {
      before = one;
      items = found.items;
      declared = first;
      list = found.list;
      spoken = s.spoken;
      said = s.said;
      count = s.count;
      rules = rules-placed four.definition.chains ∙ ap (map (λ (p : Placed). p.rule)) placed ∙ rules-spoken (terms.Leaf leaves.All) s.spoken;
      placed = placed;
    }

pub file-numbered : (ms : Members) (file : Declared) → file_in ms ≡ Ok file → AreNumbered ms file
unfolding file_in
file-numbered ms file h =
    let known = step-inv (known_sections ms) _ h in
    let name = step-inv (name_in ms) _ known.2 in
    let one = step-inv (declared_in ms) _ name.2 in
    let two = step-inv (with_listing listings.Rules one.0 ms) _ one.2 in
    let three = step-inv (with_naming namings.Outcomes (with_last_chain two.0) ms) _ two.2 in
    let four = step-inv (with_trace three.0 ms) _ three.2 in
    let made : declared_by name.0 four.0 ≡ file = cc in
    subst (AreNumbered ms) made (numbered ms name.0 one.0 two.0 three.0 four.0 one.1 two.1 three.1 four.1)
