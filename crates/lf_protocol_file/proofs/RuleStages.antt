-- What a draft keeps while rules are read.
use Rattle.std.proofs.Common.{◌≡◌, ℕ, suc, ◌+◌, ◌≤◌, ◌&&◌, Bool, true, false, not, cond, List, [], ◌∷◌, ◌++◌, length, map, sum}
use Rattle.std.proofs.Common.{Option, Some, None, Ok, Err, refl, sym, ap, subst, ◌∙◌, arith}
use Rattle.std.specs.Prelude.{nat_le}
use Rattle.std.specs.List.{list_all}
use Rattle.std.proofs.lemmas.Bool.{and_from, and_parts, le-leb, eqb-true}
use Rattle.std.proofs.lemmas.List.{map-append}
use Rattle.std.proofs.lemmas.List.Sums.{sum_by_push}
use Rattle.toml.specs.Data.{Data, string, integer, float, boolean, datetime, array, table, Members}
use Rattle.lf_rules.specs.Forms.{is_chain, is_assignment, is_send, is_rule_in, is_event, scope_of, sends_of, rules_in}
use Rattle.lf_rules.specs.Sorts.{is_a}
use Rattle.lf_rules.specs.Tables.{cells_in}
use Rattle.lf_rules.specs.Terms as terms
use Rattle.lf_rules.specs.declared.expr.Leaf.TheVariants as leaves
use Rattle.lf_rules.specs.declared.rule.Assignment.{Assignment}
use Rattle.lf_rules.specs.declared.rule.Chain.{Chain}
use Rattle.lf_rules.specs.declared.rule.Event.{Event}
use Rattle.lf_rules.specs.declared.rule.Event.TheVariants as events
use Rattle.lf_rules.specs.declared.rule.Rule.{Rule}
use Rattle.lf_rules.specs.declared.rule.Send.{Send}
use Rattle.lf_rules.specs.declared.sort.Scope.TheVariants as scopes
use Rattle.lf_rules.specs.declared.sort.Sort.TheVariants as sorts
use Rattle.lf_rules.specs.declared.sort.Within.TheVariants as withins
use Rattle.lf_rules.specs.declared.definition.Definition.{Definition}
use Rattle.lf_grammar.specs.declared.token.Token.{Token}
use Rattle.lf_texts.specs.declared.events.Heard.{Heard}
use Rattle.lf_texts.specs.declared.values.When.{When}
use Rattle.lf_texts.specs.Assignments.{sets_in}
use Rattle.lf_texts.specs.Events.{event_in}
use Rattle.lf_texts.specs.Sends.{sends_in}
use Rattle.lf_texts.specs.Values.{nodes_in, when_in}
use Rattle.lf_texts.proofs.Laws.{nodes-sorted, when-sorted, event-fits, sets-fit, sends-fit}
use Rattle.lf_protocol_file.specs.declared.fault.Fault.TheVariants as faults
use Rattle.lf_protocol_file.specs.declared.path.Path.TheVariants as paths
use Rattle.lf_protocol_file.specs.declared.section.Part.TheVariants as parts
use Rattle.lf_protocol_file.specs.Readings.{◌>>=◌, as_value, located}
use Rattle.lf_protocol_file.specs.declared.draft.Begun.{Begun}
use Rattle.lf_protocol_file.specs.declared.draft.Draft.{Draft}
use Rattle.lf_protocol_file.specs.declared.draft.Who.{Who}
use Rattle.lf_protocol_file.specs.Drafts.{place_in}
use Rattle.lf_protocol_file.specs.Chains.{same_event, same_text, goes_on, chain_of, and_chain, with_chain, with_begun, longer, begins, continued, with_rule}
use Rattle.lf_protocol_file.specs.Chains.{with_last_chain}
use Rattle.lf_protocol_file.specs.RuleParts.{known_parts, part_tokens, who_by, who_in, heard_by, heard_in, under, when_by, condition_in, sets_by, changes_in}
use Rattle.lf_protocol_file.specs.RuleParts.{may_send, sends_by, letters_in, rule_of, rule_in}
use Rattle.lf_protocol_file.proofs.Growing.{all-push, is_a-stays, event-stays, rule-stays}
use Rattle.lf_protocol_file.proofs.Readings.{step-inv, located-inv, as_value-inv, through}
use Rattle.lf_protocol_file.proofs.Sounding as sounding
use Rattle.lf_protocol_file.proofs.Sounding.{IsSound, one-longer, grows-chain, sound-chain}
use Rattle.lf_protocol_file.proofs.Stages.{AreMeasured, HasParts}

-- ---- the parts of a rule

module _ (d : Draft) where
  who-by : (o : Option (List Token)) (who : Who) → who_by d o ≡ Ok who → is_a d.definition scopes.Who withins.Nothing sorts.Nodes who.nodes ≡ true
  who-by None who h =
      let made : record { nodes = terms.Leaf leaves.All; tokens = None } ≡ who = cc in
      ap (λ (z : Who). is_a d.definition scopes.Who withins.Nothing sorts.Nodes z.nodes) (sym made)
  who-by (Some ts) who h =
      let at = place_in d [] scopes.Who in
      let e = step-inv (as_value (nodes_in at ts)) (λ e. Ok (record { nodes = e; tokens = Some ts })) h in
      let made : record { nodes = e.0; tokens = Some ts } ≡ who = cc in
      ap (λ (z : Who). is_a d.definition scopes.Who withins.Nothing sorts.Nodes z.nodes) (sym made)
      ∙ nodes-sorted at ts e.0 (as_value-inv (nodes_in at ts) e.0 e.1)

  who-fits : (ms : Members) (who : Who) → who_in d ms ≡ Ok who → is_a d.definition scopes.Who withins.Nothing sorts.Nodes who.nodes ≡ true
  unfolding who_in
  who-fits ms who h = let ts = step-inv (part_tokens ms parts.Who) (λ ts. who_by d ts) h in who-by ts.0 who ts.2

  heard-by : (o : Option (List Token)) (heard : Heard) → heard_by d o ≡ Ok heard → is_event d.definition heard.on ≡ true
  heard-by None heard h = absurd cc
  heard-by (Some ts) heard h =
      let at = place_in d [] scopes.Plain in
      event-fits at ts heard (as_value-inv (event_in at ts) heard h)

  heard-fits : (ms : Members) (heard : Heard) → heard_in d ms ≡ Ok heard → is_event d.definition heard.on ≡ true
  unfolding heard_in
  heard-fits ms heard h = let ts = step-inv (part_tokens ms parts.On) (λ ts. heard_by d ts) h in heard-by ts.0 heard ts.2

  -- a guard that is one where it stands, and an `else` that may stand there
  pub record IsCondition (who : Who) (heard : Heard) (when : When) : Type 0 where
    pub guard : is_a d.definition (scope_of heard.on) withins.Nothing sorts.Truth when.guard ≡ true
    pub else_under : when.is_else ≡ true → goes_on d.begun who heard.on ≡ true

  under-inv : (more : Bool) (w when : When) → under more w ≡ Ok when → (w ≡ when) × (when.is_else ≡ true → more ≡ true)
  under-inv true w when h = (by_else w.is_else h, λ is. refl)
    where
      by_else : (so : Bool) → cond (so && not true) (Err faults.Unfit) (Ok w) ≡ Ok when → w ≡ when
      by_else true e = cc
      by_else false e = cc
  under-inv false w when h = by_else w.is_else refl h
    where
      by_else : (so : Bool) → w.is_else ≡ so → cond (so && not false) (Err faults.Unfit) (Ok w) ≡ Ok when → (w ≡ when) × (when.is_else ≡ true → false ≡ true)
      by_else true is e = absurd cc
      by_else false is e =
          let same : w ≡ when = cc in
          (same, λ so. sym is ∙ ap (λ (z : When). z.is_else) same ∙ so)

  when-by : (who : Who) (heard : Heard) (o : Option (List Token)) (when : When) → when_by d who heard o ≡ Ok when → IsCondition who heard when
  when-by who heard None when h =
      let made : record { is_else = false; guard = terms.Leaf (leaves.Truth true) } ≡ when = cc in
      record {
        guard = ap (λ (z : When). is_a d.definition (scope_of heard.on) withins.Nothing sorts.Truth z.guard) (sym made);
        else_under = λ so. let wrong : false ≡ true = ap (λ (z : When). z.is_else) made ∙ so in absurd (cc wrong);
      }
  when-by who heard (Some ts) when h =
      let at = place_in d heard.fields (scope_of heard.on) in
      let w = step-inv (as_value (when_in at ts)) (λ when. under (goes_on d.begun who heard.on) when) h in
      let found = under-inv (goes_on d.begun who heard.on) w.0 when w.2 in
      record {
        guard =
            ap (λ (z : When). is_a d.definition (scope_of heard.on) withins.Nothing sorts.Truth z.guard) (sym found.0)
            ∙ when-sorted at ts w.0 (as_value-inv (when_in at ts) w.0 w.1);
        else_under = found.1;
      }

  pub condition-fits : (who : Who) (heard : Heard) (ms : Members) (when : When) → condition_in d who heard ms ≡ Ok when → IsCondition who heard when
  unfolding condition_in
  condition-fits who heard ms when h = let ts = step-inv (part_tokens ms parts.When) (λ ts. when_by d who heard ts) h in when-by who heard ts.0 when ts.2

  sets-by : (heard : Heard) (o : Option (List Token)) (xs : List Assignment) → sets_by d heard o ≡ Ok xs
      → (list_all (is_assignment d.definition (scope_of heard.on)) xs ≡ true) × (length xs ≤ 16)
  sets-by heard None xs h =
      let same : [] ≡ xs = cc in
      (ap (list_all (is_assignment d.definition (scope_of heard.on))) (sym same), omega (arith, ap length same))
  sets-by heard (Some ts) xs h =
      let at = place_in d heard.fields (scope_of heard.on) in
      sets-fit at ts xs (as_value-inv (sets_in at ts) xs h)

  changes-fit : (heard : Heard) (ms : Members) (xs : List Assignment) → changes_in d heard ms ≡ Ok xs
      → (list_all (is_assignment d.definition (scope_of heard.on)) xs ≡ true) × (length xs ≤ 16)
  unfolding changes_in
  changes-fit heard ms xs h = let ts = step-inv (part_tokens ms parts.Set) (λ ts. sets_by d heard ts) h in sets-by heard ts.0 xs ts.2

  -- letters that may be sent there
  record AreLetters (on : Event) (xs : List Send) : Type 0 where
    pub all : list_all (is_send d.definition (scope_of on)) xs ≡ true
    pub few : nat_le (length xs) (sends_of on) ≡ true

  allowed : (on : Event) (n : ℕ) → may_send on ≡ true → n ≤ 8 → nat_le n (sends_of on) ≡ true
  allowed events.Start n may few = absurd cc
  allowed events.Wake n may few = absurd cc
  allowed events.Begin n may few = le-leb n 8 few
  allowed events.End n may few = le-leb n 8 few
  allowed (events.Note form) n may few = le-leb n 8 few

  letters-by : (heard : Heard) (o : Option (List Token)) (xs : List Send) → sends_by d heard o ≡ Ok xs → AreLetters heard.on xs
  letters-by heard None xs h =
      let same : [] ≡ xs = cc in
      record {
        all = ap (list_all (is_send d.definition (scope_of heard.on))) (sym same);
        few = ap (λ (ys : List Send). nat_le (length ys) (sends_of heard.on)) (sym same) ∙ le-leb 0 (sends_of heard.on) (omega arith);
      }
  letters-by heard (Some ts) xs h =
      let at = place_in d heard.fields (scope_of heard.on) in
      let may = through faults.Unfit (may_send heard.on) (as_value (sends_in at ts)) xs h in
      let fit = sends-fit at ts xs (as_value-inv (sends_in at ts) xs may.1) in
      record { all = fit.0; few = allowed heard.on (length xs) may.0 fit.1 }

  letters-fit : (heard : Heard) (ms : Members) (xs : List Send) → letters_in d heard ms ≡ Ok xs → AreLetters heard.on xs
  unfolding letters_in
  letters-fit heard ms xs h = let ts = step-inv (part_tokens ms parts.Send) (λ ts. sends_by d heard ts) h in letters-by heard ts.0 xs ts.2

-- ---- chains

-- a chain that has begun fits
pub record IsBegunIn (d : Definition) (b : Begun) : Type 0 where
  pub who : is_a d scopes.Who withins.Nothing sorts.Nodes b.who.nodes ≡ true
  pub on : is_event d b.on ≡ true
  pub some : 1 ≤ length b.rules
  pub rules : list_all (is_rule_in d (scope_of b.on) (sends_of b.on)) b.rules ≡ true

abbrev pub MayBegin : Definition → Option Begun → Type 0
MayBegin d None = Unit {0}
MayBegin d (Some b) = IsBegunIn d b

abbrev pub begun_rules : Option Begun → ℕ
begun_rules None = 0
begun_rules (Some b) = length b.rules

-- the parts fit, within their limits, with so many rules in all
pub record HasRules (n : ℕ) (d : Draft) : Type 0 where
  pub sound : IsSound d.definition
  pub measured : AreMeasured (length d.definition.variables) (cells_in d.definition) (length d.definition.given)
  pub notes : length d.definition.notes ≤ 16
  pub lets : length d.definition.lets ≤ 16
  pub facts : length d.definition.facts ≤ 32
  pub trace : d.definition.trace ≡ []
  pub unpromised : d.outcomes ≡ []
  pub begun : MayBegin d.definition d.begun
  pub rules : rules_in d.definition.chains + begun_rules d.begun ≡ n

pub no-rules : (ns ls fs : ℕ) (d : Draft) → ns ≤ 16 → ls ≤ 16 → fs ≤ 32 → HasParts ns ls fs d → HasRules 0 d
no-rules ns ls fs d notes lets facts p = record {
  sound = p.sound;
  measured = p.measured;
  notes = omega (arith, p.notes, notes);
  lets = omega (arith, p.lets, lets);
  facts = omega (arith, p.facts, facts);
  trace = p.trace;
  unpromised = p.unpromised;
  begun = let none : MayBegin d.definition None = tt in subst (MayBegin d.definition) (sym p.unbegun) none;
  rules = omega (arith, ap rules_in p.chains, ap begun_rules p.unbegun);
}

rules-push : (xs : List Chain) (x : Chain) → rules_in (xs ++ x ∷ []) ≡ rules_in xs + length x.rules
rules-push xs x =
    ap sum (map-append (λ (y : Chain). length y.rules) xs (x ∷ []))
    ∙ sum_by_push (λ (k : ℕ). k) (map (λ (y : Chain). length y.rules) xs) (length x.rules)

-- the chain that has begun, as one of a definition
whole-chain : (d : Definition) (b : Begun) → IsBegunIn d b → is_chain d (chain_of b) ≡ true
whole-chain d b is =
    let rules = list_all (is_rule_in d (scope_of b.on) (sends_of b.on)) b.rules in
    and_from (is_a d scopes.Who withins.Nothing sorts.Nodes b.who.nodes) (is_event d b.on && (nat_le 1 (length b.rules) && rules)) is.who
    (and_from (is_event d b.on) (nat_le 1 (length b.rules) && rules) is.on
    (and_from (nat_le 1 (length b.rules)) rules (le-leb 1 (length b.rules) is.some) is.rules))

-- the chain that has begun is put among the others
chained : (n : ℕ) (d : Draft) (o : Option Begun) → d.begun ≡ o → HasRules n d → (rules_in (with_chain o d).definition.chains ≡ n)
    × IsSound (with_chain o d).definition
chained n d None is p = (omega (arith, p.rules, ap begun_rules is), p.sound)
chained n d (Some b) is p =
    let begun = subst (MayBegin d.definition) is p.begun in (
      omega (arith, p.rules, ap begun_rules is, rules-push d.definition.chains (chain_of b)),
      sound-chain d.definition p.sound (chain_of b) (whole-chain d.definition b begun),
    )

same-on : (one on : Event) → same_event one on ≡ true → one ≡ on
same-on events.Start events.Start h = refl
same-on events.Wake events.Wake h = refl
same-on events.Begin events.Begin h = refl
same-on events.End events.End h = refl
same-on (events.Note a) (events.Note b) h = ap events.Note (eqb-true a b h)
same-on one other h = absurd cc

module _ (who : Who) (on : Event) (rule : Rule) where
  -- a rule with whose it is and what it is on, that fits
  record IsRule (d : Definition) : Type 0 where
    pub whose : is_a d scopes.Who withins.Nothing sorts.Nodes who.nodes ≡ true
    pub event : is_event d on ≡ true
    pub own : is_rule_in d (scope_of on) (sends_of on) rule ≡ true

  began : (d : Definition) → IsRule d → IsBegunIn d (record { who = who; on = on; rules = rule ∷ [] })
  began d is = record {
    who = is.whose;
    on = is.event;
    some = omega arith;
    rules = and_from (is_rule_in d (scope_of on) (sends_of on) rule) true is.own refl;
  }

  begins-one : (n : ℕ) (d : Draft) → HasRules n d → d.begun ≡ None → IsRule d.definition → HasRules (suc n) (begins who on rule d)
  begins-one n d p none is = record {
    sound = p.sound;
    measured = p.measured;
    notes = p.notes;
    lets = p.lets;
    facts = p.facts;
    trace = p.trace;
    unpromised = p.unpromised;
    begun = began d.definition is;
    rules = omega (arith, p.rules, ap begun_rules none);
  }

  begins-next : (n : ℕ) (d : Draft) (b : Begun) → HasRules n d → d.begun ≡ Some b → IsRule d.definition → HasRules (suc n) (begins who on rule (and_chain b d))
  begins-next n d b p some is =
      let g = grows-chain d.definition (chain_of b) in
      let before = chained n d (Some b) some p in
      record {
        sound = before.1;
        measured = p.measured;
        notes = p.notes;
        lets = p.lets;
        facts = p.facts;
        trace = p.trace;
        unpromised = p.unpromised;
        begun = began (sounding.and_chain d.definition (chain_of b)) (record {
          whose = is_a-stays g scopes.Who withins.Nothing sorts.Nodes who.nodes is.whose;
          event = event-stays g on is.event;
          own = rule-stays g (scope_of on) (sends_of on) rule is.own;
        });
        rules = omega (arith, before.0);
      }

  goes-on : (n : ℕ) (d : Draft) (b : Begun) → HasRules n d → d.begun ≡ Some b → goes_on (Some b) who on ≡ true → IsRule d.definition
      → HasRules (suc n) (with_begun (Some (longer rule b)) d)
  goes-on n d b p some more is =
      let begun = subst (MayBegin d.definition) some p.begun in
      let event = and_parts (same_event b.on on) (same_text b.who.tokens who.tokens) more in
      let same = same-on b.on on event.0 in
      let own = ap (λ (x : Event). is_rule_in d.definition (scope_of x) (sends_of x) rule) same ∙ is.own in
      record {
        sound = p.sound;
        measured = p.measured;
        notes = p.notes;
        lets = p.lets;
        facts = p.facts;
        trace = p.trace;
        unpromised = p.unpromised;
        begun = record {
          who = begun.who;
          on = begun.on;
          some = omega (arith, one-longer b.rules rule);
          rules = all-push (is_rule_in d.definition (scope_of b.on) (sends_of b.on)) b.rules rule begun.rules own;
        };
        rules = omega (arith, p.rules, ap begun_rules some, one-longer b.rules rule);
      }

  with-rule : (more : Bool) (n : ℕ) (d : Draft) (o : Option Begun) → HasRules n d → d.begun ≡ o → (more ≡ true → goes_on o who on ≡ true)
      → IsRule d.definition → HasRules (suc n) (continued more o who on rule d)
  with-rule true n d (Some b) p is goes fits = goes-on n d b p is (goes refl) fits
  with-rule true n d None p is goes fits = begins-one n d p is fits
  with-rule false n d (Some b) p is goes fits = begins-next n d b p is fits
  with-rule false n d None p is goes fits = begins-one n d p is fits

-- one more rule
rule-of : (n number : ℕ) (d : Draft) (ms : Members) (e : Draft) → HasRules n d → rule_of d number ms ≡ Ok e → HasRules (suc n) e
unfolding rule_of
rule-of n number d ms e p h =
    let known = step-inv (known_parts number ms)
    (λ known. located (paths.Part number parts.Who) (who_in d ms) >>= λ who. located (paths.Part number parts.On) (heard_in d ms)
    >>= λ heard. located (paths.Part number parts.When) (condition_in d who heard ms) >>= λ when. located (paths.Part number parts.Set) (changes_in d heard ms)
    >>= λ sets. located (paths.Part number parts.Send) (letters_in d heard ms)
    >>= λ sends. Ok (with_rule when.is_else who heard.on (record { guard = when.guard; sets = sets; sends = sends }) d)) h in
    let who = step-inv (located (paths.Part number parts.Who) (who_in d ms))
    (λ who. located (paths.Part number parts.On) (heard_in d ms)
    >>= λ heard. located (paths.Part number parts.When) (condition_in d who heard ms) >>= λ when. located (paths.Part number parts.Set) (changes_in d heard ms)
    >>= λ sets. located (paths.Part number parts.Send) (letters_in d heard ms)
    >>= λ sends. Ok (with_rule when.is_else who heard.on (record { guard = when.guard; sets = sets; sends = sends }) d)) known.2 in
    let heard = step-inv (located (paths.Part number parts.On) (heard_in d ms))
    (λ heard. located (paths.Part number parts.When) (condition_in d who.0 heard ms)
    >>= λ when. located (paths.Part number parts.Set) (changes_in d heard ms) >>= λ sets. located (paths.Part number parts.Send) (letters_in d heard ms)
    >>= λ sends. Ok (with_rule when.is_else who.0 heard.on (record { guard = when.guard; sets = sets; sends = sends }) d)) who.2 in
    let when = step-inv (located (paths.Part number parts.When) (condition_in d who.0 heard.0 ms))
    (λ when. located (paths.Part number parts.Set) (changes_in d heard.0 ms) >>= λ sets. located (paths.Part number parts.Send) (letters_in d heard.0 ms)
    >>= λ sends. Ok (with_rule when.is_else who.0 heard.0.on (record { guard = when.guard; sets = sets; sends = sends }) d)) heard.2 in
    let sets = step-inv (located (paths.Part number parts.Set) (changes_in d heard.0 ms))
    (λ sets. located (paths.Part number parts.Send) (letters_in d heard.0 ms)
    >>= λ sends. Ok (with_rule when.0.is_else who.0 heard.0.on (record { guard = when.0.guard; sets = sets; sends = sends }) d)) when.2 in
    let sends = step-inv (located (paths.Part number parts.Send) (letters_in d heard.0 ms))
    (λ sends. Ok (with_rule when.0.is_else who.0 heard.0.on (record { guard = when.0.guard; sets = sets.0; sends = sends }) d)) sets.2 in
    let rule : Rule = record { guard = when.0.guard; sets = sets.0; sends = sends.0 } in
    let made : with_rule when.0.is_else who.0 heard.0.on rule d ≡ e = cc in
    let is_who = who-fits d ms who.0 (located-inv (paths.Part number parts.Who) (who_in d ms) who.0 who.1) in
    let is_heard = heard-fits d ms heard.0 (located-inv (paths.Part number parts.On) (heard_in d ms) heard.0 heard.1) in
    let is_when = condition-fits d who.0 heard.0 ms when.0 (located-inv (paths.Part number parts.When) (condition_in d who.0 heard.0 ms) when.0 when.1) in
    let are_sets = changes-fit d heard.0 ms sets.0 (located-inv (paths.Part number parts.Set) (changes_in d heard.0 ms) sets.0 sets.1) in
    let are_sends = letters-fit d heard.0 ms sends.0 (located-inv (paths.Part number parts.Send) (letters_in d heard.0 ms) sends.0 sends.1) in
    let scope = scope_of heard.0.on in
    let all_sends = nat_le (length sends.0) (sends_of heard.0.on) && list_all (is_send d.definition scope) sends.0 in
    let is_rule =
    and_from (is_a d.definition scope withins.Nothing sorts.Truth when.0.guard)
    (nat_le (length sets.0) 16 && (list_all (is_assignment d.definition scope) sets.0 && all_sends)) is_when.guard
    (and_from (nat_le (length sets.0) 16) (list_all (is_assignment d.definition scope) sets.0 && all_sends) (le-leb (length sets.0) 16 are_sets.1)
    (and_from (list_all (is_assignment d.definition scope) sets.0) all_sends are_sets.0
    (and_from (nat_le (length sends.0) (sends_of heard.0.on)) (list_all (is_send d.definition scope) sends.0) are_sends.few are_sends.all))) in
    subst (HasRules (suc n)) made
    (with-rule who.0 heard.0.on rule when.0.is_else n d d.begun p refl is_when.else_under (record { whose = is_who; event = is_heard; own = is_rule }))

pub rule-step : (n number : ℕ) (d : Draft) (x : Data) (e : Draft) → HasRules n d → rule_in d number x ≡ Ok e → HasRules (suc n) e
rule-step n number d (table ms) e p h = rule-of n number d ms e p h
rule-step n number d (string text) e p h = absurd cc
rule-step n number d (integer z) e p h = absurd cc
rule-step n number d (float x) e p h = absurd cc
rule-step n number d (boolean b) e p h = absurd cc
rule-step n number d (datetime x) e p h = absurd cc
rule-step n number d (array xs) e p h = absurd cc

-- all rules, in chains that are whole
pub record IsRuled (d : Draft) : Type 0 where
  pub sound : IsSound d.definition
  pub measured : AreMeasured (length d.definition.variables) (cells_in d.definition) (length d.definition.given)
  pub notes : length d.definition.notes ≤ 16
  pub lets : length d.definition.lets ≤ 16
  pub facts : length d.definition.facts ≤ 32
  pub rules : rules_in d.definition.chains ≤ 128
  pub trace : d.definition.trace ≡ []
  pub unpromised : d.outcomes ≡ []

last-chain : (n : ℕ) (d : Draft) (o : Option Begun) → n ≤ 128 → d.begun ≡ o → HasRules n d → IsRuled (with_begun None (with_chain o d))
last-chain n d None few is p =
    let found = chained n d None is p in
    record {
      sound = p.sound;
      measured = p.measured;
      notes = p.notes;
      lets = p.lets;
      facts = p.facts;
      rules = omega (arith, found.0, few);
      trace = p.trace;
      unpromised = p.unpromised;
    }
last-chain n d (Some b) few is p =
    let found = chained n d (Some b) is p in
    record {
      sound = found.1;
      measured = p.measured;
      notes = p.notes;
      lets = p.lets;
      facts = p.facts;
      rules = omega (arith, found.0, few);
      trace = p.trace;
      unpromised = p.unpromised;
    }

pub ruled : (n : ℕ) (d : Draft) → n ≤ 128 → HasRules n d → IsRuled (with_last_chain d)
ruled n d few p = last-chain n d d.begun few refl p
