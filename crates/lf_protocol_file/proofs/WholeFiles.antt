-- What is read of a protocol file is whole.
use Rattle.std.proofs.Common.{◌≡◌, ℕ, zero, suc, ◌+◌, ◌≤◌, ◌<◌, ◌&&◌, Bool, true, false, cond, List, [], ◌∷◌, ◌++◌, length}
use Rattle.std.proofs.Common.{Option, Some, None, Ok, Err, refl, sym, ap, subst, ◌∙◌, arith}
use Rattle.std.specs.Prelude.{nat_le}
use Rattle.std.specs.List.{list_all}
use Rattle.std.specs.Str.{bytes_eq}
use Rattle.std.proofs.lemmas.Bool.{and_from, le-leb, lt-ltb}
use Rattle.toml.specs.Data.{Data, string, integer, float, boolean, datetime, array, table, Members}
use Rattle.lf_rules.specs.Forms.{is_from, are_variables, is_form, is_constant, is_let, is_fact, is_chain, is_shown, rules_in, is_in_limits, is_well_formed}
use Rattle.lf_rules.specs.Tables.{cells_in}
use Rattle.lf_rules.specs.declared.sort.Scope.TheVariants as scopes
use Rattle.lf_rules.specs.declared.definition.Definition.{Definition}
use Rattle.lf_rules.specs.declared.definition.Variable.{Variable}
use Rattle.lf_promises.specs.Facts.{names_facts}
use Rattle.lf_promises.specs.Promises.{promise_of}
use Rattle.lf_promises.proofs.Laws.{promise-named}
use Rattle.lf_texts.specs.Names.{is_name}
use Rattle.lf_protocol_file.specs.declared.fault.Fault.TheVariants as faults
use Rattle.lf_protocol_file.specs.declared.path.Path.TheVariants as paths
use Rattle.lf_protocol_file.specs.declared.section.Listing.TheVariants as listings
use Rattle.lf_protocol_file.specs.declared.section.Naming.TheVariants as namings
use Rattle.lf_protocol_file.specs.Readings.{◌>>=◌, wanted, checked}
use Rattle.lf_protocol_file.specs.Refusals.{shown}
use Rattle.lf_protocol_file.specs.Texts.{tokens_in}
use Rattle.lf_protocol_file.specs.declared.declared.Declared.{Declared}
use Rattle.lf_protocol_file.specs.declared.declared.Outcome.{Outcome}
use Rattle.lf_protocol_file.specs.Written.{are_named, is_whole}
use Rattle.lf_protocol_file.specs.declared.draft.Draft.{Draft}
use Rattle.lf_protocol_file.specs.Drafts.{nothing, place_in, number_after}
use Rattle.lf_protocol_file.specs.Named as named
use Rattle.lf_protocol_file.specs.Named.{and_outcome, with_note, with_outcome, variable_named, shown_once, and_shown, with_shown, numbers_to}
use Rattle.lf_protocol_file.specs.Variables.{with_variables}
use Rattle.lf_protocol_file.specs.Chains.{with_last_chain}
use Rattle.lf_protocol_file.specs.Entries.{with_naming}
use Rattle.lf_protocol_file.specs.Entries.{with_listing}
use Rattle.lf_protocol_file.specs.Files.{known_sections, name_in, declared_in, shown_by, with_trace, declared_by, file_in}
use Rattle.lf_protocol_file.proofs.Growing.{all-push}
use Rattle.lf_protocol_file.proofs.Readings.{step-inv, located-inv, wanted-inv}
use Rattle.lf_protocol_file.proofs.RuleStages.{HasRules, no-rules, rule-step, IsRuled, ruled}
use Rattle.lf_protocol_file.proofs.SectionLemmas.{naming-keeps, listing-keeps}
use Rattle.lf_protocol_file.proofs.Sounding.{IsSound, one-longer, sound-trace}
use Rattle.lf_protocol_file.proofs.Stages.{HasGiven, given-step, HasSketches, sketch-step, AreMeasured}
use Rattle.lf_protocol_file.proofs.Stages.{HasParts, variables-step, note-step, let-step, fact-step}
use Rattle.lf_protocol_file.proofs.VariableKinds.{small-number, AllHeld, held-none}

-- ---- outcomes, and what a trace shows

-- all is fit but the trace, which shows nothing so far
record IsPromising (d : Draft) : Type 0 where
  pub sound : IsSound d.definition
  pub measured : AreMeasured (length d.definition.variables) (cells_in d.definition) (length d.definition.given)
  pub notes : length d.definition.notes ≤ 16
  pub lets : length d.definition.lets ≤ 16
  pub facts : length d.definition.facts ≤ 32
  pub rules : rules_in d.definition.chains ≤ 128
  pub trace : d.definition.trace ≡ []
  pub named : are_named d.definition d.outcomes ≡ true

unpromising : (d : Draft) → IsRuled d → IsPromising d
unpromising d p = record {
  sound = p.sound;
  measured = p.measured;
  notes = p.notes;
  lets = p.lets;
  facts = p.facts;
  rules = p.rules;
  trace = p.trace;
  named = ap (are_named d.definition) p.unpromised;
}

outcome-step : (n : ℕ) (d : Draft) (key : List ℕ) (x : Data) (e : Draft) → IsPromising d → with_outcome d key x ≡ Ok e → IsPromising e
unfolding with_outcome
outcome-step n d key x e p h =
    let at = place_in d [] scopes.Who in
    let fit = step-inv (checked (is_name key))
    (λ fit. tokens_in x >>= λ ts. wanted (promise_of at ts) >>= λ promise. Ok (and_outcome (record { name = key; promise = promise }) d)) h in
    let ts = step-inv (tokens_in x)
    (λ ts. wanted (promise_of at ts) >>= λ promise. Ok (and_outcome (record { name = key; promise = promise }) d)) fit.2 in
    let promise = step-inv (wanted (promise_of at ts.0)) (λ promise. Ok (and_outcome (record { name = key; promise = promise }) d)) ts.2 in
    let o : Outcome = record { name = key; promise = promise.0 } in
    let made : and_outcome o d ≡ e = cc in
    let names = promise-named at ts.0 promise.0 (wanted-inv (promise_of at ts.0) promise.1) in
    subst IsPromising made (record {
      sound = p.sound;
      measured = p.measured;
      notes = p.notes;
      lets = p.lets;
      facts = p.facts;
      rules = p.rules;
      trace = p.trace;
      named = all-push (λ (q : Outcome). names_facts d.definition q.promise) d.outcomes o p.named names;
    })

-- all is fit, and the trace shows so many variables
record HasTrace (n : ℕ) (d : Draft) : Type 0 where
  pub sound : IsSound d.definition
  pub measured : AreMeasured (length d.definition.variables) (cells_in d.definition) (length d.definition.given)
  pub notes : length d.definition.notes ≤ 16
  pub lets : length d.definition.lets ≤ 16
  pub facts : length d.definition.facts ≤ 32
  pub rules : rules_in d.definition.chains ≤ 128
  pub named : are_named d.definition d.outcomes ≡ true
  pub count : length d.definition.trace ≡ n

untraced : (d : Draft) → IsPromising d → HasTrace 0 d
untraced d p = record {
  sound = p.sound;
  measured = p.measured;
  notes = p.notes;
  lets = p.lets;
  facts = p.facts;
  rules = p.rules;
  named = p.named;
  count = ap length p.trace;
}

-- what names facts of a definition names those of one with another trace
still-named : (d : Definition) (trace : List ℕ) (outcomes : List Outcome) → are_named d outcomes ≡ true → are_named (record d { trace = trace }) outcomes ≡ true
still-named d trace outcomes h = h

retraced : (n m : ℕ) (d : Draft) (trace : List ℕ) → HasTrace n d → list_all (is_shown d.definition) trace ≡ true → length trace ≡ m
    → HasTrace m (named.tracing trace d)
retraced n m d trace p all count = record {
  sound = sound-trace d.definition p.sound trace all;
  measured = p.measured;
  notes = p.notes;
  lets = p.lets;
  facts = p.facts;
  rules = p.rules;
  named = still-named d.definition trace d.outcomes p.named;
  count = count;
}

-- a variable with a name has a number
named-number : (i : ℕ) (name : List ℕ) (xs : List Variable) (k : ℕ) → i + length xs ≤ 32 → variable_named i name xs ≡ Some k → k < i + length xs
named-number i name [] k few h = absurd cc
named-number i name (x ∷ xs) k few h = here_or_later (bytes_eq x.name name) (named-number (suc i) name xs k (omega (arith, few))) h
  where
    here_or_later : (so : Bool) → (variable_named (suc i) name xs ≡ Some k → k < suc i + length xs)
        → cond so (Some (number_after i)) (variable_named (suc i) name xs) ≡ Some k → k < i + suc (length xs)
    here_or_later true later e =
        let same : number_after i ≡ k = cc in
        omega (arith, same, small-number i (omega (arith, few)))
    here_or_later false later e = omega (arith, later e)

shown-step : (n : ℕ) (d : Draft) (x : Data) (e : Draft) → HasTrace n d → with_shown d x ≡ Ok e → HasTrace (suc n) e
shown-step n d (string name) e p h = by_number (variable_named 0 name d.definition.variables) refl h
  where
    once : (so : Bool) (i : ℕ) → variable_named 0 name d.definition.variables ≡ Some i → cond so (Err faults.Unfit) (Ok (and_shown i d)) ≡ Ok e
        → HasTrace (suc n) e
    once true i is at = absurd cc
    once false i is at =
        let made : and_shown i d ≡ e = cc in
        let low = named-number 0 name d.definition.variables i (omega (arith, p.measured.few_variables)) is in
        let one = lt-ltb i (length d.definition.variables) (omega (arith, low)) in
        let all = all-push (is_shown d.definition) d.definition.trace i p.sound.trace one in
        subst (HasTrace (suc n)) made
        (retraced n (suc n) d (d.definition.trace ++ i ∷ []) p all (omega (arith, one-longer d.definition.trace i, p.count)))

    by_number : (o : Option ℕ) → variable_named 0 name d.definition.variables ≡ o → shown_once d o ≡ Ok e → HasTrace (suc n) e
    by_number None is at = absurd cc
    by_number (Some i) is at = once (named.is_shown d.definition.trace i) i is at
shown-step n d (integer z) e p h = absurd cc
shown-step n d (float x) e p h = absurd cc
shown-step n d (boolean b) e p h = absurd cc
shown-step n d (datetime x) e p h = absurd cc
shown-step n d (array xs) e p h = absurd cc
shown-step n d (table ms) e p h = absurd cc

numbers-length : (n : ℕ) → length (numbers_to n) ≡ n
numbers-length zero = refl
numbers-length (suc n) = omega (arith, one-longer (numbers_to n) (number_after n), numbers-length n)

numbers-shown : (d : Definition) (n : ℕ) → n ≤ length d.variables → n ≤ 32 → list_all (is_shown d) (numbers_to n) ≡ true
numbers-shown d zero low few = refl
numbers-shown d (suc n) low few =
    let rest = numbers-shown d n (omega (arith, low)) (omega (arith, few)) in
    let one = lt-ltb (number_after n) (length d.variables) (omega (arith, low, small-number n (omega (arith, few)))) in
    all-push (is_shown d) (numbers_to n) (number_after n) rest one

-- a trace that shows something
record IsTraced (d : Draft) : Type 0 where
  pub count : ℕ
  pub holds : HasTrace count d
  pub some : 1 ≤ count
  pub few : count ≤ 32

traced-by : (n : ℕ) (d : Draft) (trace : List ℕ) → d.definition.trace ≡ trace → HasTrace n d → n ≤ 32 → IsTraced (shown_by trace d)
traced-by n d [] is p few =
    let k = length d.definition.variables in
    let all = numbers-shown d.definition k (omega arith) p.measured.few_variables in
    record {
      count = k;
      holds = retraced n k d (numbers_to k) p all (numbers-length k);
      some = p.measured.some_variables;
      few = p.measured.few_variables;
    }
traced-by n d (i ∷ is) same p few = record { count = n; holds = p; some = omega (arith, p.count, ap length same); few = few }

traced : (d e : Draft) (ms : Members) → IsPromising d → with_trace d ms ≡ Ok e → IsTraced e
unfolding with_trace
traced d e ms p h =
    let more = step-inv (with_listing listings.Trace d ms) (λ more. Ok (shown_by more.definition.trace more)) h in
    let made : shown_by more.0.definition.trace more.0 ≡ e = cc in
    let read = listing-keeps HasTrace listings.Trace
    (λ n number a x b q is. shown-step n a x b q (located-inv (paths.Item listings.Trace number) (with_shown a x) b is)) d ms more.0 (untraced d p) more.1 in
    subst IsTraced made (traced-by read.count more.0 more.0.definition.trace refl read.holds read.few)

-- ---- the whole

-- what a file declares before its rules
pub declared : (ms : Members) (d : Draft) → declared_in ms ≡ Ok d → HasRules 0 d
unfolding declared_in
declared ms d h =
    let given = step-inv (with_naming namings.Given nothing ms)
    (λ given. with_naming namings.State given ms >>= λ sketched. with_variables sketched >>= λ settled. with_listing listings.Notes settled ms
    >>= λ noted. with_naming namings.Lets noted ms >>= λ letting. with_naming namings.Facts letting ms) h in
    let sketched = step-inv (with_naming namings.State given.0 ms)
    (λ sketched. with_variables sketched >>= λ settled. with_listing listings.Notes settled ms
    >>= λ noted. with_naming namings.Lets noted ms >>= λ letting. with_naming namings.Facts letting ms) given.2 in
    let settled = step-inv (with_variables sketched.0)
    (λ settled. with_listing listings.Notes settled ms
    >>= λ noted. with_naming namings.Lets noted ms >>= λ letting. with_naming namings.Facts letting ms) sketched.2 in
    let noted = step-inv (with_listing listings.Notes settled.0 ms)
    (λ noted. with_naming namings.Lets noted ms >>= λ letting. with_naming namings.Facts letting ms) settled.2 in
    let letting = step-inv (with_naming namings.Lets noted.0 ms) (λ letting. with_naming namings.Facts letting ms) noted.2 in
    let bare : HasGiven 0 nothing = record {
      early = record {
        given = refl;
        variables = refl;
        notes = refl;
        lets = refl;
        facts = refl;
        chains = refl;
        trace = refl;
        unbegun = refl;
        unpromised = refl;
      };
      count = refl;
      sketches = refl;
    } in
    let one = naming-keeps HasGiven namings.Given given-step nothing ms given.0 bare given.1 in
    let unsketched : HasSketches 0 given.0 = record {
      early = one.holds.early;
      few_given = omega (arith, one.holds.count, one.few);
      held = subst AllHeld (sym one.holds.sketches) held-none;
      count = ap length one.holds.sketches;
    } in
    let two = naming-keeps HasSketches namings.State sketch-step given.0 ms sketched.0 unsketched sketched.1 in
    let three = variables-step two.count sketched.0 settled.0 two.holds two.enough two.few settled.1 in
    let four = listing-keeps (λ n. HasParts n 0 0) listings.Notes
    (λ n number a x b q is. note-step n 0 0 a x b q (located-inv (paths.Item listings.Notes number) (with_note a x) b is)) settled.0 ms noted.0 three noted.1 in
    let five = naming-keeps (λ n. HasParts four.count n 0) namings.Lets (λ n. let-step four.count n 0) noted.0 ms letting.0 four.holds letting.1 in
    let six = naming-keeps (λ n. HasParts four.count five.count n) namings.Facts (fact-step four.count five.count) letting.0 ms d five.holds letting.2 in
    no-rules four.count five.count six.count d four.few five.few six.few six.holds

-- a draft whose parts all fit is well formed, and its outcomes are about its facts
whole : (name : List ℕ) (d : Draft) → IsTraced d → is_whole (declared_by name d) ≡ true
whole name d t =
    let p = t.holds in
    let e = d.definition in
    let shown = list_all (is_shown e) e.trace in
    let chains = list_all (is_chain e) e.chains && shown in
    let facts = list_all (is_fact e) e.facts && chains in
    let lets = list_all (is_let e) e.lets && facts in
    let given = list_all (is_constant e) e.given && lets in
    let notes = list_all (is_form e) e.notes && given in
    let parts : (are_variables e 0 e.variables && notes) ≡ true =
    and_from (are_variables e 0 e.variables) notes p.sound.variables
    (and_from (list_all (is_form e) e.notes) given p.sound.notes
    (and_from (list_all (is_constant e) e.given) lets p.sound.given
    (and_from (list_all (is_let e) e.lets) facts p.sound.lets
    (and_from (list_all (is_fact e) e.facts) chains p.sound.facts
    (and_from (list_all (is_chain e) e.chains) shown p.sound.chains p.sound.trace))))) in
    let traces = is_from 1 32 (length e.trace) in
    let ruling = nat_le (rules_in e.chains) 128 && traces in
    let guards = nat_le (length e.facts) 32 && ruling in
    let naming = nat_le (length e.lets) 16 && guards in
    let giving = nat_le (length e.given) 16 && naming in
    let noting = nat_le (length e.notes) 16 && giving in
    let trace_from = and_from (nat_le 1 (length e.trace)) (nat_le (length e.trace) 32) (le-leb 1 (length e.trace) (omega (arith, p.count, t.some)))
    (le-leb (length e.trace) 32 (omega (arith, p.count, t.few))) in
    let variables_from = and_from (nat_le 1 (length e.variables)) (nat_le (length e.variables) 32)
    (le-leb 1 (length e.variables) p.measured.some_variables) (le-leb (length e.variables) 32 p.measured.few_variables) in
    let celling = nat_le (cells_in e) 64 && noting in
    let limits : is_in_limits e ≡ true =
    and_from (is_from 1 32 (length e.variables)) celling variables_from
    (and_from (nat_le (cells_in e) 64) noting (le-leb (cells_in e) 64 p.measured.few_cells)
    (and_from (nat_le (length e.notes) 16) giving (le-leb (length e.notes) 16 p.notes)
    (and_from (nat_le (length e.given) 16) naming (le-leb (length e.given) 16 p.measured.few_given)
    (and_from (nat_le (length e.lets) 16) guards (le-leb (length e.lets) 16 p.lets)
    (and_from (nat_le (length e.facts) 32) ruling (le-leb (length e.facts) 32 p.facts)
    (and_from (nat_le (rules_in e.chains) 128) traces (le-leb (rules_in e.chains) 128 p.rules) trace_from)))))) in
    and_from (is_well_formed e) (are_named e d.outcomes) (and_from (is_in_limits e) (are_variables e 0 e.variables && notes) limits parts) p.named

-- what a file says is whole: each of its readings, in order
pub read-whole : (ms : Members) (name : List ℕ) (one two three four : Draft) → declared_in ms ≡ Ok one → with_listing listings.Rules one ms ≡ Ok two
    → with_naming namings.Outcomes (with_last_chain two) ms ≡ Ok three → with_trace three ms ≡ Ok four → is_whole (declared_by name four) ≡ true
read-whole ms name one two three four first second third fourth =
    let rules = listing-keeps HasRules listings.Rules rule-step one ms two (declared ms one first) second in
    let last = unpromising (with_last_chain two) (ruled rules.count two rules.few rules.holds) in
    let promised = naming-keeps (λ n. IsPromising) namings.Outcomes outcome-step (with_last_chain two) ms three last third in
    whole name four (traced three four ms promised.holds fourth)

pub file-whole : (ms : Members) (file : Declared) → file_in ms ≡ Ok file → is_whole file ≡ true
unfolding file_in
file-whole ms file h =
    let known = step-inv (known_sections ms)
    (λ known. name_in ms >>= λ name. declared_in ms >>= λ declared. with_listing listings.Rules declared ms
    >>= λ ruled. with_naming namings.Outcomes (with_last_chain ruled) ms >>= λ promised. with_trace promised ms
    >>= λ traced. Ok (declared_by name traced)) h in
    let name = step-inv (name_in ms)
    (λ name. declared_in ms >>= λ declared. with_listing listings.Rules declared ms
    >>= λ ruled. with_naming namings.Outcomes (with_last_chain ruled) ms >>= λ promised. with_trace promised ms
    >>= λ traced. Ok (declared_by name traced)) known.2 in
    let one = step-inv (declared_in ms)
    (λ declared. with_listing listings.Rules declared ms
    >>= λ ruled. with_naming namings.Outcomes (with_last_chain ruled) ms >>= λ promised. with_trace promised ms
    >>= λ traced. Ok (declared_by name.0 traced)) name.2 in
    let two = step-inv (with_listing listings.Rules one.0 ms)
    (λ ruled. with_naming namings.Outcomes (with_last_chain ruled) ms >>= λ promised. with_trace promised ms
    >>= λ traced. Ok (declared_by name.0 traced)) one.2 in
    let three = step-inv (with_naming namings.Outcomes (with_last_chain two.0) ms)
    (λ promised. with_trace promised ms >>= λ traced. Ok (declared_by name.0 traced)) two.2 in
    let four = step-inv (with_trace three.0 ms) (λ traced. Ok (declared_by name.0 traced)) three.2 in
    let made : declared_by name.0 four.0 ≡ file = cc in
    ap is_whole (sym made) ∙ read-whole ms name.0 one.0 two.0 three.0 four.0 one.1 two.1 three.1 four.1
