-- What is read of the constants of a file fits them.
use Rattle.std.proofs.Common.{◌≡◌, ℕ, ◌+◌, ◌≤◌, ◌==◌, ◌&&◌, Bool, true, false, cond, List, [], ◌∷◌, ◌++◌, append-nil, append_assoc, length, length-append}
use Rattle.std.proofs.Common.{Option, Some, None, Result, Ok, Err, refl, sym, ap, ◌∙◌, arith}
use Rattle.std.specs.Prelude.{pos, negsuc, nat_le}
use Rattle.std.specs.List.{list_all}
use Rattle.std.proofs.lemmas.Bool.{and_from, and_parts, le-leb, eqb-true, eq-eqb}
use Rattle.std.proofs.lemmas.List.Folds.{list_all-append}
use Rattle.toml.specs.Data.{Data, string, integer, float, boolean, datetime, array, table, Items, no_items, item, Members, get_member}
use Rattle.lf_rules.specs.Forms.{is_from, is_value, is_given, is_constant, is_in_limits, are_variables}
use Rattle.lf_rules.specs.Forms.{is_form, is_let, is_fact, is_chain, is_shown, is_well_formed}
use Rattle.lf_rules.specs.Sorts.{same_sort}
use Rattle.lf_rules.specs.declared.definition.Constant.{Constant}
use Rattle.lf_rules.specs.declared.definition.Definition.{Definition}
use Rattle.lf_rules.specs.declared.definition.Given.{Given}
use Rattle.lf_rules.specs.declared.definition.Given.TheVariants as givens
use Rattle.lf_rules.specs.declared.definition.Value.{Value}
use Rattle.lf_rules.specs.declared.definition.Value.TheVariants as values
use Rattle.lf_rules.specs.declared.sort.Scope.TheVariants as scopes
use Rattle.lf_rules.specs.declared.sort.Sort.{Sort}
use Rattle.lf_rules.specs.declared.sort.Sort.TheVariants as sorts
use Rattle.lf_rule_machine.specs.Constants.{is_for, are_given}
use Rattle.lf_rule_machine.specs.Machines.{is_machine}
use Rattle.lf_texts.specs.declared.error.TextError.{TextError}
use Rattle.lf_texts.specs.Fronts.{text_in}
use Rattle.lf_texts.specs.Values.{nodes_in}
use Rattle.lf_protocol_file.specs.declared.declared.Declared.{Declared}
use Rattle.lf_scenario.specs.declared.error.ScenarioError.{ScenarioError}
use Rattle.lf_scenario.specs.declared.error.ScenarioError.TheVariants as refusals
use Rattle.lf_scenario.specs.declared.key.Key.TheVariants as keys
use Rattle.lf_scenario.specs.Keys.{key_name}
use Rattle.lf_scenario.specs.Values.{Reading, ◌>>=◌}
use Rattle.lf_own_scenario.specs.Constants.{all_declared, left, constant_at, anew, constants_behind, constants_in, found_in, divided, given_in}
use Rattle.lf_own_scenario.specs.Values.{wrong_kind, past_limit, as_constant, place_of, number_in, is_of_sort, all_of_sort, count_items, set_in, value_in}
use Rattle.lf_own_scenario.specs.Values.{values_behind, listed, given_anew}
use Rattle.lf_own_scenario.specs.Zeros.{definition_divides}
use Rattle.lf_texts.proofs.Laws.{nodes-sorted}

-- what stands before a step
step-inv : {A B : Type 0} {y : B} (r : Reading A) (next : A → Reading B) → (r >>= next) ≡ Ok y → (x : A) × (r ≡ Ok x) × (next x ≡ Ok y)
step-inv (Err e) next h = absurd cc
step-inv (Ok x) next h = (x, refl, h)

-- what is let through
through : {A : Type 0} (e : ScenarioError) (so : Bool) (r : Reading A) (y : A) → cond so r (Err e) ≡ Ok y → (so ≡ true) × (r ≡ Ok y)
through e true r y h = (refl, h)
through e false r y h = absurd cc

constant-inv : {A : Type 0} (r : Result A TextError) (x : A) → as_constant r ≡ Ok x → r ≡ Ok x
constant-inv (Ok y) x h = let same : y ≡ x = cc in ap Ok same
constant-inv (Err e) x h = absurd cc

turned : (a b : Sort) → same_sort a b ≡ true → same_sort b a ≡ true
turned sorts.Number sorts.Number h = refl
turned sorts.Truth sorts.Truth h = refl
turned sorts.Nodes sorts.Nodes h = refl
turned (sorts.Word a) (sorts.Word b) h = eq-eqb b a (sym (eqb-true a b h))
turned one other h = absurd cc

-- what a constant is is of its sort, and has an item for each node
record IsFitting (d : Definition) (nodes : ℕ) (sort : Sort) (g : Given) : Type 0 where
  pub given : is_given d sort g ≡ true
  pub for : is_for nodes g ≡ true

module _ (file : Declared) where
  abbrev d : Definition
  d = file.definition

  set-fits : (sort : Sort) (text : List ℕ) (v : Value) → same_sort sorts.Nodes sort ≡ true → set_in file text ≡ Ok v → is_value d sort v ≡ true
  unfolding set_in
  set-fits sort text v is h =
      let at = place_of file scopes.Given in
      let ts = step-inv (as_constant (text_in text)) (λ ts. as_constant (nodes_in at ts) >>= λ e. Ok (values.Nodes e)) h in
      let e = step-inv (as_constant (nodes_in at ts.0)) (λ e. Ok (values.Nodes e)) ts.2 in
      let same : values.Nodes e.0 ≡ v = cc in
      ap (is_value d sort) (sym same)
      ∙ and_from (same_sort sort sorts.Nodes) (is_value d sorts.Nodes (values.Nodes e.0)) (turned sorts.Nodes sort is)
      (nodes-sorted at ts.0 e.0 (constant-inv (nodes_in at ts.0) e.0 e.1))

  number-fits : (sort : Sort) (n : ℕ) (v : Value) → same_sort sorts.Number sort ≡ true → number_in (pos n) ≡ Ok v → is_value d sort v ≡ true
  number-fits sort n v is h =
      let made = through past_limit (nat_le n 255) (Ok (values.Number n)) v h in
      let same : values.Number n ≡ v = cc in
      ap (is_value d sort) (sym same) ∙ turned sorts.Number sort is

  value-fits : (sort : Sort) (x : Data) (v : Value) → is_of_sort sort x ≡ true → value_in file x ≡ Ok v → is_value d sort v ≡ true
  value-fits sort (integer (pos n)) v is h = number-fits sort n v is h
  value-fits sort (integer (negsuc n)) v is h = absurd cc
  value-fits sort (boolean b) v is h =
      let same : values.Truth b ≡ v = cc in
      ap (is_value d sort) (sym same) ∙ turned sorts.Truth sort is
  value-fits sort (string text) v is h = set-fits sort text v is h
  value-fits sort (float x) v is h = absurd cc
  value-fits sort (datetime x) v is h = absurd cc
  value-fits sort (array xs) v is h = absurd cc
  value-fits sort (table ms) v is h = absurd cc

  -- values of a sort, as many as there are items
  record AreFitting (sort : Sort) (many : ℕ) (vs : List Value) : Type 0 where
    pub values : list_all (is_value d sort) vs ≡ true
    pub count : length vs ≡ many

  values-fit : (sort : Sort) (before : List Value) (xs : Items) (vs : List Value) → list_all (is_value d sort) before ≡ true
      → all_of_sort sort xs ≡ true → values_behind file before xs ≡ Ok vs → AreFitting sort (length before + count_items xs) vs
  values-fit sort before no_items vs fits are h =
      let same : before ≡ vs = cc in
      record { values = ap (list_all (is_value d sort)) (sym same) ∙ fits; count = omega (arith, ap length same) }
  values-fit sort before (item x xs) vs fits are h =
      let each = and_parts (is_of_sort sort x) (all_of_sort sort xs) are in
      let v = step-inv (value_in file x) (λ v. values_behind file (before ++ v ∷ []) xs) h in
      let one = and_from (is_value d sort v.0) true (value-fits sort x v.0 each.0 v.1) refl in
      let more =
      list_all-append (is_value d sort) before (v.0 ∷ [])
      ∙ and_from (list_all (is_value d sort) before) (list_all (is_value d sort) (v.0 ∷ [])) fits one in
      let rest = values-fit sort (before ++ v.0 ∷ []) xs vs more each.1 v.2 in
      record { values = rest.values; count = omega (arith, rest.count, length-append before (v.0 ∷ [])) }

  module _ (nodes : ℕ) (some : 1 ≤ nodes) (few : nodes ≤ 8) where
    listed-fits : (sort : Sort) (xs : Items) (g : Given) → listed file nodes sort xs ≡ Ok g → IsFitting d nodes sort g
    listed-fits sort xs g h =
        let are = through wrong_kind (all_of_sort sort xs)
        (cond (count_items xs == nodes) (values_behind file [] xs >>= (λ vs. Ok (givens.Each vs))) (Err past_limit)) g h in
        let count = through past_limit (count_items xs == nodes) (values_behind file [] xs >>= (λ vs. Ok (givens.Each vs))) g are.1 in
        let vs = step-inv (values_behind file [] xs) (λ vs. Ok (givens.Each vs)) count.1 in
        let same : givens.Each vs.0 ≡ g = cc in
        let fit = values-fit sort [] xs vs.0 refl are.0 vs.1 in
        let many : length vs.0 ≡ nodes = omega (arith, fit.count, eqb-true (count_items xs) nodes count.0) in
        let from = and_from (nat_le 1 (length vs.0)) (nat_le (length vs.0) 8) (le-leb 1 (length vs.0) (omega (arith, many, some)))
        (le-leb (length vs.0) 8 (omega (arith, many, few))) in
        record {
          given = ap (is_given d sort) (sym same) ∙ and_from (is_from 1 8 (length vs.0)) (list_all (is_value d sort) vs.0) from fit.values;
          for = ap (is_for nodes) (sym same) ∙ eq-eqb (length vs.0) nodes many;
        }

    one-fits : (sort : Sort) (x : Data) (g : Given) → cond (is_of_sort sort x) (value_in file x >>= (λ v. Ok (givens.One v))) (Err wrong_kind) ≡ Ok g
        → IsFitting d nodes sort g
    one-fits sort x g h =
        let is = through wrong_kind (is_of_sort sort x) (value_in file x >>= (λ v. Ok (givens.One v))) g h in
        let v = step-inv (value_in file x) (λ v. Ok (givens.One v)) is.1 in
        let same : givens.One v.0 ≡ g = cc in
        record { given = ap (is_given d sort) (sym same) ∙ value-fits sort x v.0 is.0 v.1; for = ap (is_for nodes) (sym same) }

    anew-fits : (sort : Sort) (x : Data) (g : Given) → given_anew file nodes sort x ≡ Ok g → IsFitting d nodes sort g
    anew-fits sort (array xs) g h = listed-fits sort xs g h
    anew-fits sort (string text) g h = one-fits sort (string text) g h
    anew-fits sort (integer z) g h = one-fits sort (integer z) g h
    anew-fits sort (float x) g h = one-fits sort (float x) g h
    anew-fits sort (boolean b) g h = one-fits sort (boolean b) g h
    anew-fits sort (datetime x) g h = one-fits sort (datetime x) g h
    anew-fits sort (table ms) g h = one-fits sort (table ms) g h

    left-fits : (sort : Sort) (given g : Given) → is_given d sort given ≡ true → left nodes given ≡ Ok g → IsFitting d nodes sort g
    left-fits sort given g is h =
        let found = through past_limit (is_for nodes given) (Ok given) g h in
        let same : given ≡ g = cc in
        record { given = ap (is_given d sort) (sym same) ∙ is; for = ap (is_for nodes) (sym same) ∙ found.0 }

    constant-fits : (x : Constant) (o : Option Data) (g : Given) → is_constant d x ≡ true → constant_at file nodes x o ≡ Ok g
        → IsFitting d nodes x.sort g
    constant-fits x None g is h = left-fits x.sort x.value g is h
    constant-fits x (Some v) g is h = anew-fits x.sort v g h

    -- what some constants are, behind those before
    record AreBehind (before : List Given) (xs : List Constant) (vs : List Given) : Type 0 where
      pub own : List Given
      pub same : vs ≡ before ++ own
      pub given : are_given d nodes xs own ≡ true

    constants-fit : (o : Option Data) (before : List Given) (xs : List Constant) (vs : List Given) → list_all (is_constant d) xs ≡ true
        → constants_behind file nodes o before xs ≡ Ok vs → AreBehind before xs vs
    constants-fit o before [] vs are h =
        let same : before ≡ vs = cc in
        record { own = []; same = sym same ∙ sym (append-nil before); given = refl }
    constants-fit o before (x ∷ xs) vs are h =
        let each = and_parts (is_constant d x) (list_all (is_constant d) xs) are in
        let v = step-inv (constant_at file nodes x (anew o x.name)) (λ v. constants_behind file nodes o (before ++ v ∷ []) xs) h in
        let fit = constant-fits x (anew o x.name) v.0 each.0 v.1 in
        let rest = constants-fit o (before ++ v.0 ∷ []) xs vs each.1 v.2 in
        record {
          own = v.0 ∷ rest.own;
          same = rest.same ∙ append_assoc before (v.0 ∷ []) rest.own;
          given = and_from (is_given d x.sort v.0) (is_for nodes v.0 && are_given d nodes xs rest.own) fit.given
              (and_from (is_for nodes v.0) (are_given d nodes xs rest.own) fit.for rest.given);
        }

    all-fit : (o : Option Data) (vs : List Given) → list_all (is_constant d) d.given ≡ true → constants_in file nodes o ≡ Ok vs
        → are_given d nodes d.given vs ≡ true
    all-fit o vs are h =
        let found = constants-fit o [] d.given vs are h in
        ap (are_given d nodes d.given) found.same ∙ found.given

    found-fits : (o : Option Data) (vs : List Given) → list_all (is_constant d) d.given ≡ true → found_in file nodes o ≡ Ok vs
        → are_given d nodes d.given vs ≡ true
    found-fits None vs are h = all-fit None vs are h
    found-fits (Some (table ms)) vs are h =
        let known = through (refusals.OtherProtocol keys.Given) (all_declared d.given ms) (constants_in file nodes (Some (table ms))) vs h in
        all-fit (Some (table ms)) vs are known.1
    found-fits (Some (string text)) vs are h = absurd cc
    found-fits (Some (integer z)) vs are h = absurd cc
    found-fits (Some (float x)) vs are h = absurd cc
    found-fits (Some (boolean b)) vs are h = absurd cc
    found-fits (Some (datetime x)) vs are h = absurd cc
    found-fits (Some (array xs)) vs are h = absurd cc

  -- the constants of a protocol that is well formed are
  constants-formed : is_well_formed d ≡ true → list_all (is_constant d) d.given ≡ true
  constants-formed formed =
      let behind_trace = list_all (is_chain d) d.chains && list_all (is_shown d) d.trace in
      let behind_given = list_all (is_let d) d.lets && (list_all (is_fact d) d.facts && behind_trace) in
      let behind_limits = are_variables d 0 d.variables && (list_all (is_form d) d.notes && (list_all (is_constant d) d.given && behind_given)) in
      let one = and_parts (is_in_limits d) behind_limits formed in
      let two = and_parts (are_variables d 0 d.variables) (list_all (is_form d) d.notes && (list_all (is_constant d) d.given && behind_given)) one.1 in
      let three = and_parts (list_all (is_form d) d.notes) (list_all (is_constant d) d.given && behind_given) two.1 in
      (and_parts (list_all (is_constant d) d.given) behind_given three.1).0

  -- among 2 to 8 nodes what is found of them makes it a machine
  pub found-machine : (nodes : ℕ) (o : Option Data) (vs : List Given) → is_well_formed d ≡ true → 2 ≤ nodes → nodes ≤ 8
      → found_in file nodes o ≡ Ok vs → is_machine d nodes vs ≡ true
  found-machine nodes o vs formed low high h =
      and_from (is_from 2 8 nodes) (are_given d nodes d.given vs)
      (and_from (nat_le 2 nodes) (nat_le nodes 8) (le-leb 2 nodes low) (le-leb nodes 8 high))
      (found-fits nodes (omega (arith, low)) high o vs (constants-formed formed) h)

  -- those by which nothing divides that is 0
  undivided : (so : Bool) (found vs : List Given) → cond so (Err past_limit) (Ok found) ≡ Ok vs → found ≡ vs
  undivided true found vs h = absurd cc
  undivided false found vs h = cc

  -- and so does what is read of them
  pub given-machine : (nodes : ℕ) (ms : Members) (vs : List Given) → is_well_formed d ≡ true → 2 ≤ nodes → nodes ≤ 8
      → given_in file nodes ms ≡ Ok vs → is_machine d nodes vs ≡ true
  unfolding given_in
  given-machine nodes ms vs formed low high h =
      let found = step-inv (found_in file nodes (get_member (key_name keys.Given) ms)) (divided file) h in
      let same = undivided (definition_divides found.0 d) found.0 vs found.2 in
      ap (is_machine d nodes) (sym same) ∙ found-machine nodes (get_member (key_name keys.Given) ms) found.0 formed low high found.1
