-- What a file gives for a constant is a value of its kind.
use Rattle.std.proofs.Common.{◌≡◌, ℕ, ◌+◌, true, cond, List, [], ◌∷◌, ◌++◌, length}
use Rattle.std.proofs.Common.{Ok, Err, refl, sym, ap, ◌∙◌, arith}
use Rattle.std.specs.Prelude.{ℤ, pos, negsuc, nat_le, nat_lt}
use Rattle.std.specs.List.{list_all}
use Rattle.std.proofs.lemmas.Bool.{and_from, and_parts, le-leb, ltb-true, eqb-true, eq-eqb}
use Rattle.toml.specs.Data.{Data, string, integer, float, boolean, datetime, array, table, Items, no_items, item}
use Rattle.lf_rules.specs.Forms.{is_from, is_value, is_given}
use Rattle.lf_rules.specs.Sorts.{same_sort, is_a}
use Rattle.lf_rules.specs.declared.sort.Scope.TheVariants as scopes
use Rattle.lf_rules.specs.declared.sort.Sort.{Sort}
use Rattle.lf_rules.specs.declared.sort.Sort.TheVariants as sorts
use Rattle.lf_rules.specs.declared.sort.Within.TheVariants as withins
use Rattle.lf_rules.specs.declared.definition.Given.{Given}
use Rattle.lf_rules.specs.declared.definition.Given.TheVariants as givens
use Rattle.lf_rules.specs.declared.definition.Value.{Value}
use Rattle.lf_rules.specs.declared.definition.Value.TheVariants as values
use Rattle.lf_texts.specs.Values.{nodes_in, value_in}
use Rattle.lf_texts.proofs.Laws.{nodes-sorted}
use Rattle.lf_protocol_file.specs.declared.fault.Fault.TheVariants as faults
use Rattle.lf_protocol_file.specs.Readings.{◌>>=◌, as_value}
use Rattle.lf_protocol_file.specs.Texts.{tokens_in, count_items}
use Rattle.lf_protocol_file.specs.declared.draft.Draft.{Draft}
use Rattle.lf_protocol_file.specs.Constants as constants
use Rattle.lf_protocol_file.specs.Constants.{value_sort, found_of_sort, is_of_sort, are_all, listed_sort, given_sort}
use Rattle.lf_protocol_file.specs.Constants.{number_in, nodes_value, values_behind, given_in}
use Rattle.lf_protocol_file.specs.Drafts.{place_in}
use Rattle.lf_protocol_file.proofs.Growing.{all-push}
use Rattle.lf_protocol_file.proofs.Readings.{step-inv, as_value-inv, through}
use Rattle.lf_protocol_file.proofs.Sounding.{one-longer}

same-self : (sort : Sort) → same_sort sort sort ≡ true
same-self sorts.Number = refl
same-self sorts.Truth = refl
same-self sorts.Nodes = refl
same-self (sorts.Word of) = eq-eqb of of refl

turned : (a b : Sort) → same_sort a b ≡ true → same_sort b a ≡ true
turned sorts.Number sorts.Number h = refl
turned sorts.Truth sorts.Truth h = refl
turned sorts.Nodes sorts.Nodes h = refl
turned (sorts.Word a) (sorts.Word b) h = eq-eqb b a (sym (eqb-true a b h))
turned one other h = absurd cc

module _ (d : Draft) where
  number-fits : (sort : Sort) (z : ℤ) (v : Value) → same_sort sorts.Number sort ≡ true → number_in z ≡ Ok v → is_value d.definition sort v ≡ true
  number-fits sort (pos n) v is h =
      let made = through faults.PastLimit (nat_le n 255) (Ok (values.Number n)) v h in
      let same : values.Number n ≡ v = cc in
      ap (is_value d.definition sort) (sym same) ∙ turned sorts.Number sort is
  number-fits sort (negsuc n) v is h = absurd cc

  set-fits : (sort : Sort) (text : List ℕ) (v : Value) → same_sort sorts.Nodes sort ≡ true → nodes_value d (string text) ≡ Ok v
      → is_value d.definition sort v ≡ true
  unfolding nodes_value
  set-fits sort text v is h =
      let at = place_in d [] scopes.Given in
      let ts = step-inv (tokens_in (string text)) (λ ts. as_value (nodes_in at ts) >>= λ e. Ok (values.Nodes e)) h in
      let e = step-inv (as_value (nodes_in at ts.0)) (λ e. Ok (values.Nodes e)) ts.2 in
      let same : values.Nodes e.0 ≡ v = cc in
      ap (is_value d.definition sort) (sym same)
      ∙ and_from (same_sort sort sorts.Nodes) (is_a d.definition scopes.Given withins.Nothing sorts.Nodes e.0) (turned sorts.Nodes sort is)
      (nodes-sorted at ts.0 e.0 (as_value-inv (nodes_in at ts.0) e.0 e.1))

  value-fits : (sort : Sort) (x : Data) (v : Value) → is_of_sort sort x ≡ true → constants.value_in d x ≡ Ok v → is_value d.definition sort v ≡ true
  value-fits sort (integer z) v is h = number-fits sort z v is h
  value-fits sort (boolean b) v is h =
      let same : values.Truth b ≡ v = cc in
      ap (is_value d.definition sort) (sym same) ∙ turned sorts.Truth sort is
  value-fits sort (string text) v is h = set-fits sort text v is h
  value-fits sort (float x) v is h = absurd cc
  value-fits sort (datetime x) v is h = absurd cc
  value-fits sort (array xs) v is h = absurd cc
  value-fits sort (table ms) v is h = absurd cc

  record AreFitting (sort : Sort) (many : ℕ) (vs : List Value) : Type 0 where
    pub values : list_all (is_value d.definition sort) vs ≡ true
    pub count : length vs ≡ many

  values-fit : (sort : Sort) (before : List Value) (xs : Items) (vs : List Value) → list_all (is_value d.definition sort) before ≡ true
      → are_all sort xs ≡ true → values_behind d before xs ≡ Ok vs → AreFitting sort (length before + count_items xs) vs
  values-fit sort before no_items vs fits are h =
      let same : before ≡ vs = cc in
      record { values = ap (list_all (is_value d.definition sort)) (sym same) ∙ fits; count = omega (arith, ap length same) }
  values-fit sort before (item x xs) vs fits are h =
      let each = and_parts (is_of_sort sort x) (are_all sort xs) are in
      let v = step-inv (constants.value_in d x) (λ v. values_behind d (before ++ v ∷ []) xs) h in
      let more = all-push (is_value d.definition sort) before v.0 fits (value-fits sort x v.0 each.0 v.1) in
      let rest = values-fit sort (before ++ v.0 ∷ []) xs vs more each.1 v.2 in
      record { values = rest.values; count = omega (arith, rest.count, one-longer before v.0) }

  of-own-sort : (x : Data) (sort : Sort) → value_sort x ≡ Ok sort → is_of_sort sort x ≡ true
  of-own-sort x sort h = ap (found_of_sort sort) h ∙ same-self sort

  one-fits : (sort : Sort) (x : Data) (g : Given) → value_sort x ≡ Ok sort → (constants.value_in d x >>= λ v. Ok (givens.One v)) ≡ Ok g
      → is_given d.definition sort g ≡ true
  one-fits sort x g is h =
      let v = step-inv (constants.value_in d x) (λ v. Ok (givens.One v)) h in
      let same : givens.One v.0 ≡ g = cc in
      ap (is_given d.definition sort) (sym same) ∙ value-fits sort x v.0 (of-own-sort x sort is) v.1

  listed-fits : (sort : Sort) (xs : Items) (g : Given) → listed_sort xs ≡ Ok sort → (values_behind d [] xs >>= λ vs. Ok (givens.Each vs)) ≡ Ok g
      → is_given d.definition sort g ≡ true
  unfolding listed_sort
  listed-fits sort no_items g is h = absurd cc
  listed-fits sort (item x xs) g is h =
      let first = step-inv (value_sort x)
      (λ sort. cond (are_all sort xs) (cond (nat_lt (count_items xs) 8) (Ok sort) (Err faults.PastLimit)) (Err faults.WrongKind)) is in
      let all = through faults.WrongKind (are_all first.0 xs) (cond (nat_lt (count_items xs) 8) (Ok first.0) (Err faults.PastLimit)) sort first.2 in
      let few = through faults.PastLimit (nat_lt (count_items xs) 8) (Ok first.0) sort all.1 in
      let own : first.0 ≡ sort = cc in
      let head = of-own-sort x sort (first.1 ∙ ap Ok own) in
      let rest = ap (λ (s : Sort). are_all s xs) (sym own) ∙ all.0 in
      let vs = step-inv (values_behind d [] (item x xs)) (λ vs. Ok (givens.Each vs)) h in
      let same : givens.Each vs.0 ≡ g = cc in
      let fit = values-fit sort [] (item x xs) vs.0 refl (and_from (is_of_sort sort x) (are_all sort xs) head rest) vs.1 in
      let low = ltb-true (count_items xs) 8 few.0 in
      let from = and_from (nat_le 1 (length vs.0)) (nat_le (length vs.0) 8) (le-leb 1 (length vs.0) (omega (arith, fit.count)))
      (le-leb (length vs.0) 8 (omega (arith, fit.count, low))) in
      ap (is_given d.definition sort) (sym same) ∙ and_from (is_from 1 8 (length vs.0)) (list_all (is_value d.definition sort) vs.0) from fit.values

  pub given-fits : (x : Data) (sort : Sort) (g : Given) → given_sort x ≡ Ok sort → given_in d x ≡ Ok g → is_given d.definition sort g ≡ true
  unfolding given_in
  given-fits (array xs) sort g is h = listed-fits sort xs g is h
  given-fits (string text) sort g is h = one-fits sort (string text) g is h
  given-fits (integer z) sort g is h = one-fits sort (integer z) g is h
  given-fits (float x) sort g is h = one-fits sort (float x) g is h
  given-fits (boolean b) sort g is h = one-fits sort (boolean b) g is h
  given-fits (datetime x) sort g is h = one-fits sort (datetime x) g is h
  given-fits (table ms) sort g is h = one-fits sort (table ms) g is h
