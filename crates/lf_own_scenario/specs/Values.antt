-- Values of constants that a scenario gives.
use Rattle.std.specs.Prelude.{◌≡◌, ◌≢◌, ℕ, suc, ℤ, pos, negsuc, Bool, true, false, ◌&&◌, ◌==◌, nat_le}
use Rattle.std.specs.Prelude.{if◌then◌else◌, List, [], ◌∷◌, ◌++◌, Result, Ok, Err, MatchResult}
use Rattle.toml.specs.Data.{Data, string, integer, boolean, array, Items, no_items, item}
use Rattle.lf_rules.specs.Sorts.{same_sort}
use Rattle.lf_rules.specs.declared.definition.Given.{Given}
use Rattle.lf_rules.specs.declared.definition.Given.TheVariants as givens
use Rattle.lf_rules.specs.declared.definition.Value.{Value}
use Rattle.lf_rules.specs.declared.definition.Value.TheVariants as values
use Rattle.lf_rules.specs.declared.sort.Scope.{Scope}
use Rattle.lf_rules.specs.declared.sort.Scope.TheVariants as scopes
use Rattle.lf_rules.specs.declared.sort.Within.TheVariants as withins
use Rattle.lf_rules.specs.declared.sort.Sort.{Sort}
use Rattle.lf_rules.specs.declared.sort.Sort.TheVariants as sorts
use Rattle.lf_grammar.specs.Places.{Context}
use Rattle.lf_texts.specs.declared.error.TextError.{TextError}
use Rattle.lf_texts.specs.declared.error.TextError.TheVariants as faults
use Rattle.lf_texts.specs.Fronts.{text_in}
use Rattle.lf_texts.specs.Values.{nodes_in}
use Rattle.lf_protocol_file.specs.declared.declared.Declared.{Declared}
use Rattle.lf_scenario.specs.declared.key.Key.TheVariants as keys
use Rattle.lf_scenario.specs.declared.error.ScenarioError.{ScenarioError}
use Rattle.lf_scenario.specs.declared.error.ScenarioError.TheVariants as refusals
use Rattle.lf_scenario.specs.Values.{Reading, ◌>>=◌}

-- a call gives what is defined, or memory has run out
abbrev pub Gives : {A B : Type 0} → (A → B) → Reading B → Result A ScenarioError → Type 0
Gives seen defined result = MatchResult result (λ x. defined ≡ Ok (seen x)) (λ e. e ≢ refusals.Memory → defined ≡ Err e)

-- the refusals of constants: for their kind, and for what is past a limit
abbrev pub wrong_kind : ScenarioError
wrong_kind = refusals.WrongKind keys.Given

abbrev pub past_limit : ScenarioError
past_limit = refusals.OutOfRange keys.Given

-- a text that can't be read is no value, and one past a limit is past it
abbrev pub refusal : TextError → ScenarioError
refusal faults.Unfit = wrong_kind
refusal faults.PastLimit = past_limit
refusal faults.Memory = refusals.Memory

abbrev pub as_constant : {A : Type 0} → Result A TextError → Reading A
as_constant (Ok x) = Ok x
as_constant (Err e) = Err (refusal e)

-- what may be named in a text of a file
abbrev pub place_of : Declared → Scope → Context
place_of file scope = record { definition = file.definition; fields = []; names = file.names; scope = scope; within = withins.Nothing }

-- a number up to 255
abbrev pub number_in : ℤ → Reading Value
number_in (pos n) = if nat_le n 255 then Ok (values.Number n) else Err past_limit
number_in (negsuc n) = Err past_limit

-- a value is of a sort; a text stands for a set of nodes
abbrev pub is_of_sort : Sort → Data → Bool
is_of_sort sort (integer z) = same_sort sorts.Number sort
is_of_sort sort (boolean b) = same_sort sorts.Truth sort
is_of_sort sort (string text) = same_sort sorts.Nodes sort
is_of_sort sort other = false

abbrev pub all_of_sort : Sort → Items → Bool
all_of_sort sort no_items = true
all_of_sort sort (item x xs) = is_of_sort sort x && all_of_sort sort xs

abbrev pub count_items : Items → ℕ
count_items no_items = 0
count_items (item x xs) = suc (count_items xs)

module _ (file : Declared) where
  -- a text that is a set of nodes
  unfoldable pub set_in : List ℕ → Reading Value
  set_in text = do
    ts ← as_constant (text_in text)
    e ← as_constant (nodes_in (place_of file scopes.Given) ts)
    Ok (values.Nodes e)

  abbrev pub value_in : Data → Reading Value
  value_in (integer z) = number_in z
  value_in (boolean b) = Ok (values.Truth b)
  value_in (string text) = set_in text
  value_in other = Err wrong_kind

  -- the values of items, behind those before
  abbrev pub values_behind : List Value → Items → Reading (List Value)
  values_behind before no_items = Ok before
  values_behind before (item x xs) = value_in x >>= (λ v. values_behind (before ++ v ∷ []) xs)

  -- a list of values of a sort, as many as there are nodes
  abbrev pub listed : ℕ → Sort → Items → Reading Given
  listed nodes sort xs =
      if all_of_sort sort xs
      then (if count_items xs == nodes then values_behind [] xs >>= (λ vs. Ok (givens.Each vs)) else Err past_limit)
      else Err wrong_kind

  -- what a scenario gives anew for a constant of a sort
  abbrev pub given_anew : ℕ → Sort → Data → Reading Given
  given_anew nodes sort (array xs) = listed nodes sort xs
  given_anew nodes sort x = if is_of_sort sort x then value_in x >>= (λ v. Ok (givens.One v)) else Err wrong_kind
