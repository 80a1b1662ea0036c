-- What the constants of a protocol are in a scenario.
use Rattle.std.specs.Prelude.{ℕ, Bool, true, ◌&&◌, if◌then◌else◌, List, [], ◌∷◌, ◌++◌, Option, None, Some, Ok, Err}
use Rattle.std.specs.List.{list_any}
use Rattle.std.specs.Str.{bytes_eq}
use Rattle.std.specs.Borrow.{Bor}
use Rattle.toml.specs.Data.{Data, table, Members, no_members, member, get_member}
use Rattle.toml.specs.View.{view}
use Rattle.toml.specs.declared.value.Value.{Value}
use Rattle.lf_rules.specs.declared.definition.Constant.{Constant}
use Rattle.lf_rules.specs.declared.definition.Given.{Given}
use Rattle.lf_rule_machine.specs.Constants.{is_for}
use Rattle.lf_protocol_file.specs.declared.declared.Declared.{Declared}
use Rattle.lf_scenario.specs.declared.key.Key.TheVariants as keys
use Rattle.lf_scenario.specs.declared.error.ScenarioError.TheVariants as refusals
use Rattle.lf_scenario.specs.Keys.{key_name}
use Rattle.lf_scenario.specs.Values.{Reading, ◌>>=◌}
use Rattle.lf_own_scenario.specs.Values.{wrong_kind, past_limit, given_anew}
use Rattle.lf_own_scenario.specs.Zeros.{definition_divides}

-- what a value at a key is, if there is one
abbrev pub seen : Option (Bor Value) → Option Data
seen None = None
seen (Some v) = Some (view v.now)

-- a name is that of a constant
abbrev pub is_declared : List Constant → List ℕ → Bool
is_declared constants name = list_any (λ x. bytes_eq name x.name) constants

abbrev pub all_declared : List Constant → Members → Bool
all_declared constants no_members = true
all_declared constants (member name d ms) = is_declared constants name && all_declared constants ms

-- what the file says of a constant, where a list has an item for each node
abbrev pub left : ℕ → Given → Reading Given
left nodes given = if is_for nodes given then Ok given else Err past_limit

-- what a constant is: what is given anew, and else what the file says
abbrev pub constant_at : Declared → ℕ → Constant → Option Data → Reading Given
constant_at file nodes x None = left nodes x.value
constant_at file nodes x (Some d) = given_anew file nodes x.sort d

-- what is given anew for a name, by the value at the key `given`
abbrev pub anew : Option Data → List ℕ → Option Data
anew (Some (table ms)) name = get_member name ms
anew other name = None

-- what some constants are, behind those before, and what all are
abbrev pub constants_behind : Declared → ℕ → Option Data → List Given → List Constant → Reading (List Given)
constants_behind file nodes given before [] = Ok before
constants_behind file nodes given before (x ∷ xs) =
    constant_at file nodes x (anew given x.name) >>= (λ v. constants_behind file nodes given (before ++ v ∷ []) xs)

abbrev pub constants_in : Declared → ℕ → Option Data → Reading (List Given)
constants_in file nodes given = constants_behind file nodes given [] file.definition.given

-- by the value at the key `given`: a table, each name of which is a constant's
abbrev pub found_in : Declared → ℕ → Option Data → Reading (List Given)
found_in file nodes None = constants_in file nodes None
found_in file nodes (Some (table ms)) =
    if all_declared file.definition.given ms then constants_in file nodes (Some (table ms)) else Err (refusals.OtherProtocol keys.Given)
found_in file nodes (Some other) = Err wrong_kind

-- the protocol divides by none that is 0
abbrev pub divided : Declared → List Given → Reading (List Given)
divided file vs = if definition_divides vs file.definition then Err past_limit else Ok vs

unfoldable pub given_in : Declared → ℕ → Members → Reading (List Given)
given_in file nodes ms = found_in file nodes (get_member (key_name keys.Given) ms) >>= divided file
