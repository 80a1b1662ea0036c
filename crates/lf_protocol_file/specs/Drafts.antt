-- A protocol, as far as it is read.
use Rattle.std.specs.Prelude.{ℕ, Bool, not, ◌&&◌, nat_lt, if◌then◌else◌, List, [], ◌∷◌, ◌++◌, None, Ok, Err}
use Rattle.std.specs.List.{list_any}
use Rattle.std.specs.Str.{bytes_eq}
use Rattle.lf_rules.specs.declared.definition.Definition.{Definition}
use Rattle.lf_rules.specs.declared.expr.Leaf.{Leaf}
use Rattle.lf_rules.specs.declared.sort.Scope.{Scope}
use Rattle.lf_rules.specs.declared.sort.Within.TheVariants as withins
use Rattle.lf_grammar.specs.Places.{Context}
use Rattle.lf_grammar.specs.declared.place.Meaning.{Meaning}
use Rattle.lf_texts.specs.Names.{is_name, is_reserved}
use Rattle.lf_protocol_file.specs.declared.draft.Draft.{Draft}
use Rattle.lf_protocol_file.specs.declared.fault.Fault.TheVariants as faults
use Rattle.lf_protocol_file.specs.Readings.{Valued}

abbrev pub bare : Definition
bare = record { variables = []; notes = []; given = []; lets = []; facts = []; chains = []; trace = [] }

-- nothing, so far
abbrev pub nothing : Draft
nothing = record { definition = bare; names = []; sketches = []; begun = None; outcomes = [] }

-- where an expression stands in the protocol, with the names of a note's fields there; `it` is nothing there
abbrev pub place_in : Draft → List (List ℕ) → Scope → Context
place_in d fields scope = record { definition = d.definition; fields = fields; names = d.names; scope = scope; within = withins.Nothing }

-- a name means something
abbrev pub is_declared : List Meaning → List ℕ → Bool
is_declared names name = list_any (λ x. bytes_eq x.name name) names

-- a name for something new: a name, and no word of the language, that means nothing so far
unfoldable pub check_new : Draft → List ℕ → Valued (Unit {0})
check_new d name = if is_name name && (not (is_reserved name) && not (is_declared d.names name)) then Ok tt else Err faults.Unfit

-- a name means something more
abbrev pub with_name : List ℕ → Leaf → Draft → Draft
with_name name leaf d = record d { names = d.names ++ record { name = name; leaf = leaf } ∷ [] }

-- the number of what comes after so many; no limit is as high as 255
abbrev pub number_after : ℕ → ℕ
number_after n = if nat_lt n 256 then n else 255
