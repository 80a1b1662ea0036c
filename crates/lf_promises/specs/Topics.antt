-- Whether what is to have one value is something where it stands.
use Rattle.std.specs.Prelude.{Bool, true, ◌&&◌, is_some}
use Rattle.std.specs.List.{list_all}
use Rattle.lf_rules.specs.Sorts.{tree_sort, is_a}
use Rattle.lf_rules.specs.Terms.{Term}
use Rattle.lf_rules.specs.declared.definition.Definition.{Definition}
use Rattle.lf_rules.specs.declared.sort.Scope.TheVariants as scopes
use Rattle.lf_rules.specs.declared.sort.Sort.TheVariants as sorts
use Rattle.lf_rules.specs.declared.sort.Within.TheVariants as withins
use Rattle.lf_rules.specs.declared.topic.Topic.{Topic}
use Rattle.lf_promises.specs.declared.promise.Promise.{Promise, fold-Promise}
use Rattle.lf_promises.specs.declared.promise.Promise.TheOpen.{Promise-F}

-- an expression is of some sort where an outcome asks of a state, so what it names is there
abbrev pub is_sorted : Definition → Term → Bool
is_sorted d e = is_some (tree_sort d scopes.Outcome withins.Nothing e)

-- the value and the key are of some sort, and the guard is a truth
abbrev pub is_asked : Definition → Topic → Bool
is_asked d topic = is_sorted d topic.value && (is_sorted d topic.key && is_a d scopes.Outcome withins.Nothing sorts.Truth topic.guard)

-- one level, with the truth of each part in its place
abbrev pub asked_step : Definition → Promise-F Bool → Bool
asked_step d (Promise-F.All parts) = list_all (λ b. b) parts
asked_step d (Promise-F.Any parts) = list_all (λ b. b) parts
asked_step d (Promise-F.Always parts) = list_all (λ b. b) parts
asked_step d (Promise-F.Ever parts) = list_all (λ b. b) parts
asked_step d (Promise-F.Nodes many fact of) = true
asked_step d (Promise-F.Down n) = true
asked_step d (Promise-F.At n fact) = true
asked_step d (Promise-F.One topic) = is_asked d topic

-- each topic of a promise is such
abbrev pub asks_sorted : Definition → Promise → Bool
asks_sorted d = fold-Promise Bool (asked_step d)
