-- The keys of a scenario of a protocol file, but for its constants and its outcome.
use Rattle.std.specs.Prelude.{ℕ, Bool, true, ◌&&◌, ◌||◌, if◌then◌else◌, List, Ok, Err}
use Rattle.std.specs.Str.{bytes_eq}
use Rattle.toml.specs.Data.{Data, string, Members, no_members, member}
use Rattle.lf_scenario.specs.declared.key.Key.{Key}
use Rattle.lf_scenario.specs.declared.key.Key.TheVariants as keys
use Rattle.lf_scenario.specs.declared.error.ScenarioError.TheVariants as refusals
use Rattle.lf_scenario.specs.Keys.{key_name, is_key_name}
use Rattle.lf_scenario.specs.Values.{Reading, ◌>>=◌, required, foreign}
use Rattle.lf_scenario.specs.Reading.{bounds_in, max_sets_in, delays_in}
use Rattle.lf_own_scenario.specs.declared.keys.Bounded.{Bounded}

-- a key is one of a scenario's, or `given`
abbrev pub is_known : List ℕ → Bool
is_known name = is_key_name name || bytes_eq name (key_name keys.Given)

abbrev pub all_known : Members → Bool
all_known no_members = true
all_known (member name d ms) = is_known name && all_known ms

unfoldable pub known : Members → Reading (Unit {0})
known ms = if all_known ms then Ok tt else Err refusals.UnknownKey

-- what a scenario says whatever its protocol
unfoldable pub bounded_in : Members → Reading Bounded
bounded_in ms = do
  all ← known ms
  bounds ← bounds_in ms
  max_sets ← max_sets_in ms
  delays ← delays_in ms
  Ok (record { bounds = bounds; max_sets = max_sets; delays = delays })

-- the protocol's name, and no other
abbrev pub named : List ℕ → Key → Data → Reading (Unit {0})
named name key (string text) = if bytes_eq text name then Ok tt else Err refusals.Protocol
named name key _ = Err (refusals.WrongKind key)

-- a key of another protocol
abbrev pub absent : Members → Key → Reading (Unit {0})
absent ms key = foreign ms key tt

-- the scenario names the protocol, and has none of the keys of shipped protocols
unfoldable pub settled_in : List ℕ → Members → Reading (Unit {0})
settled_in name ms = do
  protocol ← required ms keys.Protocol (named name)
  tries ← absent ms keys.Tries
  patience ← absent ms keys.Patience
  absent ms keys.Votes
