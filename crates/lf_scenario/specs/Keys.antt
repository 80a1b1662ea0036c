-- The keys of a scenario, as they are written.
use Rattle.std.specs.Prelude.{ℕ, Bool, List, [], ◌∷◌, codes}
use Rattle.std.specs.List.{list_any}
use Rattle.std.specs.Str.{bytes_eq}
use Rattle.lf_scenario.specs.declared.key.Key.{Key}
use Rattle.lf_scenario.specs.declared.key.Key.TheVariants.{Nodes, Horizon, LastOmission, Crashes, Budget, Pauses, PauseLength, MaxSets}
use Rattle.lf_scenario.specs.declared.key.Key.TheVariants.{Seed, Least, Spread, Protocol, Tries, Patience, Votes, Given, Outcome, Links}

abbrev pub key_name : Key → List ℕ
key_name Nodes = codes "nodes"
key_name Horizon = codes "horizon"
key_name LastOmission = codes "last_omission"
key_name Crashes = codes "crashes"
key_name Budget = codes "budget"
key_name Pauses = codes "pauses"
key_name PauseLength = codes "pause_length"
key_name MaxSets = codes "max_sets"
key_name Seed = codes "seed"
key_name Least = codes "least"
key_name Spread = codes "spread"
key_name Protocol = codes "protocol"
key_name Tries = codes "tries"
key_name Patience = codes "patience"
key_name Votes = codes "votes"
key_name Given = codes "given"
key_name Outcome = codes "outcome"
key_name Links = codes "links"

-- those of a scenario of a shipped protocol, in the order in which they are read
abbrev pub all_keys : List Key
all_keys =
    Nodes ∷ Horizon ∷ LastOmission ∷ Crashes ∷ Budget ∷ Pauses ∷ PauseLength ∷ MaxSets
    ∷ Seed ∷ Least ∷ Spread ∷ Protocol ∷ Tries ∷ Patience ∷ Votes ∷ Outcome ∷ Links ∷ []

-- whether a text is one of some keys
unfoldable pub is_name_of_one : List Key → List ℕ → Bool
is_name_of_one some name = list_any (λ key. bytes_eq name (key_name key)) some

-- whether a text is one of these
unfoldable pub is_key_name : List ℕ → Bool
is_key_name name = is_name_of_one all_keys name
