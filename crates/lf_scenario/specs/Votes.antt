-- The votes of a commit protocol: a list of truth values, one for each of the nodes 1, 2, .. in turn.
use Rattle.std.specs.Prelude.{ℕ, zero, suc, ◌+◌, ◌==◌, Bool, true, false, if◌then◌else◌, List, map, Ok, Err}
use Rattle.std.specs.List.{range_with_len}
use Rattle.toml.specs.Data.{Data, boolean, array, Items, no_items, item}
use Rattle.lf_scenario.specs.declared.key.Key.{Key}
use Rattle.lf_scenario.specs.declared.error.ScenarioError.TheVariants as refusals
use Rattle.lf_scenario.specs.Values.{Reading}

-- whether each item is a truth value
abbrev pub all_booleans : Items → Bool
all_booleans no_items = true
all_booleans (item (boolean b) ds) = all_booleans ds
all_booleans (item _ ds) = false

-- how many items there are
abbrev pub count_items : Items → ℕ
count_items no_items = 0
count_items (item d ds) = count_items ds + 1

-- a truth value, and true in place of anything else
abbrev pub vote_in : Data → Bool
vote_in (boolean b) = b
vote_in _ = true

-- the vote at a place among the items, from 0, and true where there is none
abbrev pub item_vote : Items → ℕ → Bool
item_vote no_items k = true
item_vote (item d ds) zero = vote_in d
item_vote (item d ds) (suc k) = item_vote ds k

-- node n's vote: node 0 has none, and a node that isn't there neither
abbrev pub vote_of : Items → ℕ → Bool
vote_of ds zero = true
vote_of ds (suc k) = item_vote ds k

-- at place n node n's vote
abbrev pub votes_of : Items → List Bool
votes_of ds = map (vote_of ds) (range_with_len 0 8)

-- where none are given
abbrev pub all_agree : List Bool
all_agree = votes_of no_items

-- a list of truth values, as many as there are nodes besides node 0
abbrev pub votes_in : ℕ → Key → Data → Reading (List Bool)
votes_in nodes key (array ds) =
    if all_booleans ds
    then (if count_items ds + 1 == nodes then Ok (votes_of ds) else Err (refusals.OutOfRange key))
    else Err (refusals.WrongKind key)
votes_in nodes key _ = Err (refusals.WrongKind key)
