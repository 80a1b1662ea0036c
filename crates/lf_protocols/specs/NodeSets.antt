-- Sets of nodes.
use Rattle.std.specs.Prelude.{ℕ, ◌-◌, Bool, true, false, replicate, slice_index_or, slice_set}
use Rattle.std.specs.List.{range_with_len, list_all}
use Rattle.lf_protocols.specs.declared.nodes.Nodes.{Nodes}

-- n is one of them
abbrev pub has_node : Nodes → ℕ → Bool
has_node set n = slice_index_or set.members n false

-- no node
abbrev pub no_nodes : Nodes
no_nodes = record { members = replicate 8 false }

-- they and n. A number past 7 changes nothing
abbrev pub with_node : Nodes → ℕ → Nodes
with_node set n = record { members = slice_set set.members n true }

-- each of the nodes 1 to nodes - 1 is one of them
abbrev pub has_participants : ℕ → Nodes → Bool
has_participants nodes set = list_all (has_node set) (range_with_len 1 (nodes - 1))
