-- What the types of a tree keep: its faults are faults, its reaches reaches, and its answer a set of faults.
use Rattle.std.specs.Prelude.{◌≡◌, ℕ, Bool, true, ◌&&◌, ◌==◌, not, nat_le, nat_lt, List, [], ◌∷◌, length, Option, None, Some}
use Rattle.std.specs.List.{list_all}
use Rattle.lf_faults.specs.declared.fault.Parts.{Parts}
use Rattle.lf_faults.specs.declared.fault.Parts.TheVariants.{Omit, Crash, Pause}
use Rattle.lf_faults.specs.Faults.{is_before}
use Rattle.lf_tree.specs.declared.tree.Tree.{Tree}
use Rattle.lf_tree.specs.declared.tree.Node.{Node, fold-Node}
use Rattle.lf_tree.specs.declared.tree.Node.TheOpen.{Node-F}

-- a step of a run of at most eight nodes and 48 steps
abbrev pub is_point : ℕ → ℕ → Bool
is_point node step = nat_lt node 8 && (nat_le 1 step && nat_le step 48)

-- its numbers are in the ranges that a fault can have
abbrev pub is_fault : Parts → Bool
is_fault (Omit from to step) = is_point from step && (nat_lt to 8 && not (from == to))
is_fault (Crash node step) = is_point node step
is_fault (Pause node step) = is_point node step

-- each fault comes before those after it
abbrev pub is_ascending : List Parts → Bool
is_ascending [] = true
is_ascending (f ∷ fs) = list_all (is_before f) fs && is_ascending fs

-- so many nodes can have a reach
abbrev pub is_count : ℕ → Bool
is_count n = nat_le 2 n && nat_le n 8

-- 2 to 8 numbers of 0 to 48
abbrev pub is_reach : List ℕ → Bool
is_reach steps = is_count (length steps) && list_all (λ t. nat_le t 48) steps

-- no answer, or a set of at most six faults
abbrev pub is_answer : Option (List Parts) → Bool
is_answer None = true
is_answer (Some faults) = nat_le (length faults) 6 && (list_all is_fault faults && is_ascending faults)

-- one level, with for each kid whether it is a node
abbrev pub is_node_step : Node-F Bool → Bool
is_node_step Node-F.Misses = true
is_node_step Node-F.Reaches = true
is_node_step (Node-F.Branch reach edges kids) = is_reach reach && (list_all is_fault edges && list_all (λ b. b) kids)

abbrev pub is_node : Node → Bool
is_node = fold-Node Bool is_node_step

-- each tree that the code can hold is one
pub record IsTree (tree : Tree) : Type 0 where
  pub answer : is_answer tree.answer ≡ true
  pub root : is_node tree.root ≡ true
