use Rattle.std.proofs.Common.{◌≡◌, ◌+◌, map, min, sum, take}
use Rattle.lf_tree.specs.Counts.{nodes_in}
use Rattle.lf_tree.proofs.counting.+count_node.Given as goal

-- the node, and all nodes beneath the kids so far
abbrev pub invariant-kids : goal.invariant-kids
invariant-kids l = l.count ≡ min (1 + sum (map nodes_in (take l.kid-index l.kid-items))) 18446744073709551615
