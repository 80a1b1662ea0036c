use Rattle.std.proofs.Common.{◌≡◌, true, take}
use Rattle.std.specs.List.{list_all}
use Rattle.lf_tree.specs.Trees.{is_node}
use Rattle.lf_tree.proofs.facts.+kept.Given as goal

abbrev pub invariant-nodes_are_kept-nodes : goal.invariant-nodes_are_kept-nodes
invariant-nodes_are_kept-nodes l = list_all is_node (take l.node-index l.nodes) ≡ true
