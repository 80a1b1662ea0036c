use Rattle.std.proofs.Common.{◌≡◌, ◌++◌, ◌+◌, ◌*◌, drop, Ok}
use Rattle.serde_json.specs.View.{items_view}
use Rattle.lf_tree.specs.Reading.{◌>>=◌, all_in, node_in}
use Rattle.lf_tree.proofs.nodes.+node.Given as goal

abbrev pub decreases-node_in : goal.decreases-node_in
decreases-node_in l = 4 * l.room

abbrev pub decreases-nodes_in : goal.decreases-nodes_in
decreases-nodes_in l = 4 * l.room + 1

abbrev pub decreases-kids_in : goal.decreases-kids_in
decreases-kids_in l = 4 * l.room + 2

abbrev pub decreases-branch_in : goal.decreases-branch_in
decreases-branch_in l = 4 * l.room + 3

abbrev pub invariant-nodes_in-items : goal.invariant-nodes_in-items
invariant-nodes_in-items l =
    (all_in (node_in l.room) (items_view (drop l.item-index l.items)) >>= (λ rest. Ok (l.kids.items ++ rest))) ≡ all_in (node_in l.room) (items_view l.items)
