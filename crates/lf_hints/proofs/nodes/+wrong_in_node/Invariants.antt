use Rattle.lf_hints.proofs.nodes.+wrong_in_node.Given as goal

abbrev pub decreases-wrong_in_node : goal.decreases-wrong_in_node
decreases-wrong_in_node l = l.room
