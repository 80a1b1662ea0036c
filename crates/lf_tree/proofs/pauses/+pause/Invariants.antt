use Rattle.std.proofs.Common.{◌≡◌, false, take}
use Rattle.std.specs.List.{list_any}
use Rattle.lf_tree.specs.Texts.{has_pause}
use Rattle.lf_tree.proofs.pauses.+pause.Given as goal

-- no edge of the nodes so far is a pause
abbrev pub invariant-some_has_pause-nodes : goal.invariant-some_has_pause-nodes
invariant-some_has_pause-nodes l = list_any has_pause (take l.node-index l.nodes) ≡ false
