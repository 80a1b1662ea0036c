use Rattle.std.proofs.Common.{◌≡◌, min, take}
use Rattle.std.specs.Fmt.{decimal}
use Rattle.lf_tree.proofs.LengthLemmas.{items_length}
use Rattle.lf_tree.proofs.size.reach_length.Given as goal

-- the length of the steps so far
abbrev pub invariant-steps : goal.invariant-steps
invariant-steps l = l.items ≡ min (items_length decimal (take l.step-index l.step-items)) 16777217
