use Rattle.std.proofs.Common.{◌≡◌, min, take}
use Rattle.lf_tree.specs.Texts.{node_text}
use Rattle.lf_tree.proofs.LengthLemmas.{items_length}
use Rattle.lf_tree.proofs.size.+length.Given as goal

-- the length of the kids so far
abbrev pub invariant-kids_length-kids : goal.invariant-kids_length-kids
invariant-kids_length-kids l = l.items ≡ min (items_length node_text (take l.kid-index l.kids)) 16777217
