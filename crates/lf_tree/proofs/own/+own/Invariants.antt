use Rattle.std.proofs.Common.{◌≡◌, ◌++◌, drop, map}
use Rattle.std.specs.Prelude.{codes}
use Rattle.lf_tree.specs.Rests.{left_of, skip}
use Rattle.lf_tree.specs.Texts.{in_brackets, node_text}
use Rattle.lf_tree.proofs.ListLemmas.{still_to_come}
use Rattle.lf_tree.proofs.own.+own.Given as goal

-- after the kids still to come what is left is that of the whole list
abbrev pub invariant-after_kids-kids : goal.invariant-after_kids-kids
invariant-after_kids-kids l =
    skip (still_to_come l.i (map node_text (drop l.i l.kids)) ++ codes "]") (left_of l.left) ≡ skip (in_brackets (map node_text l.kids)) (left_of l.fn.left)
