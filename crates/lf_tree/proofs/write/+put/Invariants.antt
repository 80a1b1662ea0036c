use Rattle.std.proofs.Common.{◌≡◌, ◌++◌, drop, map}
use Rattle.std.specs.Prelude.{codes}
use Rattle.lf_tree.specs.Texts.{in_brackets, node_text}
use Rattle.lf_tree.proofs.ListLemmas.{still_to_come}
use Rattle.lf_tree.proofs.write.+put.Given as goal

-- with the kids still to come it is the whole list
abbrev pub invariant-put_kids-kids : goal.invariant-put_kids-kids
invariant-put_kids-kids l =
    l.text.items ++ (still_to_come l.i (map node_text (drop l.i l.kids)) ++ codes "]")
    ≡ l.fn.text.items ++ in_brackets (map node_text l.kids)
