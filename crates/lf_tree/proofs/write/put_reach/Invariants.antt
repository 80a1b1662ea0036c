use Rattle.std.proofs.Common.{◌≡◌, ◌++◌, drop, map}
use Rattle.std.specs.Prelude.{codes}
use Rattle.std.specs.Fmt.{decimal}
use Rattle.lf_tree.specs.Texts.{in_brackets}
use Rattle.lf_tree.proofs.ListLemmas.{still_to_come}
use Rattle.lf_tree.proofs.write.put_reach.Given as goal

-- with the steps still to come it is the whole list
abbrev pub invariant-steps : goal.invariant-steps
invariant-steps l =
    l.text.items ++ (still_to_come l.i (map decimal (drop l.i l.step-items)) ++ codes "]") ≡ l.fn.text.items ++ in_brackets (map decimal l.reach)
