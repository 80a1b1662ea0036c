use Rattle.std.proofs.Common.{◌≡◌, ◌++◌, drop, map}
use Rattle.std.specs.Prelude.{codes}
use Rattle.std.specs.Fmt.{decimal}
use Rattle.lf_tree.specs.Rests.{left_of, skip}
use Rattle.lf_tree.specs.Texts.{in_brackets}
use Rattle.lf_tree.proofs.ListLemmas.{still_to_come}
use Rattle.lf_tree.proofs.own.after_reach.Given as goal

-- after the steps still to come what is left is that of the whole list
abbrev pub invariant-steps : goal.invariant-steps
invariant-steps l =
    skip (still_to_come l.i (map decimal (drop l.i l.step-items)) ++ codes "]") (left_of l.left) ≡ skip (in_brackets (map decimal l.reach)) (left_of l.fn.left)
