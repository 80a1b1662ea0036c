use Rattle.std.proofs.Common.{◌≡◌, ◌++◌, drop, map}
use Rattle.std.specs.Prelude.{codes}
use Rattle.lf_tree.specs.Rests.{left_of, skip}
use Rattle.lf_tree.specs.Texts.{faults_text, quoted}
use Rattle.lf_tree.proofs.ListLemmas.{still_to_come}
use Rattle.lf_tree.proofs.own.after_faults.Given as goal

-- after the faults still to come what is left is that of the whole list
abbrev pub invariant-faults : goal.invariant-faults
invariant-faults l =
    skip (still_to_come l.i (map quoted (drop l.i l.faults)) ++ codes "]") (left_of l.left) ≡ skip (faults_text l.faults) (left_of l.fn.left)
