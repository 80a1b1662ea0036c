use Rattle.std.proofs.Common.{◌≡◌, ◌++◌, drop, map}
use Rattle.std.specs.Prelude.{codes}
use Rattle.lf_tree.specs.Texts.{faults_text, quoted}
use Rattle.lf_tree.proofs.ListLemmas.{still_to_come}
use Rattle.lf_tree.proofs.write.put_faults.Given as goal

-- with the faults still to come it is the whole list
abbrev pub invariant-faults : goal.invariant-faults
invariant-faults l =
    l.text.items ++ (still_to_come l.i (map quoted (drop l.i l.faults)) ++ codes "]") ≡ l.fn.text.items ++ faults_text l.faults
