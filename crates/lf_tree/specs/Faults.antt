-- The numbers of what can be wrong with a tree's text.
use Rattle.std.specs.Prelude.{ℕ}
use Rattle.lf_tree.specs.declared.fault.TreeFault.{TreeFault}
use Rattle.lf_tree.specs.declared.fault.TreeFault.TheVariants.{TooLong, NoJson, Form, OutOfRange, TooDeep, Memory}

-- the number of a fault, 1 to 6
abbrev pub fault_number : TreeFault → ℕ
fault_number TooLong = 1
fault_number NoJson = 2
fault_number Form = 3
fault_number OutOfRange = 4
fault_number TooDeep = 5
fault_number Memory = 6
