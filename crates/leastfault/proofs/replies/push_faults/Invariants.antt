use Rattle.std.proofs.Common.{◌≡◌, ◌++◌, drop, string_bytes}
use Rattle.leastfault.specs.Reports.{fault_lines}
use Rattle.leastfault.proofs.replies.push_faults.Given as goal

-- what is written, and the lines still to come
abbrev pub invariant-faults : goal.invariant-faults
invariant-faults l =
    string_bytes l.text ++ fault_lines (drop l.fault-index l.fault-items) ≡ string_bytes l.initial.text ++ fault_lines l.set
