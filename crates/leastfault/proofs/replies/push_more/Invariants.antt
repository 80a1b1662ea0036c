use Rattle.std.proofs.Common.{◌≡◌, ◌++◌, drop, string_bytes}
use Rattle.leastfault.specs.Reports.{more_text}
use Rattle.leastfault.proofs.replies.push_more.Given as goal

-- what is written, and the faults still to come
abbrev pub invariant-faults : goal.invariant-faults
invariant-faults l = string_bytes l.text ++ more_text (drop l.fault-index l.faults) ≡ string_bytes l.initial.text ++ more_text l.faults
