use Rattle.std.proofs.Common.{◌≡◌, ◌++◌, drop, string_bytes}
use Rattle.leastfault.specs.Reports.{set_lines}
use Rattle.leastfault.proofs.replies.push_sets.Given as goal

-- what is written, and the lines still to come
abbrev pub invariant-sets : goal.invariant-sets
invariant-sets l = string_bytes l.text ++ set_lines (drop l.set-index l.sets) ≡ string_bytes l.initial.text ++ set_lines l.sets
