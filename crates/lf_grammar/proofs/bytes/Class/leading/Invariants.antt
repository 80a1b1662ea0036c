use Rattle.std.proofs.Common.{◌≡◌, ◌+◌, drop}
use Rattle.std.specs.List.{prefix_len}
use Rattle.lf_grammar.specs.Bytes.{has}
use Rattle.lf_grammar.proofs.bytes.Class.leading.Given as goal

-- all so far are of the class
abbrev pub invariant-loop-i : goal.invariant-loop-i
invariant-loop-i l = prefix_len (has l.self) l.bytes ≡ l.i + prefix_len (has l.self) (drop l.i l.bytes)
