use Rattle.std.proofs.Common.{◌≡◌, drop}
use Rattle.lf_protocol_file.specs.Named.{variable_named}
use Rattle.lf_protocol_file.proofs.named.variable_named.Given as goal

-- none so far has the name
abbrev pub invariant-loop-i : goal.invariant-loop-i
invariant-loop-i l = variable_named l.i l.name (drop l.i l.variables) ≡ variable_named 0 l.name l.variables
