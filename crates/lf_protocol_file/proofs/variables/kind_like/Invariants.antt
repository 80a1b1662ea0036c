use Rattle.std.proofs.Common.{◌≡◌, drop}
use Rattle.lf_protocol_file.specs.Variables.{kind_like}
use Rattle.lf_protocol_file.proofs.variables.kind_like.Given as goal

-- none so far has the name
abbrev pub invariant-loop-i : goal.invariant-loop-i
invariant-loop-i l = kind_like l.i l.name (drop l.i l.sketches) ≡ kind_like 0 l.name l.sketches
