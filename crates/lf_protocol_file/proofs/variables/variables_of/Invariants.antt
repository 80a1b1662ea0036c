use Rattle.std.proofs.Common.{◌≡◌, [], drop}
use Rattle.lf_protocol_file.specs.Variables.{variables_behind}
use Rattle.lf_protocol_file.proofs.variables.variables_of.Given as goal

-- the variables so far stand before those of the rest
abbrev pub invariant-loop-i : goal.invariant-loop-i
invariant-loop-i l = variables_behind l.sketches l.variables l.i (drop l.i l.sketches) ≡ variables_behind l.sketches [] 0 l.sketches
