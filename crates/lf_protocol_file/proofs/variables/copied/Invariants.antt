use Rattle.std.proofs.Common.{◌≡◌, take}
use Rattle.lf_protocol_file.proofs.variables.copied.Given as goal

-- the names so far
abbrev pub invariant-loop-name : goal.invariant-loop-name
invariant-loop-name l = l.copies ≡ take l.name-index l.names
