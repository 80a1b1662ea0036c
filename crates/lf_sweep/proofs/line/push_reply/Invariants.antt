use Rattle.std.proofs.Common.{◌≡◌, ◌++◌, drop, map}
use Rattle.lf_sweep.specs.Lines.{tab_for}
use Rattle.lf_sweep.proofs.line.push_reply.Given as goal

-- what is written, and the bytes still to come
abbrev pub invariant-bytes : goal.invariant-bytes
invariant-bytes l = l.line.items ++ map tab_for (drop l.byte-index l.shown) ≡ l.initial.line.items ++ map tab_for l.shown
