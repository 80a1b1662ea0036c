use Rattle.std.proofs.Common.{◌≡◌, ◌++◌, drop, string_bytes}
use Rattle.leastfault.specs.Reports.{dotted}
use Rattle.leastfault.proofs.replies.push_dotted.Given as goal

-- what is written, and the places still to come
abbrev pub invariant-places : goal.invariant-places
invariant-places l = string_bytes l.text ++ dotted (drop l.place-index l.path) ≡ string_bytes l.initial.text ++ dotted l.path
