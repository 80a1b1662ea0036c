use Rattle.std.proofs.Common.{◌≡◌, map}
use Rattle.std.specs.List.{range_with_len}
use Rattle.lf_outcome.specs.Named.{shows_or_down}
use Rattle.lf_outcome.proofs.outcome.each.Given as goal

abbrev pub invariant-loop-node : goal.invariant-loop-node
invariant-loop-node g l = l.parts.items ≡ map (shows_or_down l.step l.fact) (range_with_len 0 l.node)
