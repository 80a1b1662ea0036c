use Rattle.std.proofs.Common.{◌≡◌, map, take}
use Rattle.lf_outcome.specs.Named.{shows_or_down}
use Rattle.lf_own_scenario.proofs.quantities.each.Given as goal

abbrev pub invariant-loop-node : goal.invariant-loop-node
invariant-loop-node l = l.parts.items ≡ map (shows_or_down l.step l.fact) (take l.node-index l.nodes)
