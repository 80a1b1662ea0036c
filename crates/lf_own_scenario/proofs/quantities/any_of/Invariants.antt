use Rattle.std.proofs.Common.{◌≡◌, map, take}
use Rattle.lf_own_scenario.specs.Quantities.{shows}
use Rattle.lf_own_scenario.proofs.quantities.any_of.Given as goal

abbrev pub invariant-loop-node : goal.invariant-loop-node
invariant-loop-node l = l.parts.items ≡ map (shows l.step l.fact) (take l.node-index l.nodes)
