use Rattle.std.proofs.Common.{◌≡◌, map, take}
use Rattle.lf_own_scenario.specs.Members.{others}
use Rattle.lf_own_scenario.specs.Quantities.{each}
use Rattle.lf_own_scenario.proofs.quantities.each_but_one.Given as goal

abbrev pub invariant-loop-node : goal.invariant-loop-node
invariant-loop-node l = l.parts.items ≡ map (λ n. each l.step l.fact (others l.nodes n)) (take l.node-index l.nodes)
