use Rattle.std.proofs.Common.{◌≡◌, ◌==◌, not, filter, take}
use Rattle.lf_own_scenario.proofs.members.others.Given as goal

abbrev pub invariant-loop-node : goal.invariant-loop-node
invariant-loop-node l = l.others.items ≡ filter (λ n. not (n == l.but)) (take l.node-index l.nodes)
