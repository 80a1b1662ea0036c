use Rattle.std.proofs.Common.{◌-◌}
use Rattle.lf_latency.specs.Links.{least_of}
use Rattle.lf_cone.specs.Sweeps.{IsSweptTo, RestsByLeast}
use Rattle.lf_cone.proofs.delays.cone.Given as goal

abbrev pub invariant-loop-back : goal.invariant-loop-back
invariant-loop-back g l =
    IsSweptTo (RestsByLeast l.nodes (least_of l.setting.network.links)) l.nodes l.horizon l.initial.reach (l.horizon - l.back) l.reach
