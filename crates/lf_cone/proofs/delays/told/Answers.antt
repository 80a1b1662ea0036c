use Rattle.std.proofs.Common.{arith}
use Rattle.lf_latency.specs.Links.{least_of}
use Rattle.lf_cone.specs.Sweeps.{RestsAt, RestsByLeast}
use Rattle.lf_cone.proofs.Sweeping.{raised-more, raised-pass, raised-same}
use Rattle.lf_cone.proofs.delays.told.Goals as goal
use Rattle.lf_cone.proofs.delays.told.Goals.{then-step-at, else-step-at}

pub loop-to-preserved : goal.loop-to-preserved
loop-to-preserved c =
    let rests = RestsByLeast c.args.nodes (least_of c.args.network.now.links) in
    let by = RestsAt rests c.args.reach c.args.step in
    let to = c.loop-to.to in
    elim c.if-step-at.branch [
      | then-step-at w ↦
          rw w.reach-is (raised-more by to c.args.reach c.loop-to.reach w.told_to-reach.result c.loop-to.invariant
          (raised-same (λ n t. rests n t to c.args.step) (by to) c.loop-to.reach w.told_to-reach.result
          (λ n t h. h.1)
          (λ n t h. (omega (arith, w.if-step-at.true, c.at.ensures.value), h))
          w.told_to-reach.ensures))
      | else-step-at w ↦
          rw w.reach-is (raised-pass by to c.args.reach c.loop-to.reach c.loop-to.invariant (λ n t h. omega
          (arith, h.0, w.if-step-at.false, c.at.ensures.value)))
    ]
