use Rattle.std.proofs.Common.{ℕ, ◌<◌, length, arith, get_or, subst, sym}
use Rattle.std.proofs.lemmas.List.{length-replicate}
use Rattle.lf_cone.specs.Sweeps.{IsRaised}
use Rattle.lf_cone.proofs.Covering.{blank, point_in, covering_more}
use Rattle.lf_cone.proofs.Sweeping.{raised-one}
use Rattle.lf_cone.proofs.points.covering.Goals as goal

pub raised-reach-requires-clause-node : goal.raised-reach-requires-clause-node
raised-reach-requires-clause-node c =
    let i = c.loop-point.point-index in
    let at = c.requires.inside (get_or c.args.points.now i blank) (point_in c.args.points.now i c.loop-point-test.true) in
    omega (arith, at.0, c.loop-point.invariant.count, length-replicate {A = ℕ} c.args.nodes 0)

pub raised-reach-requires-clause-step : goal.raised-reach-requires-clause-step
raised-reach-requires-clause-step c =
    let i = c.loop-point.point-index in
    (c.requires.inside (get_or c.args.points.now i blank) (point_in c.args.points.now i c.loop-point-test.true)).1

pub loop-point-preserved : goal.loop-point-preserved
loop-point-preserved c =
    let i = c.loop-point.point-index in
    let p = get_or c.args.points.now i blank in
    let at = c.requires.inside p (point_in c.args.points.now i c.loop-point-test.true) in
    let inside : p.node < length c.loop-point.reach = omega (arith, at.0, c.loop-point.invariant.count, length-replicate {A = ℕ} c.args.nodes 0) in
    covering_more c.args.points.now i _ c.loop-point.reach c.raised-reach.result c.loop-point.invariant
    (subst (IsRaised _ c.loop-point.reach) (sym c.raised-reach.ensures) (raised-one c.loop-point.reach p.node p.step inside))
