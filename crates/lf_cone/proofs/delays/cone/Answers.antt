use Rattle.std.proofs.Common.{◌≡◌, ◌+◌, ◌-◌, ◌≤◌, suc, sym, ◌∙◌, arith, subst, refl}
use Rattle.lf_latency.specs.Links.{least_of}
use Rattle.lf_sim.specs.Settings.{world_of, set_of}
use Rattle.lf_cone.specs.Cones.{IsCone}
use Rattle.lf_cone.specs.Sweeps.{IsSweptTo, IsRaised, SomeBelow, RestsAt, RestsByLeast}
use Rattle.lf_cone.proofs.Covering.{inside-up, start-form}
use Rattle.lf_cone.proofs.Coning.{later-least, cone_is, cone_closed}
use Rattle.lf_cone.proofs.Sweeping.{swept_none, swept_more, swept_all}
use Rattle.lf_cone.proofs.delays.cone.Goals as goal

pub covering-reach-requires-clause-inside : goal.covering-reach-requires-clause-inside
covering-reach-requires-clause-inside g c =
    let s = c.args.setting.now in
    inside-up (world_of s) (set_of c.args.run.now) c.args.points.now c.nodes-nodes.result 48 (c.nodes-nodes.ensures.value ∙ sym s.nodes_agree) (omega
    (arith, c.nodes-nodes.ensures.limits.horizon.1)) c.requires.up

pub loop-back-init : goal.loop-back-init
loop-back-init g c =
    let s = c.args.setting.now in
    let inside = inside-up (world_of s) (set_of c.args.run.now) c.args.points.now c.nodes-nodes.result c.horizon-horizon.result
    (c.nodes-nodes.ensures.value ∙ sym s.nodes_agree) (omega (arith, c.horizon-horizon.ensures.value)) c.requires.up in
    let few : c.nodes-nodes.result ≤ 8 = omega (arith, c.nodes-nodes.ensures.value, c.nodes-nodes.ensures.limits.nodes.1) in
    let rests = RestsByLeast c.nodes-nodes.result (least_of s.network.links) in
    let whole : c.horizon-horizon.result ≡ c.horizon-horizon.result - 0 = omega arith in
    subst (λ x. IsSweptTo rests c.nodes-nodes.result c.horizon-horizon.result c.covering-reach.result x c.covering-reach.result) whole
    (swept_none rests c.nodes-nodes.result c.horizon-horizon.result (λ n t m v h. h.1)
    (later-least s.network c.nodes-nodes.result c.keeps_limits.ensures few)
    c.covering-reach.result (start-form c.nodes-nodes.result c.horizon-horizon.result c.args.points.now c.covering-reach.result c.covering-reach.ensures
    inside))

pub loop-back-preserved : goal.loop-back-preserved
loop-back-preserved g c =
    let s = c.args.setting.now in
    let nodes = c.nodes-nodes.result in
    let horizon = c.horizon-horizon.result in
    let rests = RestsByLeast nodes (least_of s.network.links) in
    let few : nodes ≤ 8 = omega (arith, c.nodes-nodes.ensures.value, c.nodes-nodes.ensures.limits.nodes.1) in
    let u = horizon - (c.loop-back.back + 1) in
    let here : horizon - c.loop-back.back ≡ suc u = omega (arith, c.loop-back-test.true) in
    swept_more rests nodes horizon (λ n t m v h. h.1) (later-least s.network nodes c.keeps_limits.ensures few)
    c.covering-reach.result u c.loop-back.reach c.told-reach.result (omega (arith, here))
    (subst (λ x. IsSweptTo rests nodes horizon c.covering-reach.result x c.loop-back.reach) here c.loop-back.invariant)
    (subst (λ x. IsRaised (SomeBelow (RestsAt rests c.loop-back.reach x) nodes) c.loop-back.reach c.told-reach.result) here c.told-reach.ensures)

pub returns-clause-cone : goal.returns-clause-cone
returns-clause-cone g c =
    let s = c.args.setting.now in
    let nodes = c.nodes-nodes.result in
    let horizon = c.horizon-horizon.result in
    let rests = RestsByLeast nodes (least_of s.network.links) in
    let few : nodes ≤ 8 = omega (arith, c.nodes-nodes.ensures.value, c.nodes-nodes.ensures.limits.nodes.1) in
    let done : horizon - c.loop-back.back ≡ 0 = omega (arith, c.loop-back-test.false) in
    let least = swept_all rests nodes horizon (λ n t m v h. h.1) (later-least s.network nodes c.keeps_limits.ensures few) c.covering-reach.result
    c.loop-back.reach
    (subst (λ x. IsSweptTo rests nodes horizon c.covering-reach.result x c.loop-back.reach) done c.loop-back.invariant) in
    let is = cone_is nodes horizon (least_of s.network.links) c.args.points.now c.covering-reach.result c.loop-back.reach c.covering-reach.ensures least in
    subst (λ x. IsCone x s.spec.horizon (least_of s.network.links) c.args.points.now c.loop-back.reach) c.nodes-nodes.ensures.value
    (subst (λ x. IsCone nodes x (least_of s.network.links) c.args.points.now c.loop-back.reach) c.horizon-horizon.ensures.value is)

pub returns-clause-closed : goal.returns-clause-closed
returns-clause-closed g c =
    let s = c.args.setting.now in
    cone_closed (world_of s) (set_of c.args.run.now) s.network s.spec.nodes s.spec.horizon c.args.points.now c.loop-back.reach
    (sym s.nodes_agree) refl (s.network_agrees ∙ sym s.nodes_agree) s.horizons_agree c.keeps_limits.ensures (λ n m t. refl) (returns-clause-cone g c)
