use Rattle.std.proofs.Common.{◌≡◌, ◌+◌, ◌-◌, suc, sym, arith, subst}
use Rattle.lf_sim.specs.Settings.{world_of}
use Rattle.lf_cone.specs.Cones.{CanHear}
use Rattle.lf_cone.specs.Sweeps.{IsSweptFrom, IsRaised, SomeBelow, IsDone, IsLeastFrom}
use Rattle.lf_cone.proofs.HearingLemmas.{hearer, heard-later, speaker, speaks_from, speaks_to}
use Rattle.lf_cone.proofs.Sweeping.{done_more, done_all, swept_start}
use Rattle.lf_cone.proofs.hearing.swept.Goals as goal

pub loop-back-init : goal.loop-back-init
loop-back-init g c =
    let s = c.args.setting.now in
    let w = world_of s in
    let F = c.args.effects.now.set in
    let rests = CanHear w F in
    let ends : s.spec.horizon ≡ c.horizon-horizon.result = sym c.horizon-horizon.ensures.value in
    let all : s.spec.nodes ≡ c.nodes-nodes.result = sym c.nodes-nodes.ensures.value in
    let u = c.horizon-horizon.result - 0 in
    subst (λ x. IsSweptFrom rests x c.horizon-horizon.result c.args.start u c.args.start) all
    (subst (λ x. IsSweptFrom rests s.spec.nodes x c.args.start u c.args.start) ends
    (swept_start rests s.spec.nodes s.spec.horizon u c.args.start (speaks_to w F) (omega (arith, ends)) c.requires))

pub loop-back-preserved : goal.loop-back-preserved
loop-back-preserved g c =
    let s = c.args.setting.now in
    let w = world_of s in
    let F = c.args.effects.now.set in
    let nodes = c.nodes-nodes.result in
    let horizon = c.horizon-horizon.result in
    let rests = CanHear w F in
    let u = horizon - (c.loop-back.back + 1) in
    let here : horizon - c.loop-back.back ≡ suc u = omega (arith, c.loop-back-test.true) in
    done_more rests nodes horizon (λ n t m v h. omega (arith, hearer w F n t m v h, c.nodes-nodes.ensures.value, s.nodes_agree))
    (heard-later w F c.arrivals_are_later.ensures)
    (λ n t m v h. omega (arith, speaker w F n t m v h, c.nodes-nodes.ensures.value, s.nodes_agree))
    c.args.start u c.loop-back.reach c.heard-reach.result (omega (arith, here))
    (subst (λ x. IsSweptFrom rests nodes horizon c.args.start x c.loop-back.reach) here c.loop-back.invariant)
    (subst (λ x. IsRaised (SomeBelow (IsDone rests c.loop-back.reach x) nodes) c.loop-back.reach c.heard-reach.result) here c.heard-reach.ensures)

pub returns : goal.returns
returns g c =
    let s = c.args.setting.now in
    let w = world_of s in
    let F = c.args.effects.now.set in
    let nodes = c.nodes-nodes.result in
    let horizon = c.horizon-horizon.result in
    let rests = CanHear w F in
    let done : horizon - c.loop-back.back ≡ 0 = omega (arith, c.loop-back-test.false) in
    let least = done_all rests nodes horizon (λ n t m v h. omega (arith, hearer w F n t m v h, c.nodes-nodes.ensures.value, s.nodes_agree))
    (heard-later w F c.arrivals_are_later.ensures)
    c.args.start c.loop-back.reach (speaks_from w F)
    (subst (λ x. IsSweptFrom rests nodes horizon c.args.start x c.loop-back.reach) done c.loop-back.invariant) in
    subst (λ x. IsLeastFrom rests x s.spec.horizon c.args.start c.loop-back.reach) c.nodes-nodes.ensures.value
    (subst (λ x. IsLeastFrom rests nodes x c.args.start c.loop-back.reach) c.horizon-horizon.ensures.value least)
