use Rattle.std.proofs.Common.{sym, ◌∙◌, subst}
use Rattle.lf_sim.specs.Settings.{world_of, set_of}
use Rattle.lf_outcome.specs.Reaches.{IsReachOf}
use Rattle.lf_cone.specs.Cones.{CanHear}
use Rattle.lf_cone.specs.Sweeps.{IsLeastFrom}
use Rattle.lf_cone.proofs.HearingLemmas.{closed-least}
use Rattle.lf_cone.proofs.hearing.is_closed.Goals as goal

pub returns : goal.returns
returns g c =
    let s = c.args.setting.now in
    let w = world_of s in
    let form : IsReachOf s.spec.nodes s.spec.horizon c.args.reach.now = rw (c.nodes.ensures.value, c.horizon.ensures.value) at
    (c.has_form.ensures.0 c.if-not-has_form.false) in
    let least : IsLeastFrom (CanHear w (set_of c.args.run.now)) s.spec.nodes s.spec.horizon c.args.reach.now c.swept-least.result =
    subst (λ F. IsLeastFrom (CanHear w F) s.spec.nodes s.spec.horizon c.args.reach.now c.swept-least.result)
    (c.new.ensures ∙ c.set.ensures) c.swept-least.ensures in
    let iff = closed-least w (set_of c.args.run.now) s.spec.nodes c.args.reach.now c.swept-least.result (sym s.nodes_agree) form least in
    (λ h. iff.0 (c.are_same.ensures.0 h), λ h. c.are_same.ensures.1 (iff.1 h))
