use Rattle.std.proofs.Common.{sym, ◌∙◌, subst, arith}
use Rattle.lf_sim.specs.Settings.{world_of, set_of}
use Rattle.lf_outcome.specs.Reaches.{IsReachOf}
use Rattle.lf_cone.specs.Cones.{CanHear}
use Rattle.lf_cone.specs.Sweeps.{IsLeastFrom}
use Rattle.lf_cone.proofs.Covering.{inside-up, start-form}
use Rattle.lf_cone.proofs.HearingLemmas.{sharp-least}
use Rattle.lf_cone.proofs.hearing.sharp.Goals as goal

pub covering-start-requires-clause-inside : goal.covering-start-requires-clause-inside
covering-start-requires-clause-inside g c =
    let s = c.args.setting.now in
    inside-up (world_of s) (set_of c.args.run.now) c.args.points.now c.nodes.result 48 (c.nodes.ensures.value ∙ sym s.nodes_agree) (omega
    (arith, c.nodes.ensures.limits.horizon.1)) c.requires.up

pub swept-requires : goal.swept-requires
swept-requires g c =
    let s = c.args.setting.now in
    let inside = inside-up (world_of s) (set_of c.args.run.now) c.args.points.now c.nodes.result s.spec.horizon
    (c.nodes.ensures.value ∙ sym s.nodes_agree) (omega arith) c.requires.up in
    subst (λ k. IsReachOf k s.spec.horizon c.covering-start.result) c.nodes.ensures.value
    (start-form c.nodes.result s.spec.horizon c.args.points.now c.covering-start.result c.covering-start.ensures inside)

pub returns : goal.returns
returns g c =
    let s = c.args.setting.now in
    let w = world_of s in
    let least : IsLeastFrom (CanHear w (set_of c.args.run.now)) s.spec.nodes s.spec.horizon c.covering-start.result c.swept.result =
    subst (λ F. IsLeastFrom (CanHear w F) s.spec.nodes s.spec.horizon c.covering-start.result c.swept.result)
    (c.new.ensures ∙ c.set.ensures) c.swept.ensures in
    sharp-least w (set_of c.args.run.now) s.spec.nodes c.args.points.now c.covering-start.result c.swept.result (sym s.nodes_agree)
    (rw c.nodes.ensures.value at c.covering-start.ensures) least
