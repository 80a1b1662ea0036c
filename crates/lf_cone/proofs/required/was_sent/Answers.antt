use Rattle.std.proofs.Common.{sym, ◌∙◌, ap}
use Rattle.std.specs.Option.{is_some}
use Rattle.lf_sim.specs.Settings.{world_of}
use Rattle.lf_cone.proofs.required.was_sent.Goals as goal

pub returns : goal.returns
returns g c =
    let e = c.is_some.ensures ∙ ap is_some (c.sent.ensures.meaning (world_of c.args.setting.now) c.requires.run) in
    (λ h. sym e ∙ h, λ h. e ∙ h)
