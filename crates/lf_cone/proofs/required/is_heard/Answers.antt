use Rattle.std.proofs.Common.{◌<◌, arith}
use Rattle.lf_sim.specs.Settings.{world_of}
use Rattle.lf_sim.proofs.Laws.{IsRunning-up}
use Rattle.lf_cone.proofs.required.is_heard.Goals as goal

pub hears-requires-clause-last : goal.hears-requires-clause-last
hears-requires-clause-last g c =
    let node : c.args.to < 8 = omega (arith, c.requires.to, c.nodes-nodes.ensures.limits.nodes.1) in
    omega (arith, c.requires.ends c.args.to node)

pub returns : goal.returns
returns g c =
    let node : c.args.to < 8 = omega (arith, c.requires.to, c.nodes-nodes.ensures.limits.nodes.1) in (
      λ h.
          let by = c.hears.ensures.0 h in
          (by.0, omega (arith, by.1, c.requires.ends c.args.to node), by.2),
      λ s.
          let last = (IsRunning-up (world_of c.args.setting.now) c.args.view.now.effects.set c.args.to s.0 s.2.hears).last in
          c.hears.ensures.1 (s.0, omega (arith, s.1, last, c.requires.ends c.args.to node), s.2),
    )
