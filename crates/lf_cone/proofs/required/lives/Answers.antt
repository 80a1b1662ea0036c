use Rattle.std.proofs.Common.{arith}
use Rattle.std.proofs.lemmas.Bool.{false≢true}
use Rattle.lf_sim.specs.Settings.{world_of}
use Rattle.lf_sim.proofs.Laws.{IsRunning-up}
use Rattle.lf_cone.proofs.required.lives.Goals as goal

pub returns : goal.returns
returns g c =
    let s = c.args.setting.now in (
      λ h. absurd (false≢true h),
      λ h.
          let r = IsRunning-up (world_of s) c.args.view.now.effects.set c.args.node h.0 h.3.0 in
          absurd (c.loop-step.invariant h.0 h.1 (omega (
            arith,
            h.2,
            h.3.1,
            r.last,
            c.requires.ends c.args.node (omega (arith, c.requires.node, c.nodes-nodes.ensures.limits.nodes.1)),
            c.min-end.ensures,
            c.loop-step-test.false,
          )) h.3.0),
    )
