use Rattle.std.proofs.Common.{rules, sym, ◌∙◌}
use Rattle.lf_sim.proofs.EffectsLemmas.{woken-never}
use Rattle.lf_sim.proofs.effects.Effects.wakes.Goals as goal

pub returns-then-self-node : goal.returns-then-self-node
returns-then-self-node c = search rules

pub returns-else-self-node : goal.returns-else-self-node
returns-else-self-node c =
    let e = c.args.self.now in
    sym (woken-never e.set c.args.length c.args.node c.args.step (sym (e.pauses c.args.node c.requires.node) ∙ c.if-self-node.false))
