use Rattle.std.proofs.Common.{sym, ◌∙◌}
use Rattle.lf_sim.proofs.EffectsLemmas.{omitted-never}
use Rattle.lf_sim.proofs.effects.Effects.omits.Goals as goal

pub returns-else-self-from : goal.returns-else-self-from
returns-else-self-from c =
    let e = c.args.self.now in
    sym (omitted-never e.set c.args.from c.args.to c.args.step (sym (e.losses c.args.from c.args.to c.requires.from c.requires.to) ∙ c.if-self-from.false))
