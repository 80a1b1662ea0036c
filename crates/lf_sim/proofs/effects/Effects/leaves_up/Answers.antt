use Rattle.lf_sim.proofs.EffectsLemmas.{leaves_crashed, leaves_uncrashed, leaves_unpaused, leaves_up}
use Rattle.lf_sim.proofs.effects.Effects.leaves_up.Goals as goal

pub returns-then-self-node : goal.returns-then-self-node
returns-then-self-node c =
    let e = c.args.self.now in
    leaves_crashed e.set e.crashes c.args.length c.args.node c.args.step e.ends c.requires.node c.requires.step c.if-self-node.true

pub returns-then-not-self-node : goal.returns-then-not-self-node
returns-then-not-self-node c =
    let e = c.args.self.now in
    leaves_unpaused e.set e.pausing c.args.length c.args.node c.args.step e.pauses c.requires.node c.if-not-self-node.true
    (leaves_uncrashed e.set e.crashes c.args.node c.args.step e.ends c.requires.node c.requires.step c.if-self-node.false)

pub returns : goal.returns
returns c =
    let e = c.args.self.now in
    leaves_up e.set c.args.length c.args.node c.args.step c.pauses.result c.pauses.ensures
    (leaves_uncrashed e.set e.crashes c.args.node c.args.step e.ends c.requires.node c.requires.step c.if-self-node.false)
