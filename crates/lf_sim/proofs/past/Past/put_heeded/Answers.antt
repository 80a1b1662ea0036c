use Rattle.std.proofs.Common.{◌+◌, ap}
use Rattle.lf_sim.specs.Runs.{letters, did}
use Rattle.lf_sim.specs.Settings.{world_of}
use Rattle.lf_sim.proofs.past.Past.put_heeded.Goals as goal

pub returns-then-ignores_letters-clause-same : goal.returns-then-ignores_letters-clause-same
returns-then-ignores_letters-clause-same g c =
    let p = c.args.self.now in
    let w = world_of p.setting.now in
    let F = p.effects.now.set in
    c.ignores_letters.ensures c.if-ignores_letters.true c.clear.new.self.items (letters w F (did w F) c.args.to (p.t + 1))

pub returns-else-ignores_letters-clause-same : goal.returns-else-ignores_letters-clause-same
returns-else-ignores_letters-clause-same g c =
    let p = c.args.self.now in
    ap (λ mail. (world_of p.setting.now).rules.step c.args.to (p.t + 1) c.args.state.now mail) c.put_letters.ensures.items
