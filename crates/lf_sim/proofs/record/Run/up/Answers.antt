use Rattle.std.proofs.Common.{◌∙◌}
use Rattle.lf_sim.proofs.RunsLemmas.{is_up_by}
use Rattle.lf_sim.proofs.record.Run.up.Goals as goal

pub returns-clause-meaning : goal.returns-clause-meaning
returns-clause-meaning g c w run =
    c.takes_step.ensures.value
    ∙ is_up_by w c.args.self.now.set c.args.self.now.grid.nodes c.args.self.now.grid.horizon c.args.self.now.grid.pause_length c.args.node c.args.step
    run.nodes run.horizon run.pause_length
