use Rattle.std.proofs.Common.{sym, ap, ◌∙◌}
use Rattle.lf_sim.specs.Runs.{takes_step}
use Rattle.lf_sim.proofs.runs.runs_agree.Goals as goal

pub returns-clause-up : goal.returns-clause-up
returns-clause-up g c n t =
    let one = c.args.one.now in
    let other = c.args.other.now in
    ap (λ k. takes_step k one.grid.horizon one.grid.pause_length one.set n t) (c.requires.one.nodes ∙ sym c.requires.other.nodes)
    ∙ ap (λ k. takes_step other.grid.nodes k one.grid.pause_length one.set n t) (c.requires.one.horizon ∙ sym c.requires.other.horizon)
    ∙ ap (λ k. takes_step other.grid.nodes other.grid.horizon k one.set n t) (c.requires.one.pause_length ∙ sym c.requires.other.pause_length)
    ∙ ap (λ s. takes_step other.grid.nodes other.grid.horizon other.grid.pause_length s n t) c.requires.set
