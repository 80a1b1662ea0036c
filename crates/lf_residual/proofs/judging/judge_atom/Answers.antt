use Rattle.std.proofs.Common.{ap, ◌∙◌}
use Rattle.lf_sim.specs.Settings.{set_of, world_of}
use Rattle.lf_residual.specs.Judging.{said}
use Rattle.lf_residual.proofs.JudgedLemmas.{atom-free}
use Rattle.lf_residual.proofs.judging.judge_atom.Goals as goal

pub returns-else-has : goal.returns-else-has
returns-else-has c = λ from same was.
    let change = c.args.change.now in
    was
    ∙ atom-free (world_of change.setting.now) from (set_of change.run.now) change.changed.now.points same c.args.formula.now c.args.node c.args.step
    c.requires.scope (c.has.ensures c.if-has.false)

pub returns-then-has : goal.returns-then-has
returns-then-has c = λ from same was.
    let change = c.args.change.now in
    c.holds.ensures ∙ ap (said (world_of change.setting.now) (set_of change.run.now)) c.requires.plain
