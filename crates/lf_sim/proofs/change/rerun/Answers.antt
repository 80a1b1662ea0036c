use Rattle.std.proofs.Common.{sym, subst, ◌∙◌}
use Rattle.lf_sim.specs.Settings.{world_of}
use Rattle.lf_sim.specs.Changes.{AreSameBut}
use Rattle.lf_sim.proofs.WaysLemmas.{way_start, covers_start, same-but}
use Rattle.lf_sim.proofs.change.rerun.Goals as goal

pub carry-requires-clause-way : goal.carry-requires-clause-way
carry-requires-clause-way g c =
    let w = world_of c.args.setting.now in
    let played = c.requires in
    way_start w c.set-from.result c.new-to.result.set c.args.run.now c.rename.new.self played (sym c.set-from.ensures)
    (c.rename.ensures.set ∙ sym c.new-to.ensures)
    (c.rename.ensures.size w (record { nodes = played.nodes; horizon = played.horizon; pause_length = played.pause_length }))
    c.rename.ensures.cells

pub carry-requires-clause-marks : goal.carry-requires-clause-marks
carry-requires-clause-marks g c =
    let w = world_of c.args.setting.now in
    let played = c.requires in
    covers_start w c.set-from.result c.new-to.result.set c.args.run.now c.rename.new.self c.touched-marks.result.points played (sym c.set-from.ensures)
    c.rename.ensures.cells c.touched-marks.ensures.from c.touched-marks.ensures.to

pub returns-clause-same : goal.returns-clause-same
returns-clause-same g c =
    let w = world_of c.args.setting.now in
    let same = same-but w c.set-from.result c.new-to.result.set c.carry.new.run c.carry.new.marks.points c.carry.ensures.way c.carry.ensures.marks in
    subst (λ F. AreSameBut w F c.args.set.now c.carry.new.marks.points) c.set-from.ensures
    (subst (λ F. AreSameBut w c.set-from.result F c.carry.new.marks.points) c.new-to.ensures same)
