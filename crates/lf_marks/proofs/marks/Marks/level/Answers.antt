use Rattle.std.proofs.Common.{length, drop}
use Rattle.lf_marks.specs.Arena.{look}
use Rattle.lf_marks.specs.Claims.{standing}
use Rattle.lf_marks.proofs.ShapeLemmas.{shape-is}
use Rattle.lf_marks.proofs.marks.Marks.level.Goals as goal

pub returns-clause-shape : goal.returns-clause-shape
returns-clause-shape c =
    let m = c.args.self.now in
    shape-is m.level m.start (length m.sets.items) (look m.sets.items) m.state.sound (drop m.at m.queue.items) m.coming.items m.opened.items
    (standing m.claims) m.state.listed
