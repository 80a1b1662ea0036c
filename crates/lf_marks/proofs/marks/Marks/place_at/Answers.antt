use Rattle.std.proofs.Common.{◌∙◌, refl, arith}
use Rattle.lf_marks.proofs.PathLemmas.{step-led}
use Rattle.lf_marks.proofs.marks.Marks.place_at.Goals as goal

pub path-init : goal.path-init
path-init c = (c.args.self.now.state.sound.some, refl)

pub path-preserved : goal.path-preserved
path-preserved c =
    let m = c.args.self.now in
    let s = step-led m.level m.start m.sets.items m.state.sound c.path.place c.path.kid-index c.args.path.now c.taken_kids-first.result.0
    c.taken_kids-first.result.1 c.taken_kids-first.ensures.first c.taken_kids-first.ensures.taken c.path-test.true c.if-kid-taken.false in
    (s.0, s.1 ∙ c.path.invariant.1)

pub overflow_add-place : goal.overflow_add-place
overflow_add-place c =
    let m = c.args.self.now in
    let s = step-led m.level m.start m.sets.items m.state.sound c.path.place c.path.kid-index c.args.path.now c.taken_kids-first.result.0
    c.taken_kids-first.result.1 c.taken_kids-first.ensures.first c.taken_kids-first.ensures.taken c.path-test.true c.if-kid-taken.false in
    omega (arith, s.0, m.sets.ok, m.sets.small)
