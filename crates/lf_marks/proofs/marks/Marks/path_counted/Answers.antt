use Rattle.std.proofs.Common.{◌≡◌, ◌∙◌, ap, ℕ, reverse, arith}
use Rattle.lf_marks.specs.Arena.{look}
use Rattle.lf_marks.specs.Walks.{led_from}
use Rattle.lf_marks.proofs.PathLemmas.{parent-above, parent-before, parent-led, turned}
use Rattle.lf_marks.proofs.marks.Marks.path_counted.Goals as goal

pub loop-at-preserved : goal.loop-at-preserved
loop-at-preserved g c =
    let m = c.args.self.now in
    let u = parent-led m.level m.start m.sets.items m.state.sound c.loop-at.at c.index-set.result.now c.loop-at.invariant.0 c.loop-at-test.true
    c.index-set.ensures c.args.place c.loop-at.path.items c.push.new.self.items c.loop-at.invariant.1 c.in_ok-push.ensures.items in
    let d = parent-above m.level m.start m.sets.items m.state.sound c.loop-at.at c.index-set.result.now c.loop-at.invariant.0 c.loop-at-test.true
    c.index-set.ensures in
    (u.0, u.1, omega (arith, c.loop-at.invariant.2, c.tick.ensures, d))

pub loop-at-smaller : goal.loop-at-smaller
loop-at-smaller g c =
    let m = c.args.self.now in
    parent-before m.level m.start m.sets.items m.state.sound c.loop-at.at c.index-set.result.now c.loop-at.invariant.0 c.loop-at-test.true
    c.index-set.ensures

pub returns-in_err-push-clause-steps : goal.returns-in_err-push-clause-steps
returns-in_err-push-clause-steps g c =
    let m = c.args.self.now in
    let d = parent-above m.level m.start m.sets.items m.state.sound c.loop-at.at c.index-set.result.now c.loop-at.invariant.0 c.loop-at-test.true
    c.index-set.ensures in
    omega (arith, c.loop-at.invariant.2, c.tick.ensures, d)

pub returns-clause-path : goal.returns-clause-path
returns-clause-path g c =
    let m = c.args.self.now in
    let root : 0 ≡ c.loop-at.at = omega (arith, c.loop-at-test.false) in
    let back = turned c.loop-at.path.items c.reverse.new.self c.loop-at.path.len (c.reverse.ensures.after ∙ ap reverse c.as_mut_slice.ensures.value)
    (omega (arith, c.loop-at.path.ok)) in
    ap (led_from (look m.sets.items) 0) back ∙ ap (λ (x : ℕ). led_from (look m.sets.items) x (reverse c.loop-at.path.items)) root
    ∙ c.loop-at.invariant.1

pub returns-clause-steps : goal.returns-clause-steps
returns-clause-steps g c = omega (arith, c.loop-at.invariant.2)
