use Rattle.std.proofs.Common.{◌∙◌, sym, arith, drop}
use Rattle.std.proofs.lemmas.Result.{IfOk-weaker}
use Rattle.lf_marks.specs.Claims.{standing}
use Rattle.lf_marks.proofs.StateLemmas.{last-some, last-read, again-within, again-level}
use Rattle.lf_marks.proofs.marks.Marks.path_again.Goals as goal

pub path_counted-requires : goal.path_counted-requires
path_counted-requires g c =
    let m = c.args.self.now in
    let some = last-some m.opened.items c.index-place.result.now c.len.result c.requires (omega (arith, c.len.ensures, m.opened.ok))
    c.index-place.ensures in
    again-within m.level m.start m.sets.items (drop m.at m.queue.items) m.coming.items m.opened.items (standing m.claims) m.untaken m.waiting
    m.answered m.state c.index-place.result.now some

pub returns-clause-path : goal.returns-clause-path
returns-clause-path g c =
    let m = c.args.self.now in
    let last = last-read m.opened.items c.index-place.result.now c.len.result c.requires (omega (arith, c.len.ensures, m.opened.ok))
    c.index-place.ensures in
    IfOk-weaker c.path_counted.result _ _ (λ path led. led ∙ sym last) c.path_counted.ensures.path

pub returns-clause-steps : goal.returns-clause-steps
returns-clause-steps g c =
    let m = c.args.self.now in
    let some = last-some m.opened.items c.index-place.result.now c.len.result c.requires (omega (arith, c.len.ensures, m.opened.ok))
    c.index-place.ensures in
    let level = again-level m.level m.start m.sets.items (drop m.at m.queue.items) m.coming.items m.opened.items (standing m.claims) m.untaken m.waiting
    m.answered m.state c.index-place.result.now some in
    omega (arith, c.path_counted.ensures.steps, level)
