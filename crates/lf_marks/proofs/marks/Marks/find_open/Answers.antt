use Rattle.std.proofs.Common.{drop, arith}
use Rattle.lf_marks.specs.Claims.{standing}
use Rattle.lf_marks.proofs.NextLemmas.{ready-next}
use Rattle.lf_marks.proofs.StepLemmas.{open-few}
use Rattle.lf_marks.proofs.marks.Marks.find_open.Goals as goal

pub returns-clause-ready : goal.returns-clause-ready
returns-clause-ready g c =
    let m = c.args.self.now in
    let next = rw c.in-Some.is at c.in_ok-path.ensures.next in
    ready-next m.level m.start m.sets.items m.queue.items m.coming.items m.opened.items m.at (standing m.claims) m.untaken m.waiting m.answered m.state
    c.in-Some.path.items next.back next.kid

pub returns-clause-steps : goal.returns-clause-steps
returns-clause-steps g c =
    let m = c.args.self.now in
    let next = rw c.in-Some.is at c.in_ok-path.ensures.next in
    let ready = ready-next m.level m.start m.sets.items m.queue.items m.coming.items m.opened.items m.at (standing m.claims) m.untaken m.waiting
    m.answered m.state c.in-Some.path.items next.back next.kid in
    let few = open-few m.level m.start m.sets.items (drop m.at m.queue.items) m.coming.items m.opened.items (standing m.claims) m.untaken m.waiting
    m.answered m.state c.in-Some.path.items ready in
    omega (arith, few, c.next_path.ensures.steps)
