use Rattle.std.proofs.Common.{◌+◌, refl, arith, length, drop}
use Rattle.std.proofs.lemmas.Option.{slice_get_read}
use Rattle.lf_marks.specs.Arena.{look}
use Rattle.lf_marks.specs.Claims.{standing}
use Rattle.lf_marks.proofs.NextLemmas.{kid-path}
use Rattle.lf_marks.proofs.StateLemmas.{next-within, next-level, queue-head}
use Rattle.lf_marks.proofs.marks.Marks.path_next.Goals as goal

pub path_counted-requires : goal.path_counted-requires
path_counted-requires g c =
    let m = c.args.self.now in
    let head = queue-head m.queue.items m.at c.index-parent.result.now c.requires c.index-parent.ensures in
    next-within m.level m.start m.sets.items (drop m.at m.queue.items) m.coming.items m.opened.items (standing m.claims) m.untaken m.waiting
    m.answered m.state c.index-parent.result.now (drop (m.at + 1) m.queue.items) head

pub taken-requires : goal.taken-requires
taken-requires g c =
    let m = c.args.self.now in
    let head = queue-head m.queue.items m.at c.index-parent.result.now c.requires c.index-parent.ensures in
    next-within m.level m.start m.sets.items (drop m.at m.queue.items) m.coming.items m.opened.items (standing m.claims) m.untaken m.waiting
    m.answered m.state c.index-parent.result.now (drop (m.at + 1) m.queue.items) head

pub returns-clause-path : goal.returns-clause-path
returns-clause-path g c =
    let m = c.args.self.now in record {
      parent = c.index-parent.result.now;
      front = c.in_ok-path.path.items;
      first = slice_get_read m.queue.items (length m.queue.items) m.at c.index-parent.result.now refl c.requires c.index-parent.ensures;
      led = c.in_ok-path.ensures.path;
      whole = kid-path c.push.new.self.items c.in_ok-path.path.items c.taken.result (look m.sets.items c.index-parent.result.now).taken
          c.in_ok-push.ensures.items c.taken.ensures;
    }

pub returns-in_err-path-clause-steps : goal.returns-in_err-path-clause-steps
returns-in_err-path-clause-steps g c =
    let m = c.args.self.now in
    let head = queue-head m.queue.items m.at c.index-parent.result.now c.requires c.index-parent.ensures in
    let level = next-level m.level m.start m.sets.items (drop m.at m.queue.items) m.coming.items m.opened.items (standing m.claims) m.untaken m.waiting
    m.answered m.state c.index-parent.result.now (drop (m.at + 1) m.queue.items) head in
    omega (arith, c.path_counted.ensures.steps, level)

pub returns-in_err-push-clause-steps : goal.returns-in_err-push-clause-steps
returns-in_err-push-clause-steps g c =
    let m = c.args.self.now in
    let head = queue-head m.queue.items m.at c.index-parent.result.now c.requires c.index-parent.ensures in
    let level = next-level m.level m.start m.sets.items (drop m.at m.queue.items) m.coming.items m.opened.items (standing m.claims) m.untaken m.waiting
    m.answered m.state c.index-parent.result.now (drop (m.at + 1) m.queue.items) head in
    omega (arith, c.path_counted.ensures.steps, c.tick.ensures, level)

pub returns-clause-steps : goal.returns-clause-steps
returns-clause-steps g c =
    let m = c.args.self.now in
    let head = queue-head m.queue.items m.at c.index-parent.result.now c.requires c.index-parent.ensures in
    let level = next-level m.level m.start m.sets.items (drop m.at m.queue.items) m.coming.items m.opened.items (standing m.claims) m.untaken m.waiting
    m.answered m.state c.index-parent.result.now (drop (m.at + 1) m.queue.items) head in
    omega (arith, c.path_counted.ensures.steps, c.tick.ensures, level)
