use Rattle.std.proofs.Common.{◌∙◌, arith, drop}
use Rattle.std.specs.List.{slice_get}
use Rattle.lf_marks.specs.Claims.{standing}
use Rattle.lf_marks.proofs.SetLemmas.{open-kids}
use Rattle.lf_marks.proofs.StateLemmas.{last-some, last-short, last-times, last-read, again-was, again-within, again-took, state-again}
use Rattle.lf_marks.proofs.marks.Marks.claim_again.Goals as goal

pub put_state-requires-clause-within : goal.put_state-requires-clause-within
put_state-requires-clause-within c =
    let m = c.args.self.now in
    let some = last-some m.opened.items c.index-place.result.now c.len.result c.requires.some (omega (arith, c.len.ensures, m.opened.ok))
    c.index-place.ensures in
    again-within m.level m.start m.sets.items (drop m.at m.queue.items) m.coming.items m.opened.items (standing m.claims) m.untaken m.waiting
    m.answered m.state c.index-place.result.now some

pub put_state-requires-clause-first : goal.put_state-requires-clause-first
put_state-requires-clause-first c =
    let m = c.args.self.now in
    let some = last-some m.opened.items c.index-place.result.now c.len.result c.requires.some (omega (arith, c.len.ensures, m.opened.ok))
    c.index-place.ensures in
    (open-kids (slice_get m.sets.items c.index-place.result.now) (again-was m.level m.start m.sets.items
    (drop m.at m.queue.items) m.coming.items m.opened.items (standing m.claims) m.untaken m.waiting
    m.answered m.state c.index-place.result.now some)).0

pub put_state-requires-clause-taken : goal.put_state-requires-clause-taken
put_state-requires-clause-taken c =
    let m = c.args.self.now in
    let some = last-some m.opened.items c.index-place.result.now c.len.result c.requires.some (omega (arith, c.len.ensures, m.opened.ok))
    c.index-place.ensures in
    (open-kids (slice_get m.sets.items c.index-place.result.now) (again-was m.level m.start m.sets.items
    (drop m.at m.queue.items) m.coming.items m.opened.items (standing m.claims) m.untaken m.waiting
    m.answered m.state c.index-place.result.now some)).1

pub invariant_of-self : goal.invariant_of-self
invariant_of-self c =
    let m = c.args.self.now in
    let fewer = last-times m.opened.items c.pop.new.self.items c.index-place.result.now m.opened.len c.len.result c.requires.some
    (omega (arith, m.opened.ok)) (omega (arith, c.len.ensures, m.opened.ok)) c.pop.ensures.rest c.index-place.ensures in
    let short = last-short m.opened.items c.pop.new.self.items m.opened.len c.requires.some (omega (arith, m.opened.ok)) c.pop.ensures.rest in
    let s = state-again m.level m.start m.sets.items (drop m.at m.queue.items) m.coming.items m.opened.items (standing m.claims) m.untaken m.waiting
    m.answered m.state c.put_state.new.sets.items c.index-place.result.now c.args.ticket c.pop.new.self.items c.put_state.ensures.length
    c.put_state.ensures.remarked fewer short c.requires.above in record {
      state = rw c.add.ensures.items s;
      bare = c.put_state.ensures.bare m.bare;
      coming_room = omega (arith, c.requires.room.coming, c.add.ensures.count);
      opened_room = omega (arith, m.opened_room, short, c.pop.ensures.capacity, c.add.ensures.count);
    }

pub returns-clause-took : goal.returns-clause-took
returns-clause-took c p led =
    let m = c.args.self.now in
    let fewer = last-times m.opened.items c.pop.new.self.items c.index-place.result.now m.opened.len c.len.result c.requires.some
    (omega (arith, m.opened.ok)) (omega (arith, c.len.ensures, m.opened.ok)) c.pop.ensures.rest c.index-place.ensures in
    let short = last-short m.opened.items c.pop.new.self.items m.opened.len c.requires.some (omega (arith, m.opened.ok)) c.pop.ensures.rest in
    again-took m.level m.start m.sets.items (drop m.at m.queue.items) m.coming.items m.opened.items (standing m.claims) m.untaken m.waiting
    m.answered m.state c.put_state.new.sets.items c.index-place.result.now c.args.ticket c.pop.new.self.items c.put_state.ensures.length
    c.put_state.ensures.remarked fewer short p
    (led ∙ last-read m.opened.items c.index-place.result.now c.len.result c.requires.some (omega (arith, c.len.ensures, m.opened.ok))
    c.index-place.ensures)
