use Rattle.std.proofs.Common.{arith, drop, get_or}
use Rattle.std.specs.List.{slice_get}
use Rattle.lf_marks.specs.Claims.{standing}
use Rattle.lf_marks.proofs.ClaimLemmas.{unclaimed, claim-here, removed-claim}
use Rattle.lf_marks.proofs.SetLemmas.{claimed-kids}
use Rattle.lf_marks.proofs.StateLemmas.{claim-was, claim-within, claim-led, state-freed, freed-back}
use Rattle.lf_marks.proofs.marks.Marks.free.Goals as goal

pub put_state-requires-clause-within : goal.put_state-requires-clause-within
put_state-requires-clause-within c =
    let m = c.args.self.now in
    let t = (get_or (standing m.claims) c.args.index unclaimed).ticket in
    let less = removed-claim (standing m.claims) (standing c.remove-place.new.self) t c.args.index c.remove-place.result
    (claim-here (standing m.claims) c.args.index c.requires)
    c.remove-place.ensures.value c.remove-place.ensures.items c.remove-place.ensures.count in
    claim-within m.level m.start m.sets.items (drop m.at m.queue.items) m.coming.items m.opened.items (standing m.claims) m.untaken m.waiting
    m.answered m.state t c.remove-place.result.place (standing c.remove-place.new.self) less

pub put_state-requires-clause-first : goal.put_state-requires-clause-first
put_state-requires-clause-first c =
    let m = c.args.self.now in
    let t = (get_or (standing m.claims) c.args.index unclaimed).ticket in
    let less = removed-claim (standing m.claims) (standing c.remove-place.new.self) t c.args.index c.remove-place.result
    (claim-here (standing m.claims) c.args.index c.requires)
    c.remove-place.ensures.value c.remove-place.ensures.items c.remove-place.ensures.count in
    (claimed-kids t (slice_get m.sets.items c.remove-place.result.place)
    (claim-was m.level m.start m.sets.items (drop m.at m.queue.items) m.coming.items m.opened.items (standing m.claims) m.untaken m.waiting
    m.answered m.state t c.remove-place.result.place (standing c.remove-place.new.self) less)).0

pub put_state-requires-clause-taken : goal.put_state-requires-clause-taken
put_state-requires-clause-taken c =
    let m = c.args.self.now in
    let t = (get_or (standing m.claims) c.args.index unclaimed).ticket in
    let less = removed-claim (standing m.claims) (standing c.remove-place.new.self) t c.args.index c.remove-place.result
    (claim-here (standing m.claims) c.args.index c.requires)
    c.remove-place.ensures.value c.remove-place.ensures.items c.remove-place.ensures.count in
    (claimed-kids t (slice_get m.sets.items c.remove-place.result.place)
    (claim-was m.level m.start m.sets.items (drop m.at m.queue.items) m.coming.items m.opened.items (standing m.claims) m.untaken m.waiting
    m.answered m.state t c.remove-place.result.place (standing c.remove-place.new.self) less)).1

pub invariant_of-self : goal.invariant_of-self
invariant_of-self c =
    let m = c.args.self.now in
    let t = (get_or (standing m.claims) c.args.index unclaimed).ticket in
    let less = removed-claim (standing m.claims) (standing c.remove-place.new.self) t c.args.index c.remove-place.result
    (claim-here (standing m.claims) c.args.index c.requires)
    c.remove-place.ensures.value c.remove-place.ensures.items c.remove-place.ensures.count in
    let s = state-freed m.level m.start m.sets.items (drop m.at m.queue.items) m.coming.items m.opened.items (standing m.claims) m.untaken m.waiting
    m.answered m.state t c.remove-place.result.place (standing c.remove-place.new.self) less c.put_state.new.sets.items
    c.put_state.ensures.length c.put_state.ensures.remarked in record {
      state = rw c.push_reserved.ensures.items s;
      bare = c.put_state.ensures.bare m.bare;
      coming_room = omega (arith, m.coming_room, less.count);
      opened_room = omega (
        arith,
        m.opened_room,
        less.count,
        c.push_reserved.ensures.len,
        c.push_reserved.ensures.capacity,
        m.opened.ok,
        c.push_reserved.new.self.ok,
      );
    }

pub returns-clause-gave_back : goal.returns-clause-gave_back
returns-clause-gave_back c p t found h =
    let m = c.args.self.now in
    let less = removed-claim (standing m.claims) (standing c.remove-place.new.self) t c.args.index c.remove-place.result found
    c.remove-place.ensures.value c.remove-place.ensures.items
    c.remove-place.ensures.count in
    freed-back m.level m.start m.sets.items (drop m.at m.queue.items) m.coming.items m.opened.items (standing m.claims) m.untaken m.waiting
    m.answered m.state t c.remove-place.result.place (standing c.remove-place.new.self) less c.put_state.new.sets.items
    c.put_state.ensures.length c.put_state.ensures.remarked p (claim-led m.level m.start m.sets.items
    (drop m.at m.queue.items) m.coming.items m.opened.items (standing m.claims) m.untaken m.waiting
    m.answered m.state t c.remove-place.result.place (standing c.remove-place.new.self) less p h)
