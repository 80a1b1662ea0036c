use Rattle.std.proofs.Common.{◌≡◌, ◌∙◌, ℕ, ◌+◌, sym, subst, arith, drop, nat_lt}
use Rattle.std.specs.Prelude.{◌&&◌, ◌==◌}
use Rattle.std.specs.List.{slice_get}
use Rattle.lf_marks.specs.Answers.{mark_for}
use Rattle.lf_marks.specs.Arena.{look}
use Rattle.lf_marks.specs.Claims.{standing, AreAscending}
use Rattle.lf_marks.specs.Steps.{Mark, kids_beneath}
use Rattle.lf_marks.specs.Walks.{IsRemarked, once, times}
use Rattle.lf_marks.proofs.AnswerLemmas.{is-answer}
use Rattle.lf_marks.proofs.ClaimLemmas.{unclaimed, removed-claim}
use Rattle.lf_marks.proofs.SetLemmas.{claimed-kids}
use Rattle.lf_marks.proofs.StateLemmas.{claim-some, claim-was, claim-within, claim-led, state-answered, answered-is, once-le}
use Rattle.lf_marks.proofs.marks.Marks.answer.Goals as goal

pub claim_of-requires : goal.claim_of-requires
claim_of-requires c = subst AreAscending (sym c.standing.ensures) c.args.self.now.state.listed.ascending

pub unreachable-requires : goal.unreachable-requires
unreachable-requires c =
    let m = c.args.self.now in
    let found = claim-some m.level m.start m.sets.items (drop m.at m.queue.items) m.coming.items m.opened.items (standing m.claims) m.untaken m.waiting
    m.answered m.state c.args.ticket c.requires in
    let none = rw c.standing.ensures at c.in_default.ensures in
    none found.0 unclaimed found.1.within (found.1.ticket unclaimed)

pub put_state-requires-clause-within : goal.put_state-requires-clause-within
put_state-requires-clause-within c =
    let m = c.args.self.now in
    let found = rw c.standing.ensures at c.in-Some.ensures in
    let less =
    removed-claim (standing m.claims) (standing c.remove-place.new.self) c.args.ticket c.in-Some.index c.remove-place.result found c.remove-place.ensures.value
    c.remove-place.ensures.items c.remove-place.ensures.count in
    claim-within m.level m.start m.sets.items (drop m.at m.queue.items) m.coming.items m.opened.items (standing m.claims) m.untaken m.waiting
    m.answered m.state c.args.ticket c.remove-place.result.place (standing c.remove-place.new.self) less

pub put_state-requires-clause-first : goal.put_state-requires-clause-first
put_state-requires-clause-first c =
    let m = c.args.self.now in
    let found = rw c.standing.ensures at c.in-Some.ensures in
    let less =
    removed-claim (standing m.claims) (standing c.remove-place.new.self) c.args.ticket c.in-Some.index c.remove-place.result found c.remove-place.ensures.value
    c.remove-place.ensures.items c.remove-place.ensures.count in
    (claimed-kids c.args.ticket (slice_get m.sets.items c.remove-place.result.place)
    (claim-was m.level m.start m.sets.items (drop m.at m.queue.items) m.coming.items m.opened.items (standing m.claims) m.untaken m.waiting
    m.answered m.state c.args.ticket c.remove-place.result.place (standing c.remove-place.new.self) less)).0 ∙ sym c.state_for.ensures.first

pub put_state-requires-clause-taken : goal.put_state-requires-clause-taken
put_state-requires-clause-taken c =
    let m = c.args.self.now in
    let found = rw c.standing.ensures at c.in-Some.ensures in
    let less =
    removed-claim (standing m.claims) (standing c.remove-place.new.self) c.args.ticket c.in-Some.index c.remove-place.result found c.remove-place.ensures.value
    c.remove-place.ensures.items c.remove-place.ensures.count in
    (claimed-kids c.args.ticket (slice_get m.sets.items c.remove-place.result.place)
    (claim-was m.level m.start m.sets.items (drop m.at m.queue.items) m.coming.items m.opened.items (standing m.claims) m.untaken m.waiting
    m.answered m.state c.args.ticket c.remove-place.result.place (standing c.remove-place.new.self) less)).1 ∙ sym c.state_for.ensures.taken

pub invariant_of-self : goal.invariant_of-self
invariant_of-self c =
    let m = c.args.self.now in
    let found = rw c.standing.ensures at c.in-Some.ensures in
    let less =
    removed-claim (standing m.claims) (standing c.remove-place.new.self) c.args.ticket c.in-Some.index c.remove-place.result found c.remove-place.ensures.value
    c.remove-place.ensures.items c.remove-place.ensures.count in
    let is : c.kids_of-kids.result ≡ kids_beneath (mark_for c.args.answer) = c.kids_of-kids.ensures.value in
    let re = subst (λ (k : Mark). IsRemarked (look m.sets.items) (look c.put_state.new.sets.items) c.remove-place.result.place k) c.state_for.ensures.mark
    c.put_state.ensures.remarked in
    let noted =
    subst (λ (k : ℕ). (y : ℕ) → times y c.put_if.new.places.items ≡ times y m.coming.items + once (nat_lt 0 k && c.remove-place.result.place == y)) is
    c.put_if.ensures.times in
    let s = state-answered m.level m.start m.sets.items (drop m.at m.queue.items) m.coming.items m.opened.items (standing m.claims) m.untaken m.waiting
    m.answered m.state c.args.ticket c.remove-place.result.place (standing c.remove-place.new.self) less c.put_state.new.sets.items
    c.put_state.ensures.length (mark_for c.args.answer) (is-answer c.args.answer) re c.put_if.new.places.items noted
    (omega (arith, is, c.kids_of-kids.ensures.few)) in record {
      state = rw (c.from.ensures, is) s;
      bare = c.put_state.ensures.bare m.bare;
      coming_room = omega (
        arith,
        m.coming_room,
        less.count,
        c.put_if.ensures.length,
        c.put_if.ensures.capacity,
        once-le (nat_lt 0 c.kids_of-kids.result),
      );
      opened_room = omega (arith, m.opened_room, less.count);
    }

pub returns-clause-answered : goal.returns-clause-answered
returns-clause-answered c =
    let m = c.args.self.now in
    let found = rw c.standing.ensures at c.in-Some.ensures in
    let less =
    removed-claim (standing m.claims) (standing c.remove-place.new.self) c.args.ticket c.in-Some.index c.remove-place.result found c.remove-place.ensures.value
    c.remove-place.ensures.items c.remove-place.ensures.count in
    let re = subst (λ (k : Mark). IsRemarked (look m.sets.items) (look c.put_state.new.sets.items) c.remove-place.result.place k) c.state_for.ensures.mark
    c.put_state.ensures.remarked in
    λ p h. answered-is m.level m.start m.sets.items (drop m.at m.queue.items) m.coming.items m.opened.items (standing m.claims) m.untaken m.waiting
    m.answered m.state c.args.ticket c.remove-place.result.place (standing c.remove-place.new.self) less c.put_state.new.sets.items
    c.put_state.ensures.length (mark_for c.args.answer) (is-answer c.args.answer) re p
    (claim-led m.level m.start m.sets.items (drop m.at m.queue.items) m.coming.items m.opened.items (standing m.claims) m.untaken m.waiting
    m.answered m.state c.args.ticket c.remove-place.result.place (standing c.remove-place.new.self) less p h)
